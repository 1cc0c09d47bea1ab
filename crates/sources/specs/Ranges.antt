-- Sums and largest values over a range of whole numbers.
use Rattle.std.specs.Prelude.{ℕ, zero, suc, ◌+◌, max, Bool, true, false}

-- f i + f (i + 1) + ..: the sum of k values of f, from i on.
abbrev pub sum_from : (ℕ → ℕ) → ℕ → ℕ → ℕ
sum_from f i zero = 0
sum_from f i (suc k) = f i + sum_from f (suc i) k

-- The largest of f 0 to f (n - 1), or 0.
abbrev pub largest : ℕ → (ℕ → ℕ) → ℕ
largest zero f = 0
largest (suc n) f = max (f n) (largest n f)

-- The largest n up to a bound at which a test holds, and 0 where it holds at none.
abbrev pub largest_upto : ℕ → (ℕ → Bool) → ℕ
largest_upto zero holds = 0
largest_upto (suc n) holds = elim (holds (suc n)) [ true ↦ suc n | false ↦ largest_upto n holds ]
