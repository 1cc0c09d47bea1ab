-- Sums over a range in which few values count. Assumes nothing.
use Rattle.std.proofs.Common.{◌≡◌, ℕ, zero, suc, ◌+◌, ◌-◌, ◌<◌, ◌≤◌, refl, ap, ◌∙◌, ⊎_elim, zero-add, arith}
use Rattle.std.proofs.lemmas.Bool.{cases_eq, cases_lt}
use Rattle.sources.specs.Ranges.{sum_from}
use Rattle.sources.specs.RangesLemmas.{sum_from_le, sum_from_split, sum_from_last}

-- A sum is less than another whose values are at least as large in the range, and larger at one place of it.
pub sum_from_lt : (f g : ℕ → ℕ) (i k : ℕ) → ((j : ℕ) → i ≤ j → j < i + k → f j ≤ g j) → (p : ℕ) → i ≤ p → p < i + k → f p < g p → sum_from f i k < sum_from g i k
sum_from_lt f g i zero h p low high l = absurd (omega arith)
sum_from_lt f g i (suc k) h p low high l =
    let first : f i ≤ g i = h i (omega arith) (omega arith) in
    let others : sum_from f (suc i) k ≤ sum_from g (suc i) k = sum_from_le f g (suc i) k (λ j a b. h j (omega arith) (omega arith)) in
    ⊎_elim
    (λ e. let less : f i < g i = rw e at l in omega arith)
    (λ ne. omega (arith, sum_from_lt f g (suc i) k (λ j a b. h j (omega arith) (omega arith)) p (omega arith) (omega arith) l))
    (cases_eq p i)

-- A sum of values that are all 0 is 0.
pub sum_from_zero : (f : ℕ → ℕ) (i k : ℕ) → ((j : ℕ) → i ≤ j → j < i + k → f j ≡ 0) → sum_from f i k ≡ 0
sum_from_zero f i zero h = refl
sum_from_zero f i (suc k) h =
    let first : f i ≡ 0 = h i (omega arith) (omega arith) in
    let rest : sum_from f (suc i) k ≡ 0 = sum_from_zero f (suc i) k (λ j a b. h j (omega arith) (omega arith)) in
    omega arith

-- Some value of a sum above 0 is above 0.
pub sum_from_positive : (f : ℕ → ℕ) (i k : ℕ) → 0 < sum_from f i k → (j : ℕ) × (i ≤ j) × (j < i + k) × (0 < f j)
sum_from_positive f i zero l = absurd (omega arith)
sum_from_positive f i (suc k) l =
    ⊎_elim
    (λ some. (i, omega arith, omega arith, some))
    (λ nothing. let rest = sum_from_positive f (suc i) k (omega arith) in (rest.0, omega (arith, rest.1), omega (arith, rest.2), rest.3))
    (cases_lt 0 (f i))

-- A sum of which at most one value is above 0 is at most what each value is.
pub sum_from_one : (f : ℕ → ℕ) (i k b : ℕ) → ((j : ℕ) → i ≤ j → j < i + k → f j ≤ b) →
    ((p q : ℕ) → i ≤ p → p < i + k → i ≤ q → q < i + k → 0 < f p → 0 < f q → p ≡ q) → sum_from f i k ≤ b
sum_from_one f i zero b low one = omega arith
sum_from_one f i (suc k) b low one =
    let first : f i ≤ b = low i (omega arith) (omega arith) in
    let others : sum_from f (suc i) k ≤ b = sum_from_one f (suc i) k b (λ j l h. low j (omega arith) (omega arith)) (λ p q l h l' h'. one p q (omega arith) (omega arith) (omega arith) (omega arith)) in
    ⊎_elim
    (λ some. let nothing : sum_from f (suc i) k ≡ 0 = sum_from_zero f (suc i) k (λ j l h. other j l h some) in omega arith)
    (λ nothing. omega arith)
    (cases_lt 0 (f i))
  where
    other : (j : ℕ) → suc i ≤ j → j < suc i + k → 0 < f i → f j ≡ 0
    other j l h some =
        let not_more : 0 < f j → ⊥ = λ more. omega (arith, one i j (omega arith) (omega arith) (omega arith) (omega arith) some more) in
        omega arith

-- A sum of n values is that of the first m of them and that of the others.
pub sum_from_parts : (f : ℕ → ℕ) (m n : ℕ) → m ≤ n → sum_from f 0 n ≡ sum_from f 0 m + sum_from f m (n - m)
sum_from_parts f m n l =
    let size : n ≡ m + (n - m) = omega arith in
    ap (sum_from f 0) size ∙ sum_from_split f 0 m (n - m) ∙ ap (λ p. sum_from f 0 m + sum_from f p (n - m)) (zero-add m)

-- A sum of one value more.
pub sum_from_more : (f : ℕ → ℕ) (m : ℕ) → sum_from f 0 (suc m) ≡ sum_from f 0 m + f m
sum_from_more f m = sum_from_last f 0 m ∙ ap (λ p. sum_from f 0 m + f p) (zero-add m)

-- A sum in which only the values from a up to z can be above 0 is the sum of those.
pub sum_from_only : (f : ℕ → ℕ) (a z n : ℕ) → a ≤ z → z ≤ n → ((j : ℕ) → j < a → f j ≡ 0) → ((j : ℕ) → z ≤ j → j < n → f j ≡ 0) → sum_from f 0 n ≡ sum_from f a (z - a)
sum_from_only f a z n low high before after =
    let first : sum_from f 0 a ≡ 0 = sum_from_zero f 0 a (λ j l h. before j (omega arith)) in
    let last : sum_from f z (n - z) ≡ 0 = sum_from_zero f z (n - z) (λ j l h. after j l (omega arith)) in
    omega (arith, sum_from_parts f z n high, sum_from_parts f a z low)
