-- Filling a table in order. Assumes nothing.
use Rattle.std.proofs.Common.{◌≡◌, ℕ, ◌+◌, ◌<◌, List, length, get_or, set, ap, ◌∙◌, ⊎_elim, arith}
use Rattle.std.proofs.lemmas.List.{get_or-set_same, get_or-set_other}
use Rattle.std.proofs.lemmas.Bool.{cases_eq}

-- The first n places of a list hold the values of f.
abbrev pub Filled : (ℕ → ℕ) → ℕ → List ℕ → Type 0
Filled f n xs = (k : ℕ) → k < n → get_or xs k 0 ≡ f k

-- Writing the next value fills one place more.
pub filled_more : (f : ℕ → ℕ) (n : ℕ) (xs : List ℕ) (v : ℕ) → n < length xs → v ≡ f n → Filled f n xs → Filled f (n + 1) (set xs n v)
filled_more f n xs v inside is filled k l =
    ⊎_elim
    (λ e. ap (λ i. get_or (set xs n v) i 0) e ∙ get_or-set_same xs n v 0 inside ∙ is ∙ ap f (omega arith))
    (λ ne. get_or-set_other xs n k v 0 ne ∙ filled k (omega arith))
    (cases_eq k n)
