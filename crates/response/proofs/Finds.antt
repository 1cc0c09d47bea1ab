-- Numbers found in a range by a test of each. Assumes nothing.
use Rattle.std.proofs.Common.{ℕ, zero, suc, ◌<◌, ◌≤◌, ◌⊎◌, inl, inr, ⊎_elim, arith}
use Rattle.std.proofs.lemmas.Bool.{cases_eq}

-- Where each number has one property or another, all below n have the one, or some number below n has the other.
pub all_or_some : (P W : ℕ → Type 0) → ((i : ℕ) → P i ⊎ W i) → (n : ℕ) → ((i : ℕ) → i < n → P i) ⊎ ((i : ℕ) × (i < n) × W i)
all_or_some P W test zero = inl (λ i l. absurd (omega arith))
all_or_some P W test (suc n) =
    ⊎_elim
    (λ all. ⊎_elim
    (λ here. inl (λ i l. ⊎_elim (λ e. rw e here) (λ ne. all i (omega arith)) (cases_eq i n)))
    (λ other. inr (n, omega arith, other))
    (test n))
    (λ some. inr (some.0, omega (arith, some.1), some.2))
    (all_or_some P W test n)

-- Where each number has one property or another, and 0 has the one, there is a last number up to n that has it.
pub last_upto : (P W : ℕ → Type 0) → ((i : ℕ) → P i ⊎ W i) → P 0 → (n : ℕ) → (t : ℕ) × (t ≤ n) × P t × ((i : ℕ) → t < i → i ≤ n → W i)
last_upto P W test start zero = (0, omega arith, start, λ i l h. absurd (omega arith))
last_upto P W test start (suc n) =
    ⊎_elim
    (λ here. (suc n, omega arith, here, λ i l h. absurd (omega arith)))
    (λ other.
    let below = last_upto P W test start n in
    (below.0, omega (arith, below.1), below.2, λ i l h. ⊎_elim (λ e. rw e other) (λ ne. below.3 i l (omega arith)) (cases_eq i (suc n))))
    (test (suc n))
