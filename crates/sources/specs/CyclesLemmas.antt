-- The sums of successive entries of a cycle. Assumes nothing.
use Rattle.std.specs.Prelude.{◌≡◌, ℕ, zero, suc, ◌+◌, ◌*◌, ◌/◌, ◌%◌, ◌<◌, ◌≤◌, List, length, slice_index, refl}
use Rattle.std.proofs.Common.{sym, ap, ◌∙◌, zero-add, mod-lt, suc-mul, zero-mul, add-one, arith}
use Rattle.std.proofs.Math.Nat.{add-mod_right, mod-add-mod}
use Rattle.std.proofs.lemmas.Nat.{div-add-mod'}
use Rattle.sources.specs.Ranges.{sum_from}
use Rattle.sources.specs.Cycles.{FrameCycle, entry, run, cycle_work}
use Rattle.sources.specs.RangesLemmas.{sum_from_same, sum_from_le, sum_from_split, sum_from_last, sum_from_constant, largest_is_upper, largest_is_least, largest_is_one, largest_above}

-- Entries come round.
pub entry_again : (cycle : List ℕ) (n : ℕ) → entry cycle (n + length cycle) ≡ entry cycle n
entry_again cycle n = ap (λ i. slice_index cycle i) (add-mod_right n (length cycle))

pub run_again : (cycle : List ℕ) (p k : ℕ) → run cycle (p + length cycle) k ≡ run cycle p k
run_again cycle p k =
    sum_from_same (entry cycle) (entry cycle) (p + length cycle) p k
    (λ n. ap (entry cycle) (omega arith) ∙ entry_again cycle (p + n))

-- The sum of the first entries, one entry more.
pub run_more : (cycle : List ℕ) (i : ℕ) → run cycle 0 (i + 1) ≡ run cycle 0 i + entry cycle i
run_more cycle i = rw add-one (rw (zero-add i) at (sum_from_last (entry cycle) 0 i))

-- A run lies between two sums of first entries.
pub run_between : (cycle : List ℕ) (p k : ℕ) → run cycle 0 (p + k) ≡ run cycle 0 p + run cycle p k
run_between cycle p k = rw (zero-add p) at (sum_from_split (entry cycle) 0 p k)

-- A run may as well start in the first round.
pub run_mod : (cycle : List ℕ) (p k : ℕ) → run cycle (p % length cycle) k ≡ run cycle p k
run_mod cycle p k =
    sum_from_same (entry cycle) (entry cycle) (p % length cycle) p k
    (λ n. ap (λ i. slice_index cycle i) (mod-add-mod p (length cycle) n))

-- A whole round has one sum, wherever it starts.
pub round_same : (cycle : List ℕ) (p : ℕ) → run cycle p (length cycle) ≡ run cycle 0 (length cycle)
round_same cycle zero = refl
round_same cycle (suc p) =
    let ahead : run cycle p (suc (length cycle)) ≡ run cycle p (length cycle) + entry cycle (p + length cycle) = sum_from_last (entry cycle) p (length cycle) in
    omega (arith, round_same cycle p, ahead, entry_again cycle p)

module _ (cycle : List ℕ) (frames : FrameCycle cycle) where
  pub entry_positive : (n : ℕ) → 1 ≤ entry cycle n
  entry_positive n = (frames.1 (n % length cycle) (mod-lt n frames.0)).0

  pub entry_small : (n : ℕ) → entry cycle n ≤ 160
  entry_small n = (frames.1 (n % length cycle) (mod-lt n frames.0)).1

  pub run_small : (p k : ℕ) → run cycle p k ≤ 160 * k
  run_small p k =
      let most : run cycle p k ≤ sum_from (λ _. 160) p k = sum_from_le (entry cycle) (λ _. 160) p k (λ j _ _. entry_small j) in
      omega (arith, most, sum_from_constant 160 p k)

  -- Any run is at most the largest.
  pub run_at_most : (p k : ℕ) → run cycle p k ≤ cycle_work cycle k
  run_at_most p k =
      let up : run cycle (p % length cycle) k ≤ cycle_work cycle k = largest_is_upper (length cycle) (λ p. run cycle p k) (p % length cycle) (mod-lt p frames.0) in
      rw run_mod at up

  pub cycle_work_zero : cycle_work cycle 0 ≡ 0
  cycle_work_zero = let low : cycle_work cycle 0 ≤ 0 = largest_is_least (length cycle) (λ p. run cycle p 0) 0 (λ p _. omega arith) in omega arith

  pub cycle_work_rises : (k : ℕ) → cycle_work cycle k < cycle_work cycle (suc k)
  cycle_work_rises k =
      let top = largest_is_one (length cycle) (λ p. run cycle p k) frames.0 in
      omega (arith, top.2, sum_from_last (entry cycle) top.0 k, entry_positive (top.0 + k), run_at_most top.0 (suc k))

  pub cycle_work_small : (k : ℕ) → cycle_work cycle k ≤ 160 * k
  cycle_work_small k = largest_is_least (length cycle) (λ p. run cycle p k) (160 * k) (λ p _. run_small p k)

  -- A whole round adds the sum of the cycle.
  pub cycle_work_round : cycle_work cycle (length cycle) ≡ run cycle 0 (length cycle)
  cycle_work_round =
      let top = largest_is_one (length cycle) (λ p. run cycle p (length cycle)) frames.0 in
      top.2 ∙ round_same cycle top.0

  pub cycle_work_more : (k : ℕ) → cycle_work cycle (length cycle + k) ≡ cycle_work cycle (length cycle) + cycle_work cycle k
  cycle_work_more k =
      rw cycle_work_round
      (largest_above (length cycle) (run cycle 0 (length cycle)) (λ p. run cycle p (length cycle + k)) (λ p. run cycle p k) frames.0
      (λ p _. omega (arith, sum_from_split (entry cycle) p (length cycle) k, round_same cycle p, run_again cycle p k)))

  pub cycle_work_rounds : (n k : ℕ) → cycle_work cycle (n * length cycle + k) ≡ n * cycle_work cycle (length cycle) + cycle_work cycle k
  cycle_work_rounds zero k = rw (zero-mul (length cycle), zero-add k, zero-mul (cycle_work cycle (length cycle))) (omega arith)
  cycle_work_rounds (suc n) k =
      let regroup : suc n * length cycle + k ≡ length cycle + (n * length cycle + k) = rw suc-mul (omega arith) in
      let expand : suc n * cycle_work cycle (length cycle) ≡ n * cycle_work cycle (length cycle) + cycle_work cycle (length cycle) = suc-mul n (cycle_work cycle (length cycle)) in
      ap (cycle_work cycle) regroup ∙ omega (arith, cycle_work_more (n * length cycle + k), cycle_work_rounds n k, expand)

  -- The largest sum of k successive entries: that of each whole round, and the largest of what is left.
  pub cycle_work_closed : (k : ℕ) → cycle_work cycle k ≡ (k / length cycle) * cycle_work cycle (length cycle) + cycle_work cycle (k % length cycle)
  cycle_work_closed k = ap (cycle_work cycle) (sym (div-add-mod' k (length cycle))) ∙ cycle_work_rounds (k / length cycle) (k % length cycle)
