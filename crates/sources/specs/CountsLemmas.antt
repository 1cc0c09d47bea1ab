-- What holds of count for every gap that keeps its laws. Assumes nothing.
use Rattle.std.specs.Prelude.{◌≡◌, ℕ, zero, suc, pred, ◌<◌, ◌≤◌, nat_lt}
use Rattle.std.proofs.Common.{⊎_elim, arith}
use Rattle.std.proofs.lemmas.Bool.{cases_lt, lt-ltb, ltb-true}
use Rattle.sources.specs.Counts.{count}
use Rattle.sources.specs.RangesLemmas.{never_falls, upto_is_upto, upto_holds, upto_is_upper}

module _ (gap : ℕ → ℕ) (gap_zero : gap 0 ≡ 0) (gap_never_falls : (q : ℕ) → gap q ≤ gap (suc q)) (gap_at_least : (q : ℕ) → q ≤ gap q) where
  pub count_le : (x : ℕ) → count gap x ≤ x
  count_le x = upto_is_upto x (λ n. nat_lt (gap (pred n)) x)

  -- Where the n-th after an instance can come within x, there are more than n.
  pub count_above : (x n : ℕ) → gap n < x → n < count gap x
  count_above x n l = upto_is_upper x (λ n. nat_lt (gap (pred n)) x) (suc n) (omega (arith, gap_at_least n)) (lt-ltb (gap n) x l)

  -- The last one counted can come within x.
  pub count_within : (x : ℕ) → 0 < x → gap (pred (count gap x)) < x
  count_within x l =
      ⊎_elim
      (λ e. rw e (omega (arith, gap_zero)))
      (λ h. ltb-true (gap (pred (count gap x))) x h)
      (upto_holds x (λ n. nat_lt (gap (pred n)) x))

  pub count_positive : (x : ℕ) → 0 < x → 0 < count gap x
  count_positive x l = count_above x 0 (omega (arith, gap_zero))

  -- The one number that is as count says.
  pub count_unique : (x n : ℕ) → gap n < x → x ≤ gap (suc n) → count gap x ≡ suc n
  count_unique x n low high =
      let some : 0 < x = omega arith in
      let least : n < count gap x = count_above x n low in
      let within : gap (pred (count gap x)) < x = count_within x some in
      ⊎_elim
      (λ l. let rises : gap (suc n) ≤ gap (pred (count gap x)) = never_falls gap gap_never_falls (suc n) (pred (count gap x)) (omega arith) in absurd (omega arith))
      (λ l. omega arith)
      (cases_lt (suc n) (count gap x))

  pub count_never_falls : (x y : ℕ) → x ≤ y → count gap x ≤ count gap y
  count_never_falls zero y l = omega arith
  count_never_falls (suc x) y l =
      let within : gap (pred (count gap (suc x))) < suc x = count_within (suc x) (omega arith) in
      let positive : 0 < count gap (suc x) = count_positive (suc x) (omega arith) in
      let more : pred (count gap (suc x)) < count gap y = count_above y (pred (count gap (suc x))) (omega arith) in
      omega arith
