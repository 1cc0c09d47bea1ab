-- The instances of a stream that are queued within a time: few, by the laws of its source.
use Rattle.std.proofs.Common.{◌≡◌, ℕ, zero, suc, pred, ◌+◌, ◌-◌, ◌<◌, ◌≤◌, ltb, length, refl, ⊎_elim, arith}
use Rattle.std.proofs.lemmas.Bool.{cases_lt, lt-ltb, ltb-true}
use Rattle.sources.specs.Ranges.{largest_upto}
use Rattle.sources.specs.Streams.{Stream, Model, Laws, KeepsOrder, instance, bits_from}
use Rattle.sources.specs.Counts.{count}
use Rattle.sources.specs.RangesLemmas.{never_falls, upto_is_upto, upto_holds, upto_is_upper}
use Rattle.sources.specs.CountsLemmas.{count_above}
use Rattle.response.specs.Bounds.{load}

-- How many instances of a stream are queued before a time.
abbrev pub queued_before : Stream → ℕ → ℕ
queued_before s time = largest_upto (length s) (λ n. ltb (instance s (pred n)).queued time)

-- They are instances of the stream.
pub queued_before_le : (s : Stream) (time : ℕ) → queued_before s time ≤ length s
queued_before_le s time = upto_is_upto (length s) (λ n. ltb (instance s (pred n)).queued time)

-- An instance that is queued before the time is one of them.
pub early_counted : (s : Stream) (time i : ℕ) → i < length s → (instance s i).queued < time → i < queued_before s time
early_counted s time i l h = upto_is_upper (length s) (λ n. ltb (instance s (pred n)).queued time) (suc i) l (lt-ltb (instance s i).queued time h)

-- The others are queued at the time or later.
pub others_late : (s : Stream) (time i : ℕ) → queued_before s time ≤ i → i < length s → time ≤ (instance s i).queued
others_late s time i h l =
    let not_early : (instance s i).queued < time → ⊥ = λ early. omega (arith, early_counted s time i l early) in
    omega arith

module _ (s : Stream) (order : KeepsOrder s) where
  -- Where queueing times never fall, each of them is queued before the time.
  pub counted_early : (time i : ℕ) → i < queued_before s time → (instance s i).queued < time
  counted_early time i l =
      let last : ℕ = pred (queued_before s time) in
      ⊎_elim
      (λ nothing. absurd (omega arith))
      (λ h. omega (arith, ltb-true (instance s last).queued time h, order i last (omega arith) (omega (arith, queued_before_le s time))))
      (upto_holds (length s) (λ n. ltb (instance s (pred n)).queued time))

  -- An instance that is queued at the time or later is none of them.
  pub late_not_counted : (time i : ℕ) → time ≤ (instance s i).queued → queued_before s time ≤ i
  late_not_counted time i h =
      let not_counted : i < queued_before s time → ⊥ = λ l. omega (arith, counted_early time i l) in
      omega arith

  -- They are no fewer before a later time.
  pub queued_before_never_falls : (x y : ℕ) → x ≤ y → queued_before s x ≤ queued_before s y
  queued_before_never_falls x y l =
      let last : ℕ = pred (queued_before s x) in
      ⊎_elim
      (λ some. omega (arith, early_counted s y last (omega (arith, queued_before_le s x)) (omega (arith, counted_early x last (omega arith)))))
      (λ nothing. omega arith)
      (cases_lt 0 (queued_before s x))

module _ (r : Model) (law : Laws r) (s : Stream) (sent : r.traffic s) where
  -- The instance q after one that is queued at a time or later arrives at most the jitter before gap q after that time.
  pub piece_arrives : (a q time : ℕ) → a + q < length s → time ≤ (instance s a).queued → time + r.gap q ≤ (instance s (a + q)).arrival + r.jitter
  piece_arrives a q time l h = omega (arith, law.keeps_gap s sent a q l, law.keeps_jitter s sent a (omega arith))

  -- Where it is queued within x of that time, it is one of the count for x and the jitter.
  pub piece_counted : (a q time x : ℕ) → a + q < length s → time ≤ (instance s a).queued → (instance s (a + q)).queued < time + x → q < count r.gap (x + r.jitter)
  piece_counted a q time x l h within =
      count_above r.gap law.gap_zero law.gap_never_falls law.gap_at_least (x + r.jitter) q
      (omega (arith, piece_arrives a q time l h, law.keeps_jitter s sent (a + q) l))

  -- The instances queued within x of a time take at most the load.
  pub few_queued : (time x : ℕ) → bits_from s (queued_before s time) (queued_before s (time + x) - queued_before s time) ≤ load r x
  few_queued time x = go (queued_before s (time + x) - queued_before s time) refl
    where
      go : (n : ℕ) → queued_before s (time + x) - queued_before s time ≡ n → bits_from s (queued_before s time) n ≤ load r x
      go zero e = omega arith
      go (suc q) e =
          let a : ℕ = queued_before s time in
          let all : queued_before s (time + x) ≤ length s = queued_before_le s (time + x) in
          let first : time ≤ (instance s a).queued = others_late s time a (omega arith) (omega arith) in
          let last : (instance s (a + q)).queued < time + x = counted_early s (law.keeps_order s sent) (time + x) (a + q) (omega arith) in
          let counted : q < count r.gap (x + r.jitter) = piece_counted a q time x (omega arith) first last in
          let most : r.work (suc q) ≤ load r x = never_falls r.work (λ k. omega (arith, law.work_rises k)) (suc q) (count r.gap (x + r.jitter)) counted in
          omega (arith, law.keeps_work s sent a (suc q) (omega arith))
