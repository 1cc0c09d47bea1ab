-- A held-up source keeps the laws of a source where the one below does. Assumes nothing.
use Rattle.std.specs.Prelude.{ℕ, ◌+◌, ◌≤◌}
use Rattle.std.proofs.Common.{arith}
use Rattle.sources.specs.Streams.{Model, Laws, Stream, instance, bits_from, KeepsGap, KeepsWork, KeepsJitter, TakesTime}
use Rattle.sources.specs.Holds.{HeldUpTraffic, held_up_model}
use Rattle.sources.specs.RangesLemmas.{sum_from_le}

module _ (hold : ℕ) (m : Model) (laws : Laws m) (s : Stream) (held : HeldUpTraffic hold m.traffic s) where
  held_gap : KeepsGap m.gap s
  held_gap i q l =
      let later = held.later in
      let from = later.same_arrival i (omega arith) in
      let to = later.same_arrival (i + q) l in
      let apart = laws.keeps_gap held.below held.sent i q (omega (arith, later.same_length)) in
      omega arith

  held_work : KeepsWork m.work s
  held_work i k l =
      let later = held.later in
      let below = held.below in
      let same : bits_from s i k ≤ bits_from below i k =
      sum_from_le (λ j. (instance s j).bits) (λ j. (instance below j).bits) i k (λ j a b. omega (arith, later.same_bits j (omega arith))) in
      let most = laws.keeps_work below held.sent i k (omega (arith, later.same_length)) in
      omega arith

  held_jitter : KeepsJitter (m.jitter + hold) s
  held_jitter i l =
      let later = held.later in
      let queued = laws.keeps_jitter held.below held.sent i (omega (arith, later.same_length)) in
      let arrival = later.same_arrival i l in
      let low = later.not_sooner i l in
      let high = later.not_later i l in
      (omega arith, omega arith)

  held_time : TakesTime s
  held_time i l =
      let later = held.later in
      let below = laws.takes_time held.below held.sent i (omega (arith, later.same_length)) in
      omega (arith, later.same_bits i l)

pub held_up_laws : (hold : ℕ) (m : Model) → Laws m → Laws (held_up_model hold m)
held_up_laws hold m laws = record {
  gap_zero = laws.gap_zero;
  gap_never_falls = laws.gap_never_falls;
  gap_at_least = laws.gap_at_least;
  work_zero = laws.work_zero;
  work_rises = laws.work_rises;
  work_at_most = laws.work_at_most;
  keeps_gap = held_gap hold m laws;
  keeps_work = held_work hold m laws;
  keeps_jitter = held_jitter hold m laws;
  keeps_order = λ s held. held.later.in_order;
  takes_time = held_time hold m laws;
}
