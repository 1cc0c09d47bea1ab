-- A cyclic source keeps the laws of a source. Assumes nothing.
use Rattle.std.specs.Prelude.{◌≡◌, ℕ, zero, suc, ◌+◌, ◌-◌, ◌*◌, ◌/◌, ◌<◌, ◌≤◌, List, length}
use Rattle.std.proofs.Common.{sym, ap, ◌∙◌, zero-mul, suc-mul, mul-one, add-zero, div-mul-le_self, add-one, arith}
use Rattle.std.proofs.Math.Nat.{lt-div-mul-add, add-div_right, div-eq_of_lt}
use Rattle.sources.specs.Ranges.{sum_from}
use Rattle.sources.specs.Counts.{count}
use Rattle.sources.specs.Streams.{Laws, Stream, instance, bits_from, KeepsGap, KeepsWork, KeepsJitter, KeepsOrder}
use Rattle.sources.specs.Cycles.{FrameCycle, entry, cycle_work, cyclic_gap, CyclicTraffic, cyclic_model}
use Rattle.sources.specs.RangesLemmas.{sum_from_le, sum_from_moved}
use Rattle.sources.specs.CountsLemmas.{count_unique}
use Rattle.sources.specs.CyclesLemmas.{run_at_most, cycle_work_zero, cycle_work_rises, cycle_work_small}

gap_step : (period q : ℕ) → cyclic_gap period (suc q) ≡ cyclic_gap period q + period
gap_step period q = suc-mul q period

gap_rises : (period q : ℕ) → cyclic_gap period q ≤ cyclic_gap period (suc q)
gap_rises period q = omega (arith, gap_step period q)

gap_at_least : (period : ℕ) → 1 ≤ period → (q : ℕ) → q ≤ cyclic_gap period q
gap_at_least period some zero = omega arith
gap_at_least period some (suc q) = omega (arith, gap_step period q, gap_at_least period some q)

-- Where the instance a stride later arrives at least a period later, the one n strides later arrives at least n periods later.
pub strides_apart : (stride period : ℕ) (s : Stream) → ((i : ℕ) → i + stride < length s → (instance s i).arrival + period ≤ (instance s (i + stride)).arrival) →
    (n i : ℕ) → i + n * stride < length s → (instance s i).arrival + n * period ≤ (instance s (i + n * stride)).arrival
strides_apart stride period s apart zero i l = rw (zero-mul stride, zero-mul period, add-zero i) (omega arith)
strides_apart stride period s apart (suc n) i l =
    let place : i + suc n * stride ≡ (i + n * stride) + stride = rw suc-mul (omega arith) in
    let before = strides_apart stride period s apart n i (omega arith) in
    let next = apart (i + n * stride) (omega arith) in
    rw place (omega (arith, suc-mul n period, before, next))

-- Where each next arrival is at least a period later, the q-th next is at least q periods later.
pub arrivals_apart : (period : ℕ) (s : Stream) → ((i : ℕ) → suc i < length s → (instance s i).arrival + period ≤ (instance s (suc i)).arrival) → KeepsGap (cyclic_gap period) s
arrivals_apart period s spaced i q l =
    rw mul-one at (strides_apart 1 period s (λ i l. rw add-one (spaced i (omega arith))) q i (rw mul-one l))

-- A stream that is queued at arrival has no jitter.
pub prompt_jitter : (s : Stream) → ((i : ℕ) → i < length s → (instance s i).queued ≡ (instance s i).arrival) → KeepsJitter 0 s
prompt_jitter s prompt i l = (omega (arith, prompt i l), omega (arith, prompt i l))

-- A stream that is queued at arrival and whose arrivals never fall is queued in order.
pub prompt_order : (gap : ℕ → ℕ) (s : Stream) → ((i : ℕ) → i < length s → (instance s i).queued ≡ (instance s i).arrival) → KeepsGap gap s → KeepsOrder s
prompt_order gap s prompt apart i j l inside =
    let place : i + (j - i) ≡ j = omega arith in
    let later : (instance s i).arrival + gap (j - i) ≤ (instance s j).arrival = rw place at (apart i (j - i) (omega arith)) in
    omega (arith, prompt i (omega arith), prompt j inside, later)

-- The lengths of k successive instances sum to at most a run of the cycle.
cyclic_work_kept : (cycle : List ℕ) → FrameCycle cycle → (period : ℕ) (s : Stream) → CyclicTraffic cycle period s → KeepsWork (cycle_work cycle) s
cyclic_work_kept cycle frames period s sent i k l =
    let p = sent.start in
    let most : bits_from s i k ≤ sum_from (λ j. entry cycle (p + j)) i k = sum_from_le (λ j. (instance s j).bits) (λ j. entry cycle (p + j)) i k (λ j a b. sent.fits j (omega arith)) in
    omega (arith, most, sum_from_moved (entry cycle) p i k, run_at_most cycle frames (p + i) k)

pub cyclic_laws : (cycle : List ℕ) → FrameCycle cycle → (period : ℕ) → 1 ≤ period → Laws (cyclic_model cycle period)
cyclic_laws cycle frames period some = record {
  gap_zero = zero-mul period;
  gap_never_falls = gap_rises period;
  gap_at_least = gap_at_least period some;
  work_zero = cycle_work_zero cycle frames;
  work_rises = cycle_work_rises cycle frames;
  work_at_most = cycle_work_small cycle frames;
  keeps_gap = λ s sent. arrivals_apart period s sent.spaced;
  keeps_work = cyclic_work_kept cycle frames period;
  keeps_jitter = λ s sent. prompt_jitter s sent.prompt;
  keeps_order = λ s sent. prompt_order (cyclic_gap period) s sent.prompt (arrivals_apart period s sent.spaced);
  takes_time = λ s sent. sent.takes_time;
}

-- The count of a cyclic source: x over the period, rounded up.
pub cyclic_count : (period : ℕ) → 1 ≤ period → (x : ℕ) → count (cyclic_gap period) x ≡ (x + (period - 1)) / period
cyclic_count period some zero = sym (div-eq_of_lt (omega arith))
cyclic_count period some (suc y) =
    let n = y / period in
    let low : n * period ≤ y = div-mul-le_self y period in
    let high : y < n * period + period = lt-div-mul-add some in
    let is : count (cyclic_gap period) (suc y) ≡ suc n =
    count_unique (cyclic_gap period) (zero-mul period) (gap_rises period) (gap_at_least period some) (suc y) n (omega arith) (omega (arith, gap_step period n)) in
    let shifted : suc y + (period - 1) ≡ y + period = omega arith in
    is ∙ omega (arith, add-div_right y some, ap (λ m. m / period) shifted)
