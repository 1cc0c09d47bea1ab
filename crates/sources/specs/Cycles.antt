-- The cyclic source: a message sent at a period, whose payload size goes round a cycle.
use Rattle.std.specs.Prelude.{◌≡◌, ℕ, suc, ◌+◌, ◌*◌, ◌/◌, ◌%◌, ◌<◌, ◌≤◌, List, length, slice_index}
use Rattle.sources.specs.Ranges.{sum_from, largest}
use Rattle.sources.specs.Streams.{Stream, Model, instance, TakesTime}

-- A cycle of frame lengths has at least one entry, and each is from 1 to 160 bit times.
abbrev pub FrameCycle : List ℕ → Type 0
FrameCycle cycle = (1 ≤ length cycle) × ((i : ℕ) → i < length cycle → (1 ≤ slice_index cycle i) × (slice_index cycle i ≤ 160))

-- Entry n of a cycle of frame lengths, going round.
abbrev pub entry : List ℕ → ℕ → ℕ
entry cycle n = slice_index cycle (n % length cycle)

-- The sum of k successive entries, from entry p on.
abbrev pub run : List ℕ → ℕ → ℕ → ℕ
run cycle p k = sum_from (entry cycle) p k

-- The largest sum of k successive entries, over all starts.
abbrev pub cycle_work : List ℕ → ℕ → ℕ
cycle_work cycle k = largest (length cycle) (λ p. run cycle p k)

-- The largest sum of k entries is that of its whole rounds and that of the rest.
abbrev pub WholeRounds : List ℕ → Type 0
WholeRounds cycle = (k : ℕ) → cycle_work cycle k ≡ (k / length cycle) * cycle_work cycle (length cycle) + cycle_work cycle (k % length cycle)

abbrev pub cyclic_gap : ℕ → ℕ → ℕ
cyclic_gap period q = q * period

-- Each next arrival is at least a period later, each instance is queued at its arrival, and instance i is at most as long as the
-- entry i places after some start.
pub record CyclicTraffic (cycle : List ℕ) (period : ℕ) (s : Stream) : Type 0 where
  pub spaced : (i : ℕ) → suc i < length s → (instance s i).arrival + period ≤ (instance s (suc i)).arrival
  pub prompt : (i : ℕ) → i < length s → (instance s i).queued ≡ (instance s i).arrival
  pub start : ℕ
  pub fits : (i : ℕ) → i < length s → (instance s i).bits ≤ entry cycle (start + i)
  pub takes_time : TakesTime s

abbrev pub cyclic_model : List ℕ → ℕ → Model
cyclic_model cycle period = record { gap = cyclic_gap period; work = cycle_work cycle; jitter = 0; traffic = CyclicTraffic cycle period }
