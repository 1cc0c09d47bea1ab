-- The burst source: a message that comes in bursts of a few frames of one length.
use Rattle.std.specs.Prelude.{◌≡◌, ℕ, zero, suc, ◌+◌, ◌-◌, ◌*◌, ◌/◌, ◌%◌, ◌<◌, ◌≤◌, min, length}
use Rattle.sources.specs.Streams.{Stream, Model, instance, TakesTime}

-- A burst's numbers: at least one frame, at least one bit time apart, and a period that leaves room for them.
abbrev pub BurstNumbers : ℕ → ℕ → ℕ → Type 0
BurstNumbers size spacing period = (1 ≤ size) × (1 ≤ spacing) × (size * spacing ≤ period)

-- The q-th instance after another is q div size bursts and q mod size further instances away.
abbrev pub burst_gap : ℕ → ℕ → ℕ → ℕ → ℕ
burst_gap size spacing period q = (q / size) * period + (q % size) * spacing

-- The count of a burst source in closed form: the whole bursts that fit before x, and as many more frames as fit the rest.
abbrev pub burst_count : ℕ → ℕ → ℕ → ℕ → ℕ
burst_count size spacing period zero = 0
burst_count size spacing period (suc y) = (y / period) * size + min (y % period / spacing) (size - 1) + 1

abbrev pub burst_work : ℕ → ℕ → ℕ
burst_work bits k = k * bits

-- The next instance arrives at least the spacing later, the one a burst later at least a period later; each is queued at its
-- arrival and is at most as long as the one frame.
pub record BurstTraffic (size spacing period bits : ℕ) (s : Stream) : Type 0 where
  pub spaced : (i : ℕ) → suc i < length s → (instance s i).arrival + spacing ≤ (instance s (suc i)).arrival
  pub apart : (i : ℕ) → i + size < length s → (instance s i).arrival + period ≤ (instance s (i + size)).arrival
  pub prompt : (i : ℕ) → i < length s → (instance s i).queued ≡ (instance s i).arrival
  pub fits : (i : ℕ) → i < length s → (instance s i).bits ≤ bits
  pub takes_time : TakesTime s

abbrev pub burst_model : ℕ → ℕ → ℕ → ℕ → Model
burst_model size spacing period bits = record {
  gap = burst_gap size spacing period;
  work = burst_work bits;
  jitter = 0;
  traffic = BurstTraffic size spacing period bits;
}
