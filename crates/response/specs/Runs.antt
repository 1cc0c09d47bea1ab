-- Lawful runs of a bus: what its rows may do, whatever an analysis says of them.
use Rattle.std.specs.Prelude.{◌≡◌, ℕ, ◌+◌, ◌<◌, ◌≤◌, ◌⊎◌, List, length}
use Rattle.sources.specs.Streams.{Instance, Stream, Model, instance}
use Rattle.response.specs.Bounds.{row}

-- A run: a stream for each row and a start for each instance of it, by the row's place and the instance's.
pub record Run : Type 0 where
  pub stream : ℕ → Stream
  pub start : ℕ → ℕ → ℕ

-- Instance i of row k.
abbrev pub instance_of : Run → ℕ → ℕ → Instance
instance_of run k i = instance (run.stream k) i

-- Row k, one of the rows, has an instance i in the run.
abbrev pub Has : List Model → Run → ℕ → ℕ → Type 0
Has rows run k i = (k < length rows) × (i < length (run.stream k))

-- Instance i of row k is queued and not started at a time.
abbrev pub Waits : Run → ℕ → ℕ → ℕ → Type 0
Waits run k i time = ((instance_of run k i).queued ≤ time) × (time < run.start k i)

-- Instance i of row k holds the bus at a time: from its start, for its length.
abbrev pub Holds : Run → ℕ → ℕ → ℕ → Type 0
Holds run k i time = (run.start k i ≤ time) × (time < run.start k i + (instance_of run k i).bits)

-- Instance j of row l goes before instance i of row k: it is of a higher row, or an earlier one of the same row.
abbrev pub Before : ℕ → ℕ → ℕ → ℕ → Type 0
Before l j k i = (l < k) ⊎ ((l ≡ k) × (j < i))

-- A lawful run over rows, highest priority first.
pub record Lawful (rows : List Model) (run : Run) : Type 0 where
  -- Each row sends a stream of its traffic.
  pub sent : (k : ℕ) → k < length rows → (row rows k).traffic (run.stream k)
  -- No instance starts before it is queued.
  pub queued_first : (k i : ℕ) → Has rows run k i → (instance_of run k i).queued ≤ run.start k i
  -- No two instances hold the bus together.
  pub one_at_a_time : (k i l j time : ℕ) → Has rows run k i → Has rows run l j → Holds run k i time → Holds run l j time → (k ≡ l) × (i ≡ j)
  -- While an instance is queued and not started, the bus is held.
  pub never_idle : (k i time : ℕ) → Has rows run k i → Waits run k i time → (l : ℕ) × (j : ℕ) × (Has rows run l j) × (Holds run l j time)
  -- When an instance starts, no instance that goes before it is queued and not started.
  pub by_priority : (k i l j : ℕ) → Has rows run k i → Has rows run l j → Before l j k i → Waits run l j (run.start k i) → ⊥

-- No instance of row m ends later after its arrival than b, in any lawful run.
abbrev pub NoLater : List Model → ℕ → ℕ → Type 0
NoLater rows m b =
    (run : Run) → Lawful rows run → (i : ℕ) → i < length (run.stream m) →
    run.start m i + (instance_of run m i).bits ≤ (instance_of run m i).arrival + b
