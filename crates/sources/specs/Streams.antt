-- What a source may send, and the laws that every source owes. Time is in whole bit times.
use Rattle.std.specs.Prelude.{◌≡◌, ℕ, suc, ◌+◌, ◌*◌, ◌<◌, ◌≤◌, List, length, slice_index_or}
use Rattle.sources.specs.Ranges.{sum_from}

-- One sending of a message: when it comes up at the sender, when it is queued for the bus, and its bit times on the bus.
pub record Instance : Type 0 where
  pub arrival : ℕ
  pub queued : ℕ
  pub bits : ℕ

-- A stream is the list of a message's instances, in the order of their arrival.
abbrev pub Stream : Type 0
Stream = List Instance

-- What stands past the end of a stream.
abbrev pub no_instance : Instance
no_instance = record { arrival = 0; queued = 0; bits = 0 }

-- Instance i of a stream.
abbrev pub instance : Stream → ℕ → Instance
instance s i = slice_index_or s i no_instance

-- The bit times of the k instances from instance i on.
abbrev pub bits_from : Stream → ℕ → ℕ → ℕ
bits_from s i k = sum_from (λ j. (instance s j).bits) i k

-- The instance q after another arrives at least gap q later.
abbrev pub KeepsGap : (ℕ → ℕ) → Stream → Type 0
KeepsGap gap s = (i q : ℕ) → i + q < length s → (instance s i).arrival + gap q ≤ (instance s (i + q)).arrival

-- Any k successive instances take at most work k.
abbrev pub KeepsWork : (ℕ → ℕ) → Stream → Type 0
KeepsWork work s = (i k : ℕ) → i + k ≤ length s → bits_from s i k ≤ work k

-- Each instance is queued between its arrival and its arrival + jitter.
abbrev pub KeepsJitter : ℕ → Stream → Type 0
KeepsJitter jitter s = (i : ℕ) → i < length s → ((instance s i).arrival ≤ (instance s i).queued) × ((instance s i).queued ≤ (instance s i).arrival + jitter)

-- Queueing times never fall.
abbrev pub KeepsOrder : Stream → Type 0
KeepsOrder s = (i j : ℕ) → i ≤ j → j < length s → (instance s i).queued ≤ (instance s j).queued

-- Each instance takes at least one bit time.
abbrev pub TakesTime : Stream → Type 0
TakesTime s = (i : ℕ) → i < length s → 1 ≤ (instance s i).bits

-- The meaning of a source. gap q: the least time from an arrival to the q-th arrival after it. work k: the most bit times of k
-- successive instances. jitter: the longest time from arrival to queueing. traffic: the streams it may send.
pub record Model : Type 1 where
  pub gap : ℕ → ℕ
  pub work : ℕ → ℕ
  pub jitter : ℕ
  pub traffic : Stream → Type 0

-- What every source owes.
pub record Laws (m : Model) : Type 0 where
  pub gap_zero : m.gap 0 ≡ 0
  pub gap_never_falls : (q : ℕ) → m.gap q ≤ m.gap (suc q)
  pub gap_at_least : (q : ℕ) → q ≤ m.gap q
  pub work_zero : m.work 0 ≡ 0
  pub work_rises : (k : ℕ) → m.work k < m.work (suc k)
  pub work_at_most : (k : ℕ) → m.work k ≤ 160 * k
  pub keeps_gap : (s : Stream) → m.traffic s → KeepsGap m.gap s
  pub keeps_work : (s : Stream) → m.traffic s → KeepsWork m.work s
  pub keeps_jitter : (s : Stream) → m.traffic s → KeepsJitter m.jitter s
  pub keeps_order : (s : Stream) → m.traffic s → KeepsOrder s
  pub takes_time : (s : Stream) → m.traffic s → TakesTime s
