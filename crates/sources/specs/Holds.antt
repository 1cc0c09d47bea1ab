-- The held-up source: another source whose instances are queued later.
use Rattle.std.specs.Prelude.{◌≡◌, ℕ, ◌+◌, ◌<◌, ◌≤◌, length}
use Rattle.sources.specs.Streams.{Stream, Model, instance, KeepsOrder}

-- Stream s is stream below with each instance queued 0 to hold later, order kept.
pub record Later (hold : ℕ) (below s : Stream) : Type 0 where
  pub same_length : length s ≡ length below
  pub same_arrival : (i : ℕ) → i < length s → (instance s i).arrival ≡ (instance below i).arrival
  pub same_bits : (i : ℕ) → i < length s → (instance s i).bits ≡ (instance below i).bits
  pub not_sooner : (i : ℕ) → i < length s → (instance below i).queued ≤ (instance s i).queued
  pub not_later : (i : ℕ) → i < length s → (instance s i).queued ≤ (instance below i).queued + hold
  pub in_order : KeepsOrder s

-- Every stream so made from traffic below.
pub record HeldUpTraffic (hold : ℕ) (traffic : Stream → Type 0) (s : Stream) : Type 0 where
  pub below : Stream
  pub sent : traffic below
  pub later : Later hold below s

abbrev pub held_up_model : ℕ → Model → Model
held_up_model hold m = record {
  gap = m.gap;
  work = m.work;
  jitter = m.jitter + hold;
  traffic = HeldUpTraffic hold m.traffic;
}
