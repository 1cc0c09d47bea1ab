-- The meaning of sources.
use Rattle.std.specs.Prelude.{ℕ}
use Rattle.sources.specs.declared.source.Entry as entry
use Rattle.sources.specs.declared.source.Source as source
use Rattle.sources.specs.Streams.{Model, Stream}

-- What a type of sources says of each: the ghost members of `Entry` and of `Source`.
abbrev pub Meanings : Type 0 → Type 1
Meanings S = record { identifier : S → ℕ; gap : S → ℕ → ℕ; work : S → ℕ → ℕ; jitter : S → ℕ; traffic : S → Stream → Type 0 }

-- The two traits' members as one.
abbrev pub meanings : {S : Type 0} → entry.Ghosts S → source.Ghosts S → Meanings S
meanings names sources = record {
  identifier = names.identifier;
  gap = sources.gap;
  work = sources.work;
  jitter = sources.jitter;
  traffic = sources.traffic;
}

-- The meaning of one source s, as one record.
abbrev pub model : {S : Type 0} → Meanings S → S → Model
model sources s = record { gap = sources.gap s; work = sources.work s; jitter = sources.jitter s; traffic = sources.traffic s }
