-- Responses that lawful runs reach.
use Rattle.std.specs.Prelude.{◌≡◌, ℕ, ◌+◌, List}
use Rattle.sources.specs.Streams.{Model}
use Rattle.response.specs.Runs.{Run, Lawful, Has, instance_of}
use Rattle.worked.specs.Cases.{two_rows}

-- In some lawful run over the rows an instance of row m ends exactly r after its arrival.
abbrev pub Reaches : List Model → ℕ → ℕ → Type 0
Reaches rows m r =
    (run : Run) × (i : ℕ) × (Lawful rows run) × (Has rows run m i) × (run.start m i + (instance_of run m i).bits ≡ (instance_of run m i).arrival + r)

-- Of the two rows the lower reaches 230, and the upper one 229.
abbrev pub BothReached : Type 0
BothReached = Reaches two_rows 1 230 × Reaches two_rows 0 229
