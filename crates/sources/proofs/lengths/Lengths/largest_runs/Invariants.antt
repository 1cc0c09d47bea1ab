use Rattle.sources.specs.Cycles.{cycle_work}
use Rattle.sources.specs.Lengths.{lengths_of}
use Rattle.sources.proofs.Tables.{Filled}
use Rattle.sources.proofs.lengths.Lengths.largest_runs.Given as goal

abbrev pub invariant-loop-k : goal.invariant-loop-k
invariant-loop-k l = Filled (cycle_work (lengths_of l.self)) l.k l.place-items
