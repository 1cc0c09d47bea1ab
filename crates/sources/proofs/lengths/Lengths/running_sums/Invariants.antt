use Rattle.std.proofs.Common.{◌≡◌, ◌+◌, length}
use Rattle.sources.specs.Cycles.{run}
use Rattle.sources.specs.Lengths.{lengths_of}
use Rattle.sources.proofs.Tables.{Filled}
use Rattle.sources.proofs.lengths.Lengths.running_sums.Given as goal

abbrev pub invariant-loop-i : goal.invariant-loop-i
invariant-loop-i l = (length l.sums ≡ 65) × Filled (run (lengths_of l.self) 0) (l.i + 1) l.sums
