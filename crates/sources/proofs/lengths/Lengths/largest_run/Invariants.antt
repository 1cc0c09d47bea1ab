use Rattle.std.proofs.Common.{◌≡◌}
use Rattle.sources.specs.Ranges.{largest}
use Rattle.sources.specs.Cycles.{run}
use Rattle.sources.specs.Lengths.{lengths_of}
use Rattle.sources.proofs.lengths.Lengths.largest_run.Given as goal

abbrev pub invariant-loop-p : goal.invariant-loop-p
invariant-loop-p l = l.most ≡ largest l.p (λ p. run (lengths_of l.self) p l.k)
