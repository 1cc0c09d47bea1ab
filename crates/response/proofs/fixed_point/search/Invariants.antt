use Rattle.std.proofs.Common.{◌≡◌}
use Rattle.response.specs.Searches.{fixed_point, rounds_of}
use Rattle.response.proofs.Searches.{more}
use Rattle.response.proofs.fixed_point.search.Given as goal

abbrev pub invariant-loop-found : goal.invariant-loop-found
invariant-loop-found g l = let f = g.C.Curve.curve l.on in fixed_point f l.start ≡ more l.rounds (fixed_point f l.value)

abbrev pub decreases-loop-found : goal.decreases-loop-found
decreases-loop-found g l = rounds_of (fixed_point (g.C.Curve.curve l.on) l.value)
