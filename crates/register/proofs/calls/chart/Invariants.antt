use Rattle.std.proofs.Common.{◌≡◌, ◌++◌, map, take, drop}
use Rattle.register.specs.Slots.{bound_shown}
use Rattle.register.proofs.calls.chart.Given as goal

abbrev pub invariant-loop-i : goal.invariant-loop-i
invariant-loop-i g l = l.list ≡ map bound_shown (take l.i l.rows) ++ drop l.i l.initial.list
