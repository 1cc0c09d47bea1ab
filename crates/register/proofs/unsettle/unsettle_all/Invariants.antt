use Rattle.std.proofs.Common.{◌≡◌, ◌++◌, map, take, drop, None}
use Rattle.register.specs.Slots.{with_outcome}
use Rattle.register.proofs.unsettle.unsettle_all.Given as goal

abbrev pub invariant-loop-slot : goal.invariant-loop-slot
invariant-loop-slot g l = l.rows ≡ map (with_outcome None) (take l.slot-index l.initial.rows) ++ drop l.slot-index l.initial.rows
