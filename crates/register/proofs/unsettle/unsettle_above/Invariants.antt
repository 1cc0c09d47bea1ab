use Rattle.std.proofs.Common.{◌≡◌, ◌++◌, take, drop, None}
use Rattle.register.specs.Tables.{longest, unsettle_above}
use Rattle.register.specs.Calls.{frame}
use Rattle.register.specs.Slots.{with_outcome, slots}
use Rattle.register.proofs.unsettle.unsettle_above.Given as goal
use Rattle.sources.specs.Models.{meanings}

abbrev pub invariant-loop-i : goal.invariant-loop-i
invariant-loop-i g l =
    (l.above ≡ take l.i l.initial.above ++ unsettle_above (frame (meanings g.S.Entry g.S.Source) slots) (with_outcome None) (drop l.i l.initial.above) l.before l.after)
    × (l.below ≡ longest (frame (meanings g.S.Entry g.S.Source) slots) (drop l.i l.initial.above))
