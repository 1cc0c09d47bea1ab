use Rattle.std.proofs.Common.{◌≡◌, [], map, length, take, drop}
use Rattle.register.specs.Slots.{memory_of, opened}
use Rattle.register.specs.Steps.{reply_of, register_replies, memory_after}
use Rattle.register.proofs.performing.perform.Given as goal
use Rattle.sources.specs.Models.{meanings}

abbrev pub invariant-loop-i : goal.invariant-loop-i
invariant-loop-i g l =
    (memory_of l.register ≡ memory_after (meanings g.S.Entry g.S.Source) (opened l.initial.register.slots.now) (take l.i l.uses))
    × (map reply_of (take l.i l.answers) ≡ register_replies (meanings g.S.Entry g.S.Source) (length l.initial.register.slots.now) [] (take l.i l.uses))
    × (drop l.i l.answers ≡ drop l.i l.initial.answers)
    × (l.register.slots.ghost_name ≡ l.initial.register.slots.ghost_name)
