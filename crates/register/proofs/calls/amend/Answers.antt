use Rattle.std.proofs.Common.{◌++◌, length, drop, sym, ap, ◌∙◌}
use Rattle.register.specs.Slots.{lent, accepted, stored}
use Rattle.register.proofs.CallAnswers.{amend_leaves, amend_absent}
use Rattle.register.proofs.calls.amend.Goals as goal
use Rattle.sources.specs.Models.{meanings}

pub returns-in_default : goal.returns-in_default
returns-in_default g c =
    let memory = lent c.args.slots.now c.args.used.now in
    let refuses =
    amend_absent (meanings g.S.Entry g.S.Source) memory c.standing-rows.result.now c.standing-rows.ensures c.args.amended c.in_ok-check_row.ensures c.identifier.result c.in_default.field-0 c.identifier.ensures
    (sym c.in_default.is ∙ c.find.ensures) in
    record { answer = sym (ap accepted refuses); memory = sym (ap (stored memory) refuses) }

pub returns-clause-memory : goal.returns-clause-memory
returns-clause-memory g c =
    let rows = c.standing-rows.result.now in
    ap (λ xs. lent (xs ++ drop (length rows) c.args.slots.now) (length rows)) c.replace.ensures
    ∙ amend_leaves (meanings g.S.Entry g.S.Source) (lent c.args.slots.now c.args.used.now) rows c.standing-rows.ensures c.args.amended c.in_ok-check_row.ensures c.identifier.result c.in-Ok.place c.identifier.ensures
    (sym c.in-Ok.is ∙ c.find.ensures)
