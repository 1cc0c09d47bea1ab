use Rattle.std.proofs.Common.{◌-◌, ◌++◌, length, drop, sym, ap, ◌∙◌}
use Rattle.register.specs.Slots.{lent}
use Rattle.register.proofs.CallAnswers.{withdraw_leaves}
use Rattle.register.proofs.calls.withdraw.Goals as goal
use Rattle.sources.specs.Models.{meanings}

pub returns-clause-memory : goal.returns-clause-memory
returns-clause-memory g c =
    let rows = c.standing-rows.result.now in
    ap (λ xs. lent (xs ++ drop (length rows) c.args.slots.now) (length rows - 1)) c.take_out.ensures
    ∙ withdraw_leaves (meanings g.S.Entry g.S.Source) (lent c.args.slots.now c.args.used.now) rows c.standing-rows.ensures c.args.identifier c.in-Ok.place (sym c.in-Ok.is ∙ c.find.ensures)
