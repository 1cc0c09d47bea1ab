use Rattle.std.proofs.Common.{◌+◌, ◌++◌, length, drop, sym, ap, ◌∙◌, arith}
use Rattle.std.proofs.lemmas.List.{length-take-le}
use Rattle.register.specs.Slots.{lent}
use Rattle.register.proofs.CallAnswers.{room_left, gap_within, enter_leaves}
use Rattle.register.proofs.calls.enter.Goals as goal
use Rattle.sources.specs.Models.{meanings}

pub put_in-requires : goal.put_in-requires
put_in-requires g c =
    let rows = c.standing-rows.result.now in
    let room = room_left (length c.args.slots.now) (length rows) (sym c.is_full.ensures ∙ c.if-is_full.false) in
    omega (arith, gap_within (meanings g.S.Entry g.S.Source) rows c.identifier.result c.in-Err.place (sym c.in-Err.is ∙ c.find.ensures), length-take-le (length rows + 1) c.args.slots.now (omega (arith, room)))

pub returns-clause-memory : goal.returns-clause-memory
returns-clause-memory g c =
    let rows = c.standing-rows.result.now in
    ap (λ xs. lent (xs ++ drop (length rows + 1) c.args.slots.now) (length rows + 1)) c.put_in.ensures
    ∙ enter_leaves (meanings g.S.Entry g.S.Source) (lent c.args.slots.now c.args.used.now) rows c.standing-rows.ensures c.args.row c.in_ok-check_row.ensures c.identifier.result c.in-Err.place c.identifier.ensures
    (sym c.in-Err.is ∙ c.find.ensures) (sym c.is_full.ensures ∙ c.if-is_full.false)
