use Rattle.std.proofs.Common.{◌++◌, length, drop, sym, ap, ◌∙◌, arith}
use Rattle.std.proofs.lemmas.List.{length-take}
use Rattle.std.proofs.lemmas.Result.{err_from_is_err_and}
use Rattle.sources.specs.Models.{meanings}
use Rattle.sources.specs.Answers.{answered, refused}
use Rattle.response.specs.Views.{fault_number as response_number}
use Rattle.register.specs.Faults.{fault_number}
use Rattle.register.specs.Slots.{lent, accepted, stored}
use Rattle.register.proofs.CallAnswers.{row_within}
use Rattle.register.proofs.SettleAnswers.{settle_is, settle_leaves, settle_denied}
use Rattle.register.proofs.calls.settle.Goals as goal

pub returns-in_err-outcome : goal.returns-in_err-outcome
returns-in_err-outcome g c =
    let memory = lent c.args.slots.now c.args.used.now in
    let p = err_from_is_err_and c.from_residual.result c.from_residual.ensures.1 in
    let refuses =
    settle_denied (meanings g.S.Entry g.S.Source) memory c.standing-rows.result.now c.standing-rows.ensures c.args.identifier c.in-Ok.place (sym c.in-Ok.is ∙ c.find.ensures)
    (response_number c.in_err-outcome.field-0.0) c.in_err-outcome.ensures.answer in
    record { answer = ap (answered fault_number (λ u. u)) p.1 ∙ ap refused p.2 ∙ sym (ap accepted refuses); memory = sym (ap (stored memory) refuses) }

pub store-requires : goal.store-requires
store-requires g c =
    let rows = c.standing-rows.result.now in
    omega (arith, row_within (meanings g.S.Entry g.S.Source) rows c.args.identifier c.in-Ok.place (sym c.in-Ok.is ∙ c.find.ensures), length-take (length rows) c.args.slots.now, length-take c.args.used.now c.args.slots.now, ap length c.standing-rows.ensures)

pub returns : goal.returns
returns g c =
    let memory = lent c.args.slots.now c.args.used.now in
    let rows = c.standing-rows.result.now in
    let found = sym c.in-Ok.is ∙ c.find.ensures in
    record {
      answer = sym (ap accepted (settle_is (meanings g.S.Entry g.S.Source) memory rows c.standing-rows.ensures c.args.identifier c.in-Ok.place found c.in_ok-outcome.outcome c.in_ok-outcome.ensures.answer));
      memory = ap (λ xs. lent (xs ++ drop (length rows) c.args.slots.now) (length rows)) c.store.ensures
          ∙ settle_leaves (meanings g.S.Entry g.S.Source) memory rows c.standing-rows.ensures c.args.identifier c.in-Ok.place found c.in_ok-outcome.outcome c.in_ok-outcome.ensures.answer;
    }
