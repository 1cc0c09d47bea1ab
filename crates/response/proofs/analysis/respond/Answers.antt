use Rattle.std.proofs.Common.{◌≡◌, ◌<◌, List, map, length, slice_index, sym, ap, ◌∙◌, subst, arith}
use Rattle.std.proofs.lemmas.List.{length-map}
use Rattle.std.proofs.lemmas.Result.{err_from_is_err_and}
use Rattle.sources.specs.Answers.{refused, answered}
use Rattle.sources.specs.Models.{model, meanings}
use Rattle.sources.specs.Streams.{Model}
use Rattle.response.specs.Bounds.{AllLawful, response, place}
use Rattle.response.specs.Curves.{models}
use Rattle.response.specs.Views.{fault_number, outcome_of}
use Rattle.response.specs.Analysis.{Grounded, GivesLargest, NoRunOutlasts}
use Rattle.response.specs.CurveLemmas.{models_lawful}
use Rattle.response.proofs.Responding.{placed, a_row, with_values, its_range, the_response, answered_with, grounded, largest_given, no_run_outlasts}
use Rattle.response.proofs.analysis.respond.Given as given
use Rattle.response.proofs.analysis.respond.Goals as goal

-- The models of the rows.
module _ (g : given.Over) (rows : List g.row.L.Denot) where
  abbrev ms : List Model
  ms = models g.L.Listed (meanings g.S.Entry g.S.Source) rows

  as_many : length ms ≡ length rows
  as_many = length-map rows (λ l. model (meanings g.S.Entry g.S.Source) (g.L.Listed.source l))

  lawful : AllLawful ms
  lawful = models_lawful g.L.Listed (meanings g.S.Entry g.S.Source) g.met.S.Source.lawful rows

pub returns-in_err-check_rows-clause-answer : goal.returns-in_err-check_rows-clause-answer
returns-in_err-check_rows-clause-answer g c =
    let rows = c.args.rows.now in
    let deadlines = map g.L.Listed.deadline rows in
    let inside = placed (length rows) c.args.place c.in_ok-check_place.ensures in
    let p = err_from_is_err_and c.from_residual-in_err-check_rows.result c.from_residual-in_err-check_rows.ensures.1 in
    ap (answered fault_number outcome_of) p.1 ∙ ap (λ f. refused (fault_number f)) p.2
    ∙ ap (with_values (response (place (ms g rows) c.args.place) (slice_index deadlines c.args.place))) c.in_err-check_rows.ensures
    ∙ sym (a_row (ms g rows) deadlines c.args.place (omega (arith, as_many g rows)))

pub response-requires : goal.response-requires
response-requires g c =
    let rows = c.args.rows.now in
    its_range g.L.Listed (meanings g.S.Entry g.S.Source) rows c.args.place c.at.result c.at.ensures.above c.at.ensures.own c.at.ensures.blocking
    (placed (length rows) c.args.place c.in_ok-check_place.ensures) c.in_ok-check_rows.ensures (lawful g rows)

pub returns : goal.returns
returns g c =
    let rows = c.args.rows.now in
    let m = c.args.place in
    let deadline = slice_index (map g.L.Listed.deadline rows) m in
    let inside = placed (length rows) m c.in_ok-check_place.ensures in
    let among : m < length (ms g rows) = omega (arith, as_many g rows) in
    let is : outcome_of c.response.result ≡ response (place (ms g rows) m) deadline =
    c.response.ensures ∙ the_response g.L.Listed (meanings g.S.Entry g.S.Source) rows m c.at.result c.at.ensures.above c.at.ensures.own c.at.ensures.blocking in
    record {
      answer = answered_with g.L.Listed (meanings g.S.Entry g.S.Source) rows m c.at.result c.at.ensures.above c.at.ensures.own c.at.ensures.blocking inside c.in_ok-check_rows.ensures _ is;
      grounded = subst (Grounded (place (ms g rows) m)) (sym is) (grounded (ms g rows) (lawful g rows) m among deadline);
      largest = subst (GivesLargest (place (ms g rows) m)) (sym is) (largest_given (ms g rows) (lawful g rows) m among deadline);
      holds = subst (NoRunOutlasts (ms g rows) m) (sym is) (no_run_outlasts (ms g rows) (lawful g rows) m among deadline);
    }
