use Rattle.std.proofs.Common.{rules}
use Rattle.sources.specs.Models.{meanings}
use Rattle.response.proofs.AnswerLaws.{loads_tried}
use Rattle.response.proofs.curves.add_loads.Goals as goal

pub returns : goal.returns
returns g c =
    loads_tried _ g.L.Listed (meanings g.S.Entry g.S.Source) _ (λ s. s.rest.now) c.iter.result _ _ c.args.rows.now c.args.t c.args.held c.try_fold.result c.map_or.result
    c.try_fold.ensures.runs c.iter.ensures.runs c.iter.ensures.rest (λ a x v f' k. search rules) (search rules)
