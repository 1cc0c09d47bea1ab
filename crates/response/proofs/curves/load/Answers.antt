use Rattle.sources.specs.Models.{model, meanings}
use Rattle.response.proofs.AnswerLaws.{load_by_calls}
use Rattle.response.proofs.curves.load.Goals as goal

pub returns : goal.returns
returns g c =
    let source = c.args.source.now in
    load_by_calls (model (meanings g.S.Entry g.S.Source) source) (g.met.S.Source.lawful source) c.args.t c.reach.result c.count.result c.work.result
    c.reach.ensures c.count.ensures c.work.ensures
