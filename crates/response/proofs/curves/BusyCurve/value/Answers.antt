use Rattle.sources.specs.Models.{meanings}
use Rattle.response.specs.CurveLemmas.{busy_rises}
use Rattle.response.proofs.curves.BusyCurve.value.Goals as goal

pub returns-clause-rising : goal.returns-clause-rising
returns-clause-rising g c = busy_rises g.L.Listed (meanings g.S.Entry g.S.Source) g.met.S.Source.lawful c.args.self.now.place.now
