use Rattle.response.specs.Views.{seen}
use Rattle.response.proofs.Judging.{JudgedUpto}
use Rattle.response.proofs.place.Place.judge.Given as goal
use Rattle.sources.specs.Models.{meanings}

abbrev pub invariant-loop-q : goal.invariant-loop-q
invariant-loop-q g l = JudgedUpto (seen g.L.Listed (meanings g.S.Entry g.S.Source) l.self) l.rounds l.q l.start l.bound l.all_rounds
