use Rattle.std.proofs.Common.{rules}
use Rattle.register.proofs.register.Register.apply.Goals as goal

pub returns-in-Enter-clause-answer : goal.returns-in-Enter-clause-answer
returns-in-Enter-clause-answer g c = search rules
