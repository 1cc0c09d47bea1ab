use Rattle.worked.proofs.WorkedProofs.{worked_cases}
use Rattle.worked.proofs.cases_hold.Goals as goal

pub returns : goal.returns
returns c = worked_cases
