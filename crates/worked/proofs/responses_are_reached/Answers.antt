use Rattle.worked.proofs.ReachedProofs.{both_reached}
use Rattle.worked.proofs.responses_are_reached.Goals as goal

pub returns : goal.returns
returns c = both_reached
