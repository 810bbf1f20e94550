use Rattle.diagram.proofs.Verdict.{the_verdict_is_right}
use Rattle.diagram.proofs.the_verdict_is_right_holds.Goals as goal

pub returns : goal.returns
returns c = the_verdict_is_right
