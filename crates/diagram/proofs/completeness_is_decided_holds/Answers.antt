use Rattle.diagram.proofs.CompleteDecided.{completeness_is_decided}
use Rattle.diagram.proofs.completeness_is_decided_holds.Goals as goal

pub returns : goal.returns
returns c = completeness_is_decided
