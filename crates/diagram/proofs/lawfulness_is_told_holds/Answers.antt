use Rattle.diagram.proofs.LawfulTold.{lawfulness_is_told}
use Rattle.diagram.proofs.lawfulness_is_told_holds.Goals as goal

pub returns : goal.returns
returns c = lawfulness_is_told
