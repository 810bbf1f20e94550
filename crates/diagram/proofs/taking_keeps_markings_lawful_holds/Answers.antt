use Rattle.diagram.proofs.Taking.{taking_keeps_markings_lawful}
use Rattle.diagram.proofs.taking_keeps_markings_lawful_holds.Goals as goal

pub returns : goal.returns
returns c = taking_keeps_markings_lawful
