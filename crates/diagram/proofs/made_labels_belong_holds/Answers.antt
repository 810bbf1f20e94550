use Rattle.diagram.proofs.Made.{made_labels_belong}
use Rattle.diagram.proofs.made_labels_belong_holds.Goals as goal

pub returns : goal.returns
returns g c = made_labels_belong g.K.Kind.algebra g.met.K.Kind.lawful
