use Rattle.diagram.proofs.Reducing.{reduction_decides}
use Rattle.diagram.proofs.reduction_decides_holds.Goals as goal

pub returns : goal.returns
returns g c = reduction_decides g.K.Kind.algebra g.met.K.Kind.lawful
