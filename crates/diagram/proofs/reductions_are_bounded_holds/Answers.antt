use Rattle.diagram.proofs.Shrinking.{reductions_are_bounded}
use Rattle.diagram.proofs.reductions_are_bounded_holds.Goals as goal

pub returns : goal.returns
returns g c = reductions_are_bounded g.K.Kind.algebra
