use Rattle.diagram.proofs.Bounds.{runs_are_bounded}
use Rattle.diagram.proofs.runs_are_bounded_holds.Goals as goal

pub returns : goal.returns
returns c = runs_are_bounded
