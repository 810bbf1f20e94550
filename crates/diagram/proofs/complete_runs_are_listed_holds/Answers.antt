use Rattle.diagram.proofs.Listed.{complete_runs_are_listed}
use Rattle.diagram.proofs.complete_runs_are_listed_holds.Goals as goal

pub returns : goal.returns
returns c = complete_runs_are_listed
