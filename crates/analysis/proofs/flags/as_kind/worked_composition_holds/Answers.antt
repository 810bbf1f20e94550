use Rattle.std.proofs.Common.{refl}
use Rattle.numbers.specs.Below.{sum_below, some_below}
use Rattle.analysis.proofs.flags.as_kind.worked_composition_holds.Goals as goal

pub returns : goal.returns
unfolding sum_below some_below
returns c = (refl, refl)
