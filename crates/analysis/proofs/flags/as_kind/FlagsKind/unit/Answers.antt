use Rattle.std.proofs.Common.{refl}
use Rattle.numbers.specs.Below.{sum_below}
use Rattle.analysis.specs.FlagPairs.{same_flags}
use Rattle.analysis.proofs.flags.as_kind.FlagsKind.unit.Goals as goal

pub returns : goal.returns
unfolding sum_below
returns c = same_flags _ _ refl
