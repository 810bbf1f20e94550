use Rattle.std.proofs.Common.{refl}
use Rattle.numbers.specs.Below.{sum_below}
use Rattle.analysis.specs.DefinitionsLaws.{same_definitions}
use Rattle.analysis.proofs.definitions.as_kind.DefinitionsKind.unit.Goals as goal

pub returns : goal.returns
unfolding sum_below
returns c = same_definitions _ _ refl refl
