use Rattle.analysis.specs.FlagsAlgebra.{through}
use Rattle.analysis.specs.FlagPairs.{may_related}
use Rattle.analysis.proofs.flags.as_kind.composition_is_relational_holds.Goals as goal

pub returns : goal.returns
returns c = λ x y v w vl wl. may_related (through x.relation y.relation) v w vl wl
