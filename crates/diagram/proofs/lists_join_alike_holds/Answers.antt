use Rattle.diagram.proofs.Joins.{lists_join_alike}
use Rattle.diagram.proofs.lists_join_alike_holds.Goals as goal

pub returns : goal.returns
returns g c = lists_join_alike g.K.Kind.algebra g.met.K.Kind.lawful
