use Rattle.diagram.proofs.Merging.{merging_keeps_the_meaning}
use Rattle.diagram.proofs.merging_keeps_the_meaning_holds.Goals as goal

pub returns : goal.returns
returns g c = merging_keeps_the_meaning g.K.Kind.algebra g.met.K.Kind.lawful
