use Rattle.diagram.proofs.Moving.{moving_keeps_the_meaning}
use Rattle.diagram.proofs.moving_keeps_the_meaning_holds.Goals as goal

pub returns : goal.returns
returns g c = moving_keeps_the_meaning g.K.Kind.algebra g.met.K.Kind.lawful
