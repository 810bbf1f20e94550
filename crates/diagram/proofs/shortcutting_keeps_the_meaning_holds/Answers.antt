use Rattle.diagram.proofs.ShortcutKept.{shortcutting_keeps_the_meaning}
use Rattle.diagram.proofs.shortcutting_keeps_the_meaning_holds.Goals as goal

pub returns : goal.returns
returns g c = shortcutting_keeps_the_meaning g.K.Kind.algebra g.met.K.Kind.lawful
