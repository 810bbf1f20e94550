use Rattle.diagram.proofs.SoundDecided.{soundness_is_decided}
use Rattle.diagram.proofs.soundness_is_decided_holds.Goals as goal

pub returns : goal.returns
returns c = soundness_is_decided
