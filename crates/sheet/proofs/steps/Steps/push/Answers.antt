use Rattle.std.proofs.Common.{◌<◌, length, arith}
use Rattle.sheet.proofs.Listed.{length_masks, masks_more}
use Rattle.sheet.proofs.steps.Steps.push.Goals as goal

pub returns : goal.returns
returns c =
    let steps = c.args.self.now in
    let room : steps.count < length steps.parties = grind (arith, length_masks steps.count steps.parties, steps.few, steps.long) in
    masks_more steps.count steps.parties c.args.parties room
