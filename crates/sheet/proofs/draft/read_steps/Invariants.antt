use Rattle.std.proofs.Common.{◌≡◌, map}
use Rattle.format.specs.Layout.{mask_of}
use Rattle.sheet.specs.Standing.{masks_of}
use Rattle.sheet.proofs.draft.read_steps.Given as goal

abbrev pub invariant-loop-record : goal.invariant-loop-record
invariant-loop-record l =
    (goal.iterator-loop-record).can_next l.record-iterator
    × (goal.iterator-loop-record).is_finite l.record-iterator
    × (masks_of l.steps ≡ map (λ rec. mask_of rec.now) l.yielded)
