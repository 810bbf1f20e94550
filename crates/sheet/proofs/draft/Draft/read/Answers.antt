use Rattle.std.proofs.Common.{map, ap, ◌∙◌}
use Rattle.std.specs.List.{range_with_len}
use Rattle.sheet.specs.FileDiagram.{mask_at}
use Rattle.sheet.proofs.draft.Draft.read.Goals as goal

pub returns : goal.returns
returns c =
    let recorded = c.args.recorded.now.recorded in
    let masks = c.read_steps.ensures ∙ ap (λ d. map (mask_at c.args.recorded.now.file.now) (range_with_len 0 d.steps)) recorded.counted in
    record { counts = recorded.counted; holds = λ i. record { masks = masks i; rows = c.read_rows.ensures i } }
