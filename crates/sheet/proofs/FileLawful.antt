-- A file that passes the checks of its diagram means a lawful diagram.
use Rattle.std.proofs.Common.{◌≡◌, ℕ, ◌+◌, ◌-◌, ◌<◌, ◌≤◌, ltb, ◌++◌, get_or, None, arith}
use Rattle.std.proofs.lemmas.Bool.Decides.{nat_tests}
use Rattle.format.specs.Checks.{contents_of}
use Rattle.format.specs.Layout.{Bytes, byte}
use Rattle.format.specs.Refusals.{Check, first_failing}
use Rattle.format.proofs.First.{none_first, none_parts, one_each, one_passes}
use Rattle.format.proofs.InOrder.{InOrder}
use Rattle.diagram.specs.Diagrams.{Lawful}
use Rattle.diagram.specs.Worked.{number}
use Rattle.sheet.specs.DiagramLayer.{diagram_check, wrong_parties, wrong_goals, no_outcome, parties_checks, goal_checks, outcome_checks, shape_checks}
use Rattle.sheet.specs.FileDiagram.{steps_in, outcomes_in, file_standing, file_diagram}
use Rattle.sheet.proofs.FileParts.{file_steps, file_mask, file_used, file_step, file_mask_small}
use Rattle.sheet.proofs.StandingLawful.{standing_lawful}

pub file_is_lawful : (file : Bytes) → ((i : ℕ) → byte file i < 256) → InOrder file → first_failing (shape_checks (contents_of file) (file_standing file)) ≡ None → Lawful number (file_diagram file)
file_is_lawful file bytes order none =
    let c = contents_of file in
    let s = file_standing file in
    let shape = none_parts (parties_checks c s) (goal_checks c s ++ outcome_checks c s) none in
    let later = none_parts (goal_checks c s) (outcome_checks c s) shape.1 in
    let parties_check : ℕ → Check = λ n. diagram_check 10 n (wrong_parties s n) in
    let parties = none_first (diagram_check 10 0 (ltb (steps_in file) 2)) (one_each parties_check (steps_in file)) shape.0 in
    let long = file_steps file in
    let few : outcomes_in file ≤ 256 = let most = order.few_outcomes in omega arith in
    standing_lawful s (file_mask_small file bytes)
    (grind (arith, nat_tests, parties.0))
    (λ n lt zero. grind (arith, order.step_there n, file_mask file n))
    (λ n lt. one_passes parties_check (steps_in file) parties.1 n (omega arith))
    (λ r used. grind (arith, file_used file r used, file_step file few r, order.outcome_there r))
    (λ r used. one_passes (λ k. diagram_check 11 (steps_in file + k) (wrong_goals s.masks (get_or s.rows k None))) (outcomes_in file) later.0 r (file_used file r used))
    (λ n lt. one_passes (λ k. diagram_check 12 k (no_outcome s k)) (steps_in file - 1) later.1 n (omega arith))
