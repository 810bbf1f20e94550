use Rattle.std.proofs.Common.{◌≡◌, take, drop, sym, ap, ◌∙◌, arith}
use Rattle.std.proofs.lemmas.Grind.{common_steps}
use Rattle.std.proofs.lemmas.List.{take_rest}
use Rattle.format.specs.Layout.{Bytes, byte}
use Rattle.format.specs.Refusals.{refusal_in, first_failing}
use Rattle.format.specs.Checks.{name_field_checks}
use Rattle.format.proofs.First.{stops}
use Rattle.format.proofs.RecordLayer.{named, last_two, cut_names, cut_mask, cut_unused, step_name, step_left, outcome_name, outcome_left}
use Rattle.format.proofs.records.Ahead.check.Goals as goal
use Rattle.format.proofs.records.Ahead.check.Goals.{After-split_at}

-- the checks of the name that was cut out are those of the record's name
names : (c : After-split_at) (text : Bytes) → text ≡ drop 1 c.split_at.result.1.now → first_failing (name_field_checks c.args.self.now.records (byte c.split_at.result.1.now 0) text) ≡ first_failing (named c.args.self.now c.args.rec.now)
names c text cut = cut_names c.args.self.now c.args.rec.now c.split_at.result.1.now text (grind (arith, take_rest c.args.rec.now 2)) cut

pub returns-in_err-check_name-in-Ok-Step : goal.returns-in_err-check_name-in-Ok-Step
returns-in_err-check_name-in-Ok-Step c =
    let self = c.args.self.now in
    let rec = c.args.rec.now in
    let same = names (goal.at.returns-in_err-check_name-in-Ok-Step c).After-split_at _ (take_rest c.split_at.result.1.now 1) in
    grind (arith, common_steps, step_name self rec, stops (named self rec) (last_two self rec) _ (sym same ∙ sym c.check_name.ensures ∙ ap refusal_in c.in_err-check_name-in-Ok-Step.was), c.in-Ok-Step.ensures)

pub returns-in_ok-check_name-in-Ok-Step : goal.returns-in_ok-check_name-in-Ok-Step
returns-in_ok-check_name-in-Ok-Step c =
    let self = c.args.self.now in
    let rec = c.args.rec.now in
    let same = names (goal.at.returns-in_ok-check_name-in-Ok-Step c).After-split_at _ (take_rest c.split_at.result.1.now 1) in
    let fields : c.split_at.result.0.now ≡ take 40 (drop 2 rec) = grind (arith, take_rest rec 2) in
    let left = step_left self rec (grind (arith, common_steps, c.in-Ok-Step.ensures)) (grind (arith, common_steps)) (grind arith) in
    grind (arith, left, cut_mask rec _ fields, take_rest c.split_at.result.0.now 1 ∙ cut_unused rec _ fields)

pub returns-in_err-check_name-in-Ok-Outcome : goal.returns-in_err-check_name-in-Ok-Outcome
returns-in_err-check_name-in-Ok-Outcome c =
    let self = c.args.self.now in
    let rec = c.args.rec.now in
    let same = names (goal.at.returns-in_err-check_name-in-Ok-Outcome c).After-split_at _ (take_rest c.split_at.result.1.now 1) in
    grind (arith, common_steps, outcome_name self rec, stops (named self rec) (last_two self rec) _ (sym same ∙ sym c.check_name-in-Ok-Outcome.ensures ∙ ap refusal_in c.in_err-check_name-in-Ok-Outcome.was), c.in-Ok-Outcome.ensures)

pub returns-in_ok-check_name-in-Ok-Outcome : goal.returns-in_ok-check_name-in-Ok-Outcome
returns-in_ok-check_name-in-Ok-Outcome c =
    let self = c.args.self.now in
    let rec = c.args.rec.now in
    let same = names (goal.at.returns-in_ok-check_name-in-Ok-Outcome c).After-split_at _ (take_rest c.split_at.result.1.now 1) in
    grind (arith, common_steps, outcome_left self rec, c.in-Ok-Outcome.ensures)

pub returns-in_err-ensure-in-Ok-Step : goal.returns-in_err-ensure-in-Ok-Step
returns-in_err-ensure-in-Ok-Step c = grind (arith, common_steps)
