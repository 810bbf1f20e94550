use Rattle.std.proofs.Common.{◌≡◌, ◌<◌, false, [], ◌∷◌, length, sym, ap, ◌∙◌, arith}
use Rattle.std.proofs.lemmas.Grind.{common_steps}
use Rattle.format.specs.Layout.{block_count}
use Rattle.format.specs.Checks.{wrong_length, first_blank, blanks_wrong, block_checks_at, block_layer}
use Rattle.format.specs.Refusals.{refusal_in, first_failing, block_check}
use Rattle.numbers.specs.Below.{each_below}
use Rattle.format.proofs.First.{past, stops, each_none, each_more, each_stops}
use Rattle.format.proofs.Blanks.{blanks_good}
use Rattle.format.proofs.RecordsIn.{block_in}
use Rattle.format.proofs.blocks.check_blocks.Goals as goal
use Rattle.format.proofs.blocks.check_blocks.Goals.{After-loop-position, After-check_block, In_ok-ensure}

fits : (c : In_ok-ensure) → wrong_length (length c.args.file.now) ≡ false
fits c = grind arith

-- the chunk that was checked is the file's block
same_block : (c : After-check_block) → refusal_in c.check_block.result ≡ first_failing (block_checks_at c.args.file.now c.loop-position.position)
same_block c = grind (arith, block_in c.args.file.now c.loop-position.position)

pub loop-position-init : goal.loop-position-init
loop-position-init c = each_none _

pub returns-in_err-check_block : goal.returns-in_err-check_block
returns-in_err-check_block c =
    let file = c.args.file.now in
    let at = goal.at.returns-in_err-check_block c in
    let inside : c.loop-position.position < block_count file = omega (arith, c.as_chunks.ensures.front_len) in
    let stop = each_stops (block_count file) (block_checks_at file) c.loop-position.position _ inside c.loop-position.invariant (sym (same_block at.After-check_block) ∙ ap refusal_in c.in_err-check_block.was) in
    grind (arith, common_steps, fits at.In_ok-ensure, stops (each_below (block_count file) (block_checks_at file)) (block_check 4 (first_blank file) (blanks_wrong file) ∷ []) _ stop)

pub loop-position-preserved : goal.loop-position-preserved
loop-position-preserved c = grind (arith, each_more c.loop-position.position (block_checks_at c.args.file.now), same_block (goal.at.loop-position-preserved c).After-check_block)

-- only the blank rule is left to fail
through : (c : After-loop-position) → first_failing (block_layer c.args.file.now) ≡ first_failing (block_check 4 (first_blank c.args.file.now) (blanks_wrong c.args.file.now) ∷ [])
through c =
    let file = c.args.file.now in
    let all : c.loop-position.position ≡ block_count file = omega (arith, c.as_chunks.ensures.front_len) in
    grind (arith, fits (goal.at.After-loop-position c).In_ok-ensure, past (each_below (block_count file) (block_checks_at file)) (block_check 4 (first_blank file) (blanks_wrong file) ∷ []))

pub returns-in-Some : goal.returns-in-Some
returns-in-Some c = grind (arith, through (goal.at.returns-in-Some c).After-loop-position)

pub returns-in-None : goal.returns-in-None
returns-in-None c =
    let none = c.in-None.ensures in
    let right = blanks_good c.args.file.now (λ k le lt. absurd (omega arith)) (omega arith) in
    grind (arith, right, through (goal.at.returns-in-None c).After-loop-position)
