use Rattle.std.proofs.Common.{◌≡◌, ◌<◌, sym, ap, ◌∙◌, arith}
use Rattle.std.proofs.lemmas.Grind.{common_steps}
use Rattle.numbers.specs.Below.{sum_below, each_below}
use Rattle.format.specs.Layout.{record_count, record_of, is_step, is_outcome}
use Rattle.format.specs.Refusals.{first_failing}
use Rattle.format.specs.Checks.{block_layer, record_checks, record_checks_at}
use Rattle.numbers.proofs.BelowLaws.{count_le}
use Rattle.format.proofs.First.{past, stops, each_none, each_more, each_stops}
use Rattle.format.proofs.RecordLayer.{ahead_more}
use Rattle.format.proofs.records.check_records.Goals as goal
use Rattle.format.proofs.records.check_records.Goals.{In-Some}

-- the record that was read is the one at the reader's place, and what lies ahead of it is known
read_at : (c : In-Some) → c.in-Some.record.now ≡ record_of c.args.file.now c.loop-record.record-iterator.place
read_at c = grind arith

inside : (c : In-Some) → c.loop-record.record-iterator.place < record_count c.args.file.now
inside c = grind arith

same_checks : (c : In-Some) → record_checks c.loop-record.ahead c.in-Some.record.now ≡ record_checks_at c.args.file.now c.loop-record.record-iterator.place
same_checks c = grind arith

pub returns-in_err-check_blocks-clause-refused : goal.returns-in_err-check_blocks-clause-refused
returns-in_err-check_blocks-clause-refused c =
    let file = c.args.file.now in
    grind (arith, common_steps, stops (block_layer file) (each_below (record_count file) (record_checks_at file)) _ (sym c.in_err-check_blocks.ensures))

pub loop-record-init : goal.loop-record-init
unfolding sum_below
loop-record-init c =
    (grind arith, grind arith, grind (arith, c.default-ahead.ensures), grind (arith, each_none (record_checks_at c.args.file.now)))

pub returns-in_err-check-clause-refused : goal.returns-in_err-check-clause-refused
returns-in_err-check-clause-refused c =
    let at = (goal.at.returns-in_err-check-clause-refused c).In-Some in
    let file = c.args.file.now in
    grind (arith, common_steps, past (block_layer file) (each_below (record_count file) (record_checks_at file)), each_stops (record_count file) (record_checks_at file) c.loop-record.record-iterator.place _ (inside at) c.loop-record.invariant.3 (ap first_failing (sym (same_checks at)) ∙ sym c.in_err-check.ensures))

pub behind-ahead-requires : goal.behind-ahead-requires
behind-ahead-requires c =
    let file = c.args.file.now in
    let place = c.loop-record.record-iterator.place in
    let same = c.loop-record.invariant.2 in (
      grind (arith, inside (goal.at.behind-ahead-requires c).In-Some),
      grind (arith, count_le place (λ k. is_step (record_of file k))),
      grind (arith, count_le place (λ k. is_outcome (record_of file k))),
    )

pub loop-record-preserved : goal.loop-record-preserved
loop-record-preserved c =
    let at = (goal.at.loop-record-preserved c).In-Some in
    let file = c.args.file.now in
    let place = c.loop-record.record-iterator.place in (
      grind arith,
      grind (arith, inside at),
      grind (arith, read_at at, ahead_more file place),
      grind (arith, each_more place (record_checks_at file), same_checks at),
    )

pub returns : goal.returns
returns c =
    let file = c.args.file.now in
    let all : c.loop-record.record-iterator.place ≡ record_count file = grind arith in
    record {
      refused = grind (arith, past (block_layer file) (each_below (record_count file) (record_checks_at file)));
      counted = grind arith;
    }
