use Rattle.std.proofs.Common.{map, length, sym, ap, ◌∙◌, arith}
use Rattle.std.specs.List.{range_with_len}
use Rattle.std.specs.Iterator.{YieldsFirstRef}
use Rattle.std.specs.Iterator.Adapters.{take_source, take_count, take_steps}
use Rattle.std.proofs.lemmas.Iterator.{YieldsList}
use Rattle.std.proofs.lemmas.Iterator.Consumers.{YieldsList-turn, YieldsList-end}
use Rattle.std.proofs.lemmas.List.{length-map}
use Rattle.std.proofs.lemmas.List.FromFn.{length-map-range_with_len}
use Rattle.std.proofs.lemmas.Simd.{map-map}
use Rattle.format.specs.Layout.{record_of, mask_of}
use Rattle.format.specs.Reading.{records_left}
use Rattle.sheet.proofs.Reading.{records, taken}
use Rattle.sheet.proofs.RecordedBounds.{bounds}
use Rattle.sheet.proofs.draft.read_steps.Goals as goal
use Rattle.sheet.proofs.draft.read_steps.Goals.{After-into_iter-record-iterator}

-- the loop goes over the steps' records
road : (c : After-into_iter-record-iterator) → YieldsList (take_steps (YieldsFirstRef records_left)) (λ rec. rec.now) c.into_iter-record-iterator.result (records c.args.recorded.now.file.now 0 c.args.recorded.now.contents.steps)
road c =
    let it = c.into_iter-record-iterator.ensures.into_iter_gives in
    let source = ap take_source it ∙ c.take-record-items.ensures.source in
    let most = bounds _ _ c.args.recorded.now.recorded in
    taken _ _ _ _ (omega arith) (ap (λ r. r.file.now) source ∙ c.at.ensures.file) (ap (λ r. r.place) source ∙ c.at.ensures.place) (ap take_count it ∙ c.take-record-items.ensures.count)

pub push-requires : goal.push-requires
push-requires c =
    let file = c.args.recorded.now.file.now in
    let n = c.args.recorded.now.contents.steps in
    let most = bounds _ _ c.args.recorded.now.recorded in
    let turn = YieldsList-turn (road (goal.at.push-requires c).After-into_iter-record-iterator) c.loop-record.yielded c.loop-record.record-iterator c.loop-record.yielded_by c.next.result c.next.new.self c.in-Some.record c.in-Some.is c.next.ensures.steps in
    let all = length-map-range_with_len (record_of file) 0 n in
    let long = ap length c.loop-record.invariant.2 ∙ length-map c.loop-record.yielded (λ rec. mask_of rec.now) in
    omega (arith, turn.0)

pub returns : goal.returns
returns c =
    let file = c.args.recorded.now.file.now in
    let n = c.args.recorded.now.contents.steps in
    let all = YieldsList-end (road (goal.at.returns c).After-into_iter-record-iterator) c.loop-record.yielded c.loop-record.record-iterator c.loop-record.yielded_by c.next.result c.next.new.self c.in-None.is c.next.ensures.steps in
    c.loop-record.invariant.2 ∙ sym (map-map mask_of (λ rec. rec.now) c.loop-record.yielded) ∙ ap (map mask_of) all.0 ∙ map-map mask_of (record_of file) (range_with_len 0 n)
