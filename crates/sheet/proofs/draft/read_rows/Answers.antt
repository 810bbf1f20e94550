use Rattle.std.proofs.Common.{◌≡◌, ℕ, ◌+◌, ◌<◌, cond, ltb, List, Option, ◌++◌, [], ◌∷◌, length, get_or, set, Some, None, refl, ap, ◌∙◌, arith, get_or-set_same, get_or-set_other, length-append}
use Rattle.std.specs.Iterator.{YieldsFirstRef}
use Rattle.std.specs.Iterator.Adapters.{zip_first, zip_second}
use Rattle.std.proofs.iter.Yields.{nat_range_steps}
use Rattle.std.proofs.lemmas.Bool.{cases_eq}
use Rattle.std.proofs.lemmas.Bool.Decides.{nat_tests}
use Rattle.std.proofs.lemmas.Iterator.{YieldsList, YieldsList-from_range, YieldsList-from_zip, zips}
use Rattle.std.proofs.lemmas.Iterator.Consumers.{YieldsList-at, YieldsList-from_first, YieldsList-turn, YieldsList-end}
use Rattle.std.proofs.lemmas.List.{get_or-replicate}
use Rattle.std.proofs.lemmas.List.FromFn.{fill_by_all}
use Rattle.format.specs.Layout.{record_of, records_from}
use Rattle.format.specs.Reading.{records_left}
use Rattle.diagram.specs.declared.rows.Row.{Row}
use Rattle.sheet.specs.FileDiagram.{row_in, outcome_at, row_at}
use Rattle.sheet.proofs.Reading.{numbered, numbered_len, numbered_at}
use Rattle.sheet.proofs.RecordedBounds.{bounds}
use Rattle.sheet.proofs.draft.read_rows.Goals as goal
use Rattle.sheet.proofs.draft.read_rows.Goals.{After-into_iter-r-iterator, In-Some}

-- one row more is written
one_more : (rows : List (Option Row)) (m k : ℕ) (row : ℕ → Option Row) → m < length rows → get_or rows k None ≡ cond (ltb k m) (row k) None → get_or (set rows m (row m)) k None ≡ cond (ltb k (m + 1)) (row k) None
one_more rows m k row inside sofar = grind (arith, nat_tests, get_or-set_same rows m (row m) None, get_or-set_other rows m k (row m) None, cases_eq k m)

-- the loop goes over the outcomes' records, each with its number
road : (c : After-into_iter-r-iterator)
    → YieldsList (zips nat_range_steps (YieldsFirstRef records_left)) (λ p. (p.0, p.1.now)) c.into_iter-r-iterator.result (numbered c.args.recorded.now.file.now c.args.recorded.now.contents.steps c.args.recorded.now.contents.outcomes)
road c =
    let it = c.into_iter-r-iterator.ensures.into_iter_gives in
    let n = c.args.recorded.now.contents.outcomes in
    YieldsList-from_zip
    (YieldsList-at (ap zip_first it ∙ c.zip-r-items.ensures.first) (YieldsList-from_range 0 n n refl (omega arith)))
    (YieldsList-at (ap zip_second it ∙ c.zip-r-items.ensures.second)
    (YieldsList-from_first (λ rec. rec.now) records_left {s = c.at-records.result} _ (λ i. records_from (c.at-records.ensures.file i) (c.at-records.ensures.place i))))

pub loop-r-init : goal.loop-r-init
loop-r-init c = (
  (tt, tt),
  tt,
  λ k lt. grind (arith, nat_tests, get_or-replicate {A = Option Row} 256 k None None lt),
)

-- each turn has its number and the outcome's record
turn : (c : In-Some) → (c.in-Some.r ≡ length c.loop-r.yielded) × (length c.loop-r.yielded < c.args.recorded.now.contents.outcomes) × (c.in-Some.record.now ≡ outcome_at c.args.recorded.now.file.now (length c.loop-r.yielded))
turn c =
    let file = c.args.recorded.now.file.now in
    let contents = c.args.recorded.now.contents in
    let most = bounds _ _ c.args.recorded.now.recorded in
    let here = YieldsList-turn (road (goal.at.In-Some c).After-into_iter-r-iterator) c.loop-r.yielded c.loop-r.r-iterator c.loop-r.yielded_by c.next.result c.next.new.self (c.in-Some.r, c.in-Some.record) c.in-Some.is c.next.ensures.steps in
    let item = numbered_at file contents.steps contents.outcomes most.within (length c.loop-r.yielded) (c.in-Some.r, c.in-Some.record.now) here.0 here.1 in
    (item.1, item.0, item.2 ∙ ap (λ d. record_of file (d.steps + length c.loop-r.yielded)) c.args.recorded.now.recorded.counted)

pub put-requires : goal.put-requires
put-requires c =
    let here = turn (goal.at.put-requires c).In-Some in
    let most = bounds _ _ c.args.recorded.now.recorded in
    omega (arith, here.0, here.1)

pub loop-r-preserved : goal.loop-r-preserved
loop-r-preserved c =
    let file = c.args.recorded.now.file.now in
    let m = length c.loop-r.yielded in
    let here = turn (goal.at.loop-r-preserved c).In-Some in
    let rows = c.loop-r.table.rows in
    let long : length (c.loop-r.yielded ++ (c.in-Some.r, c.in-Some.record) ∷ []) ≡ m + 1 = length-append c.loop-r.yielded _ in
    let row = c.row_in.ensures ∙ ap row_in here.2 in (
      (tt, tt),
      tt,
      λ k lt.
          let more = one_more rows m k (λ j. Some (row_in (outcome_at file j))) (omega (arith, c.loop-r.table.long, here.1, (bounds _ _ c.args.recorded.now.recorded).few_outcomes)) (c.loop-r.invariant.2 k lt) in
          grind (arith, here.0, row),
    )

pub returns : goal.returns
returns c =
    let file = c.args.recorded.now.file.now in
    let contents = c.args.recorded.now.contents in
    let most = bounds _ _ c.args.recorded.now.recorded in
    let end = YieldsList-end (road (goal.at.returns c).After-into_iter-r-iterator) c.loop-r.yielded c.loop-r.r-iterator c.loop-r.yielded_by c.next.result c.next.new.self c.in-None.is c.next.ensures.steps in
    let all = end.1 ∙ numbered_len file contents.steps contents.outcomes most.within in
    fill_by_all (row_at file) c.loop-r.table.rows 256 None c.loop-r.table.long (λ k lt.
    c.loop-r.invariant.2 k lt ∙ ap (λ n. cond (ltb k n) (Some (row_in (outcome_at file k))) None) (all ∙ ap (λ d. d.outcomes) c.args.recorded.now.recorded.counted))
