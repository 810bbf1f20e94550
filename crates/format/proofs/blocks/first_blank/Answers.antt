use Rattle.std.proofs.Common.{◌≡◌, ℕ, ◌<◌, true, false, Some, None, Option, [], inl, length, sym, arith, rules}
use Rattle.std.specs.Option.{MatchOption}
use Rattle.std.specs.List.{AllWithin, HoldsAt}
use Rattle.std.proofs.lemmas.Iterator.{IsFirst-from_position}
use Rattle.std.proofs.lemmas.Iterator.Consumers.{YieldsList-from_first}
use borrow.Author.Tests.{tests}
use Rattle.numbers.proofs.BelowLaws.{first_is, first_none}
use Rattle.format.specs.Layout.{Bytes, record_of, record_count, records_from, is_blank}
use Rattle.format.specs.Checks.{first_blank}
use Rattle.format.specs.Reading.{records_left}
use Rattle.format.proofs.RecordsIn.{records_len, records_at}
use Rattle.format.proofs.blocks.first_blank.Goals as goal

first : (file : Bytes) (found : Option ℕ)
    → MatchOption found (AllWithin (λ rec. is_blank rec ≡ false) (records_from file 0) 0 (length (records_from file 0)))
    (λ i. (i < length (records_from file 0)) × HoldsAt (λ rec. is_blank rec ≡ true) (records_from file 0) i × AllWithin (λ rec. is_blank rec ≡ false) (records_from file 0) 0 i)
    → MatchOption found (first_blank file ≡ record_count file) (λ i. (i < record_count file) × (i ≡ first_blank file))
first file None none =
    first_none (record_count file) (λ r. is_blank (record_of file r)) (λ k lt. grind (arith, records_at file 0 k k [], none k [], records_len file 0))
first file (Some i) found =
    let len = records_len file 0 in
    (omega arith, sym (first_is (record_count file) (λ r. is_blank (record_of file r)) i (omega arith) (grind (arith, records_at file 0 i i [], found.1 [])) (λ k lt. grind (arith, records_at file 0 k k [], found.2 k []))))

pub position-requires-clause-fits : goal.position-requires-clause-fits
position-requires-clause-fits c = inl (omega (arith, records_len c.at.result.file.now c.at.result.place))

pub returns : goal.returns
returns c =
    let file = c.args.file.now in
    let h = IsFirst-from_position c.position.new.self _ c.position.result (λ rec. is_blank rec ≡ true) (λ rec. is_blank rec ≡ false) c.position.ensures.ran
    (YieldsList-from_first (λ y. y.now) records_left {s = c.at.result} (records_from file 0) (λ i. records_from (c.at.ensures.file i) (c.at.ensures.place i)))
    (λ x q k. search (rules, tests)) (λ x q k. search (rules, tests)) in
    first file c.position.result h
