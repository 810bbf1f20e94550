use Rattle.std.proofs.Common.{◌≡◌, ℕ, ◌<◌, ◌+◌, ◌-◌, Bool, true, false, not, ◌&&◌, ltb, List, [], inl, length, get_or, sym, ap, ◌∙◌, arith, rules}
use Rattle.std.specs.Bool.{MatchBool}
use Rattle.std.specs.List.{AllWithin, HoldsAt, enumerate_from}
use Rattle.std.proofs.lemmas.Iterator.{cases_from_all}
use Rattle.std.proofs.lemmas.Iterator.Consumers.{YieldsList-at, YieldsList-from_first, YieldsList-from_enumerate}
use Rattle.std.proofs.lemmas.List.FromFn.{length-enumerate_from, get_or-enumerate_from}
use Rattle.std.proofs.lemmas.Bool.Decides.{nat_tests}
use borrow.Author.Tests.{tests}
use Rattle.format.specs.Layout.{Bytes, record_of, record_count, records_from}
use Rattle.format.specs.Checks.{some_nonzero, first_blank, blanks_wrong}
use Rattle.format.specs.Reading.{records_left}
use Rattle.format.proofs.Blanks.{blanks_good, blanks_bad, blanks_many}
use Rattle.format.proofs.RecordsIn.{records_len, records_at}
use Rattle.format.proofs.blocks.blanks_right.Goals as goal

-- whether a record may stand behind so many blanks
abbrev right : ℕ × Bytes → Bool
right p = ltb p.0 8 && not (some_nonzero p.1)

module _ (file : Bytes) where
  abbrev first : ℕ
  first = first_blank file

  abbrev numbered : List (ℕ × Bytes)
  numbered = enumerate_from 0 (records_from file first)

  -- as many as there are from the first blank on
  count : length numbered ≡ record_count file - first
  count = length-enumerate_from 0 (records_from file first) ∙ records_len file first

  there : (k : ℕ) → k < record_count file - first → right (get_or numbered k (0, [])) ≡ (ltb k 8 && not (some_nonzero (record_of file (first + k))))
  there k lt =
      grind (arith, get_or-enumerate_from 0 (records_from file first) k (0, []), records_len file first, records_at file first k (first + k) [])

  tells : (r : Bool) → MatchBool r (AllWithin (λ p. right p ≡ true) numbered 0 (length numbered)) ((k : ℕ) × (k < length numbered) × HoldsAt (λ p. right p ≡ false) numbered k) → r ≡ not (blanks_wrong file)
  tells true all =
      let passes : (k : ℕ) → k < record_count file - first → (ltb k 8 && not (some_nonzero (record_of file (first + k)))) ≡ true = λ k lt. grind (arith, there k lt, all k (0, []), count) in
      sym (ap not (blanks_good file (λ k le lt. grind (arith, passes (k - first))) (grind (arith, nat_tests, passes 8))))
  tells false some =
      let k = some.0 in
      let many = blanks_many file in
      grind (arith, nat_tests, count, there k, some.2 (0, []), blanks_bad file (first + k))

pub all-requires-clause-can : goal.all-requires-clause-can
all-requires-clause-can c = (tt, tt, inl (omega (arith, c.enumerate.ensures.count, records_len c.enumerate.result.iter.file.now c.enumerate.result.iter.place)))

pub returns : goal.returns
returns c =
    let file = c.args.file.now in
    tells file c.all.result
    (cases_from_all c.all.new.self _ c.all.result (λ p. right p ≡ true) (λ p. right p ≡ false) c.all.ensures.ran
    (YieldsList-from_enumerate
    (YieldsList-at c.enumerate.ensures.source
    (YieldsList-from_first (λ y. y.now) records_left {s = c.at.result} (records_from file (first_blank file)) (λ i. records_from (c.at.ensures.file i) ((c.at.ensures.place ∙ c.requires) i))))
    c.enumerate.ensures.count)
    (λ x q k. search (rules, tests)) (λ x q k. search (rules, tests)))
