-- The blank rule, by what lies behind the first record of kind 0.
use Rattle.std.proofs.Common.{◌≡◌, ℕ, ◌+◌, ◌<◌, ◌≤◌, Bool, true, false, not, ◌&&◌, eqb, leb, length, get_or, ⊎_elim, arith}
use Rattle.std.proofs.lemmas.List.{get_or_past}
use Rattle.std.proofs.lemmas.Bool.{cases_Bool, cases_lt, cases_order}
use Rattle.std.proofs.lemmas.Bool.Decides.{nat_tests}
use Rattle.numbers.specs.Below.{count_below, some_below}
use Rattle.format.specs.Layout.{Bytes, record_count, record_of, is_blank}
use Rattle.format.specs.Checks.{some_nonzero, first_blank, blanks_wrong}
use Rattle.numbers.proofs.BelowLaws.{Least, first_tells, some_found, some_none, some_at, none_at, count_from}

-- a record of zeros is blank
zeros_blank : (rec : Bytes) → some_nonzero rec ≡ false → is_blank rec ≡ true
zeros_blank rec zeros = grind (arith, nat_tests, none_at (length rec) (λ i. not (eqb (get_or rec i 0) 0)) zeros 0, get_or_past rec 0 0, cases_lt 0 (length rec))

module _ (file : Bytes) where
  abbrev blank_at : ℕ → Bool
  blank_at r = is_blank (record_of file r)

  abbrev nonzero_at : ℕ → Bool
  nonzero_at r = some_nonzero (record_of file r)

  abbrev n : ℕ
  n = record_count file

  abbrev first : ℕ
  first = first_blank file

  pub first_blank_tells : Least (record_count file) blank_at (first_blank file)
  first_blank_tells = first_tells n blank_at

  -- the two tests of the rule that find a record
  abbrev kept : ℕ → Bool
  kept r = blank_at r && nonzero_at r

  abbrev late : ℕ → Bool
  late r = not (blank_at r) && some_below r blank_at

  counted : ((k : ℕ) → first ≤ k → k < n → nonzero_at k ≡ false) → count_below n blank_at + first ≡ n
  counted zeros = count_from n blank_at first first_blank_tells.before (λ k le lt. zeros_blank (record_of file k) (zeros k le lt)) first_blank_tells.within

  pub blanks_good : ((k : ℕ) → first_blank file ≤ k → k < record_count file → nonzero_at k ≡ false) → record_count file ≤ first_blank file + 8 → blanks_wrong file ≡ false
  blanks_good zeros few =
      let no_kept = some_none n kept (λ r lt. grind (arith, first_blank_tells.before r, zeros r, cases_lt r first)) in
      let no_late = some_none n late (λ r lt.
      let ahead = some_none r blank_at in
      let behind = λ (le : first ≤ r). zeros_blank (record_of file r) (zeros r le lt) in
      grind (arith, cases_lt r first, first_blank_tells.before)) in
      grind (arith, nat_tests, counted zeros)

  pub blanks_bad : (k : ℕ) → first_blank file ≤ k → k < record_count file → nonzero_at k ≡ true → blanks_wrong file ≡ true
  blanks_bad k behind lt nonzero =
      let ahead = some_found k blank_at first in
      grind (arith, some_found n kept k lt, some_found n late k lt, first_blank_tells.passes, cases_order first k)

  pub blanks_many : first_blank file + 8 < record_count file → blanks_wrong file ≡ true
  blanks_many many =
      ⊎_elim
      (λ some. let found = some_at n behind_nonzero some in blanks_bad found.0 (grind (arith, nat_tests, found.2)) found.1 (grind (arith, found.2)))
      (λ none. let all = counted (λ k le lt. grind (arith, nat_tests, none_at n behind_nonzero none k lt)) in grind (arith, nat_tests))
      (cases_Bool (some_below n behind_nonzero))
    where
      behind_nonzero : ℕ → Bool
      behind_nonzero r = leb first r && nonzero_at r
