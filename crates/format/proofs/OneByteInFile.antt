-- One changed byte in a file is refused by its block's check.
use Rattle.std.proofs.Common.{◌≡◌, ℕ, ◌-◌, ◌*◌, ◌/◌, ◌%◌, ◌<◌, true, false, [], ◌∷◌, length, drop, set, Some, None, ap, ◌∙◌, arith, length-set}
use lib.Seq.{drop-set-add, take-set-le, take-set-lt}
use Rattle.std.proofs.lemmas.Bool.{cond-true, cond-false}
use Rattle.std.proofs.lemmas.Bool.Decides.{nat_tests}
use Rattle.format.specs.Layout.{Bytes, byte, block_count, block_of, record_count}
use Rattle.format.specs.Refusals.{first_failing, block_check, call_check}
use Rattle.numbers.specs.Below.{each_below}
use Rattle.format.specs.Checks.{wrong_length, wrong_check, wrong_header, first_blank, blanks_wrong, block_checks_at, block_layer, record_layer, record_checks_at}
use Rattle.format.specs.Names.{no_such_record}
use Rattle.format.specs.Changed.{OneChangedByteIsRefused}
use Rattle.format.proofs.Cuts.{length_part, byte_part}
use Rattle.format.proofs.First.{stops, none_parts, each_at, each_all, each_stops}
use Rattle.format.proofs.OneByte.{one_changed_byte}

module _ (file : Bytes) (i value : ℕ) where
  abbrev changed : Bytes
  changed = set file i value

  same_count : block_count changed ≡ block_count file
  same_count = ap (λ n. n / 512) (length-set file i value)

  block_before : (b : ℕ) → b < i / 512 → block_of changed b ≡ block_of file b
  block_before b lt =
      grind (arith, drop-set-add (512 * b) file (i - 512 * b) value, take-set-le 512 (drop (512 * b) file) (i - 512 * b) value)

  block_there : block_of changed (i / 512) ≡ set (block_of file (i / 512)) (i % 512) value
  block_there =
      grind (arith, drop-set-add (512 * (i / 512)) file (i % 512) value, take-set-lt 512 (drop (512 * (i / 512)) file) (i % 512) value)

  checks_before : (b : ℕ) → b < i / 512 → block_checks_at changed b ≡ block_checks_at file b
  checks_before b lt = λ j. block_check 2 b (wrong_check (block_before b lt j)) ∷ block_check 3 b (wrong_header b (same_count j) (block_before b lt j)) ∷ []

  module _ (right : first_failing (block_layer file) ≡ None) (inside : i < length file) (moved : value ≡ byte file i → ⊥) where
    passed : (wrong_length (length file) ≡ false) × (first_failing (each_below (block_count file) (block_checks_at file)) ≡ None)
    passed = let parts = none_parts (each_below (block_count file) (block_checks_at file)) (block_check 4 (first_blank file) (blanks_wrong file) ∷ []) in (grind arith, grind arith)

    blocks_right : (b : ℕ) → b < block_count file → first_failing (block_checks_at file b) ≡ None
    blocks_right b lt = each_at (block_count file) (block_checks_at file) b lt passed.1

    -- the length is a multiple of 512, so the changed byte lies in a whole block
    whole : length file % 512 ≡ 0
    whole = grind (arith, nat_tests, passed.0)

    in_block : i / 512 < block_count file
    in_block = omega (arith, whole)

    broken : wrong_check (block_of changed (i / 512)) ≡ true
    broken =
        let b = i / 512 in
        let byte_there = byte_part file (512 * b) 512 (i % 512) in
        ap wrong_check block_there
        ∙ one_changed_byte (block_of file b) (i % 512) value (length_part file (512 * b) 512 (omega (arith, in_block))) (grind (arith, blocks_right b in_block)) (omega arith) (λ e. grind arith)

    there_fails : first_failing (block_checks_at changed (i / 512)) ≡ Some (record { number = 2; layer = 1; place = i / 512 })
    there_fails = cond-true (wrong_check (block_of changed (i / 512))) _ _ broken

    before_pass : first_failing (each_below (i / 512) (block_checks_at changed)) ≡ None
    before_pass = each_all (i / 512) (block_checks_at changed) (λ b lt. ap first_failing (checks_before b lt) ∙ blocks_right b (omega (arith, in_block)))

    blocks_stop : first_failing (block_layer changed) ≡ Some (record { number = 2; layer = 1; place = i / 512 })
    blocks_stop =
        cond-false (wrong_length (length changed)) _ _ (rw (length-set file i value) passed.0)
        ∙ stops (each_below (block_count changed) (block_checks_at changed)) (block_check 4 (first_blank changed) (blanks_wrong changed) ∷ []) _
        (each_stops (block_count changed) (block_checks_at changed) (i / 512) _ (rw same_count (in_block)) before_pass there_fails)

pub changed_byte_refused : (file : Bytes) (number : ℕ) → OneChangedByteIsRefused file number
changed_byte_refused file number right i value inside moved =
    let new = set file i value in
    stops (record_layer new) (call_check 22 (no_such_record new number) ∷ []) _
    (stops (block_layer new) (each_below (record_count new) (record_checks_at new)) _ (blocks_stop file i value right inside moved))
