-- Each refusal's sentence over a file's bytes, and the one list of checks in the order in which they run.
use Rattle.std.specs.Prelude.{ℕ, ◌+◌, ◌%◌, Bool, cond, not, ◌&&◌, ◌||◌, List, [], ◌∷◌, ◌++◌, length, ◌==◌, nat_le, nat_lt}
use Rattle.numbers.specs.Below.{count_below, some_below, first_below, each_below}
use Rattle.format.specs.Layout.{Bytes, byte, number16, number32, block_count, block_of, check_sum, record_count, record_of, is_blank, is_step, is_outcome, kind_of, step_of, mask_of, unused_of, name_length, name_field, steps_ahead, outcomes_ahead, floor_at}
use Rattle.format.specs.Refusals.{Check, block_check, record_check}
use Rattle.format.specs.declared.records.Ahead.{Ahead}
use Rattle.format.specs.declared.records.Contents.{Contents}

-- 1: the length is not a multiple of 512 from 512 to 9,216
abbrev pub wrong_length : ℕ → Bool
wrong_length len = not (len % 512 == 0) || (nat_lt len 512 || nat_lt 9216 len)

-- 2: the block's check is wrong
abbrev pub wrong_check : Bytes → Bool
wrong_check block = not (number32 block 508 == check_sum block)

-- 3: the block's number is not its position, or its block count is not the file's
abbrev pub wrong_header : ℕ → ℕ → Bytes → Bool
wrong_header position count block = not (number16 block 0 == position) || not (number16 block 2 == count)

-- some byte is not 0
abbrev pub some_nonzero : Bytes → Bool
some_nonzero bs = some_below (length bs) (λ i. not (byte bs i == 0))

-- the first record of kind 0
abbrev pub first_blank : Bytes → ℕ
first_blank file = first_below (record_count file) (λ r. is_blank (record_of file r))

-- 4: a blank record is not all zeros, or another kind comes behind it, or there are nine blanks or more
abbrev pub blanks_wrong : Bytes → Bool
blanks_wrong file =
    some_below (record_count file) (λ r. is_blank (record_of file r) && some_nonzero (record_of file r))
    || (some_below (record_count file) (λ r. not (is_blank (record_of file r)) && some_below r (λ k. is_blank (record_of file k)))
    || nat_le 9 (count_below (record_count file) (λ r. is_blank (record_of file r))))

-- 5: the kind is over 2, or a step record follows an outcome record
abbrev pub wrong_kind : Ahead → ℕ → Bool
wrong_kind ahead kind = nat_lt 2 kind || (kind == 1 && nat_lt 0 ahead.outcomes)

-- 6: the name has length 0
abbrev pub no_name : ℕ → Bool
no_name len = len == 0

-- within the length a byte is 33 to 126, behind it 0
abbrev pub wrong_name_byte : ℕ → ℕ → ℕ → Bool
wrong_name_byte len i b = cond (nat_lt i len) (nat_lt b 33 || nat_lt 126 b) (not (b == 0))

-- some byte of the name's field is wrong for a name of that length
abbrev pub wrong_text : ℕ → Bytes → Bool
wrong_text len text = some_below 13 (λ i. wrong_name_byte len i (byte text i))

-- 7: the name is longer than 13, has a byte outside 33 to 126, or is followed by a byte other than 0
abbrev pub wrong_name : ℕ → Bytes → Bool
wrong_name len text = nat_lt 13 len || wrong_text len text

-- 8: the step's number is not its position or exceeds 31, its mask is 0, or a byte that it leaves unused is not 0
abbrev pub wrong_step : Ahead → ℕ → ℕ → Bytes → Bool
wrong_step ahead step mask unused = not (step == ahead.steps) || (nat_lt 31 step || (mask == 0 || some_nonzero unused))

-- 9: the outcome is beyond the 128th, belongs to no step before the last one ahead of it, or to a lower step than the outcome before it
abbrev pub wrong_outcome : Ahead → ℕ → Bool
wrong_outcome ahead step = nat_le 128 ahead.outcomes || (nat_le ahead.steps (step + 1) || nat_lt step ahead.floor)

-- the checks of a block
abbrev pub block_checks : ℕ → ℕ → Bytes → List Check
block_checks position count block = block_check 2 position (wrong_check block) ∷ block_check 3 position (wrong_header position count block) ∷ []

-- the checks of block b
abbrev pub block_checks_at : Bytes → ℕ → List Check
block_checks_at file b = block_checks b (block_count file) (block_of file b)

-- the checks of a record's name
abbrev pub name_field_checks : ℕ → ℕ → Bytes → List Check
name_field_checks place len text = record_check 6 place (no_name len) ∷ record_check 7 place (wrong_name len text) ∷ []

-- the checks of a record; a blank one has none
abbrev pub record_checks : Ahead → Bytes → List Check
record_checks ahead rec =
    cond (is_blank rec) []
    (record_check 5 ahead.records (wrong_kind ahead (kind_of rec))
    ∷ (name_field_checks ahead.records (name_length rec) (name_field rec)
    ++ record_check 8 ahead.records (is_step rec && wrong_step ahead (step_of rec) (mask_of rec) (unused_of rec))
    ∷ record_check 9 ahead.records (is_outcome rec && wrong_outcome ahead (step_of rec))
    ∷ []))

-- what lies ahead of record r in the file
abbrev pub ahead_of : Bytes → ℕ → Ahead
ahead_of file r = record { records = r; steps = steps_ahead file r; outcomes = outcomes_ahead file r; floor = floor_at file r }

-- what lies ahead of the record behind rec
abbrev pub ahead_behind : Ahead → Bytes → Ahead
ahead_behind ahead rec =
    record {
      records = ahead.records + 1;
      steps = ahead.steps + cond (is_step rec) 1 0;
      outcomes = ahead.outcomes + cond (is_outcome rec) 1 0;
      floor = cond (is_outcome rec) (step_of rec) 0;
    }

-- how many steps and outcomes the file records
abbrev pub contents_of : Bytes → Contents
contents_of file = record { steps = steps_ahead file (record_count file); outcomes = outcomes_ahead file (record_count file) }

-- layer 1
abbrev pub block_layer : Bytes → List Check
block_layer file =
    block_check 1 0 (wrong_length (length file))
    ∷ (each_below (block_count file) (block_checks_at file) ++ block_check 4 (first_blank file) (blanks_wrong file) ∷ [])

-- the checks of record r
abbrev pub record_checks_at : Bytes → ℕ → List Check
record_checks_at file r = record_checks (ahead_of file r) (record_of file r)

-- layers 1 and 2
abbrev pub record_layer : Bytes → List Check
record_layer file = block_layer file ++ each_below (record_count file) (record_checks_at file)
