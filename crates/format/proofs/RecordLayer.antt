-- The record layer: a record's parts, and its checks one after the other.
use Rattle.std.proofs.Common.{◌≡◌, ℕ, ◌+◌, ◌≤◌, true, false, ◌&&◌, List, [], ◌∷◌, ◌++◌, take, drop, None, sym, ap, ◌∙◌, add-one, arith}
use Rattle.std.proofs.lemmas.List.{get_or-drop, get_or-take, drop-drop, drop-take}
use Rattle.std.proofs.lemmas.Grind.{common_steps}
use Rattle.std.proofs.lemmas.Bool.{cond-false}
use Rattle.std.proofs.lemmas.Bool.Decides.{nat_tests}
use Rattle.numbers.specs.Below.{sum_below}
use Rattle.format.specs.Layout.{Bytes, byte, record_of, kind_of, is_blank, is_step, is_outcome, step_of, mask_of, unused_of, name_length, name_field}
use Rattle.format.specs.Refusals.{Check, first_failing, record_check}
use Rattle.format.specs.Checks.{wrong_kind, wrong_step, wrong_outcome, name_field_checks, record_checks, ahead_of, ahead_behind}
use Rattle.format.specs.declared.records.Ahead.{Ahead}
use Rattle.format.proofs.First.{past, none_parts}

-- a record's name field, cut behind the kind, the step and forty bytes
module _ (rec name : Bytes) (cut : name ≡ drop 40 (drop 2 rec)) where
  pub cut_length : byte name 0 ≡ name_length rec
  cut_length = grind (arith, drop-drop 40 2 rec, get_or-drop 42 rec 0 0)

  pub cut_text : drop 1 name ≡ name_field rec
  cut_text = grind (arith, drop-drop 40 2 rec, drop-drop 1 42 rec)

-- the forty bytes ahead of it
module _ (rec fields : Bytes) (cut : fields ≡ take 40 (drop 2 rec)) where
  pub cut_mask : byte fields 0 ≡ mask_of rec
  cut_mask = grind (arith, get_or-take 40 (drop 2 rec) 0 0, get_or-drop 2 rec 0 0)

  pub cut_unused : drop 1 fields ≡ unused_of rec
  cut_unused = grind (arith, drop-take 1 39 (drop 2 rec), drop-drop 1 2 rec)

module _ (ahead : Ahead) (rec : Bytes) where
  abbrev pub named : List Check
  named = name_field_checks ahead.records (name_length rec) (name_field rec)

  abbrev pub last_two : List Check
  last_two = record_check 8 ahead.records (is_step rec && wrong_step ahead (step_of rec) (mask_of rec) (unused_of rec)) ∷ record_check 9 ahead.records (is_outcome rec && wrong_outcome ahead (step_of rec)) ∷ []

  -- the checks of the name that was cut out are those of the record's name
  pub cut_names : (name text : Bytes) → name ≡ drop 40 (drop 2 rec) → text ≡ drop 1 name → first_failing (name_field_checks ahead.records (byte name 0) text) ≡ first_failing named
  cut_names name text cut rest = rw (cut_length rec name cut, rest, cut_text rec name cut)

  -- a record of a right kind is checked from its name on
  pub past_kind : is_blank rec ≡ false → wrong_kind ahead (kind_of rec) ≡ false → first_failing (record_checks ahead rec) ≡ first_failing (named ++ last_two)
  past_kind some right = ap first_failing (cond-false (is_blank rec) [] _ some) ∙ cond-false (wrong_kind ahead (kind_of rec)) _ _ right

  pub past_name : is_blank rec ≡ false → wrong_kind ahead (kind_of rec) ≡ false → first_failing named ≡ None → first_failing (record_checks ahead rec) ≡ first_failing last_two
  past_name some right name = past_kind some right ∙ past named last_two name

  -- of the last two checks a step has the first, and an outcome the second
  pub step_last : is_step rec ≡ true → is_outcome rec ≡ false → first_failing last_two ≡ first_failing (record_check 8 ahead.records (wrong_step ahead (step_of rec) (mask_of rec) (unused_of rec)) ∷ [])
  step_last step other = grind (arith, nat_tests)

  pub outcome_last : is_step rec ≡ false → is_outcome rec ≡ true → first_failing last_two ≡ first_failing (record_check 9 ahead.records (wrong_outcome ahead (step_of rec)) ∷ [])
  outcome_last other outcome = grind (arith, nat_tests)

  -- a step behind no outcome has its name and its own fields to check
  module _ (step : kind_of rec ≡ 1) (first : ahead.outcomes ≡ 0) where
    pub step_name : first_failing (record_checks ahead rec) ≡ first_failing (named ++ last_two)
    step_name = past_kind (grind (arith, common_steps)) (grind (arith, common_steps))

    pub step_left : first_failing named ≡ None → first_failing (record_checks ahead rec) ≡ first_failing (record_check 8 ahead.records (wrong_step ahead (step_of rec) (mask_of rec) (unused_of rec)) ∷ [])
    step_left name =
        step_name ∙ past named last_two name ∙ step_last (grind (arith, common_steps)) (grind (arith, common_steps))

  -- and so has an outcome
  module _ (outcome : kind_of rec ≡ 2) where
    pub outcome_name : first_failing (record_checks ahead rec) ≡ first_failing (named ++ last_two)
    outcome_name = past_kind (grind (arith, common_steps)) (grind (arith, common_steps))

    pub outcome_left : first_failing named ≡ None → first_failing (record_checks ahead rec) ≡ first_failing (record_check 9 ahead.records (wrong_outcome ahead (step_of rec)) ∷ [])
    outcome_left name =
        outcome_name ∙ past named last_two name ∙ outcome_last (grind (arith, common_steps)) (grind (arith, common_steps))

  -- a record that passes, and is not blank, has a name that is not too long
  pub name_fits : is_blank rec ≡ false → first_failing (record_checks ahead rec) ≡ None → name_length rec ≤ 13
  name_fits some none =
      let checks = sym (ap first_failing (cond-false (is_blank rec) [] _ some)) ∙ none in
      let parts = none_parts named last_two in
      grind (arith, nat_tests)

-- what lies ahead, one record further
pub ahead_more : (file : Bytes) (r : ℕ) → ahead_behind (ahead_of file r) (record_of file r) ≡ ahead_of file (r + 1)
unfolding sum_below
ahead_more file r =
    rw add-one
