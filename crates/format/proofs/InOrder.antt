-- How the records of a file that passes both layers lie: the steps first, then the outcomes.
use Rattle.std.proofs.Common.{◌≡◌, ℕ, zero, suc, ◌+◌, ◌<◌, ◌≤◌, Bool, true, false, not, cond, ◌&&◌, ◌⊎◌, [], ◌∷◌, None, sym, ap, ◌∙◌, inl, inr, ⊎_elim, add-one, arith}
use Rattle.std.proofs.lemmas.Bool.{cases_lt, cases_order, cases_Bool, cond-false}
use Rattle.std.proofs.lemmas.Bool.Decides.{nat_tests}
use Rattle.numbers.specs.Below.{sum_below, some_below, each_below}
use Rattle.format.specs.Checks.{first_blank, blanks_wrong, record_checks, block_checks_at, block_layer, record_checks_at, record_layer, ahead_of, contents_of}
use Rattle.format.specs.Layout.{Bytes, block_count, record_count, record_of, kind_of, is_blank, is_step, is_outcome, step_of, mask_of, steps_ahead, outcomes_ahead}
use Rattle.format.specs.Refusals.{block_check, first_failing}
use Rattle.format.specs.declared.records.Ahead.{Ahead}
use Rattle.numbers.proofs.BelowLaws.{sum_more, none_at}
use Rattle.format.proofs.First.{none_parts, each_at}
use Rattle.format.proofs.RecordLayer.{named, last_two}

pub record InOrder (file : Bytes) : Type 0 where
  pub few_steps : (contents_of file).steps ≤ 32
  pub few_outcomes : (contents_of file).outcomes ≤ 128
  pub within : (contents_of file).steps + (contents_of file).outcomes ≤ record_count file
  pub step_there : (n : ℕ) → n < (contents_of file).steps → (is_step (record_of file n) ≡ true) × (mask_of (record_of file n) ≡ 0 → ⊥)
  pub outcome_there : (r : ℕ) → r < (contents_of file).outcomes
      → (is_outcome (record_of file ((contents_of file).steps + r)) ≡ true) × (step_of (record_of file ((contents_of file).steps + r)) + 1 < (contents_of file).steps)

-- what the checks tell of a step record that passes behind s steps and o outcomes
abbrev RightStep : ℕ → ℕ → Bytes → Type 0
RightStep s o rec = (kind_of rec ≡ 1) × (o ≡ 0) × (s ≤ 31) × (mask_of rec ≡ 0 → ⊥)

-- and of an outcome record
abbrev RightOutcome : ℕ → ℕ → Bytes → Type 0
RightOutcome s o rec = (kind_of rec ≡ 2) × (o < 128) × (step_of rec + 1 < s)

-- a record that passes, and is not blank, is a right step or a right outcome
passes_tell : (ahead : Ahead) (rec : Bytes) → is_blank rec ≡ false → first_failing (record_checks ahead rec) ≡ None → RightStep ahead.steps ahead.outcomes rec ⊎ RightOutcome ahead.steps ahead.outcomes rec
passes_tell ahead rec some none =
    let checks = sym (ap first_failing (cond-false (is_blank rec) [] _ some)) ∙ none in
    let parts = none_parts (named ahead rec) (last_two ahead rec) in
    ⊎_elim
    (λ step. inl (grind (arith, nat_tests), grind (arith, nat_tests), grind (arith, nat_tests), grind (arith, nat_tests)))
    (λ other. inr (grind (arith, nat_tests), grind (arith, nat_tests), grind (arith, nat_tests)))
    (cases_Bool (is_step rec))

abbrev blank_at : Bytes → ℕ → Bool
blank_at file r = is_blank (record_of file r)

-- record n is a step that has parties
abbrev step_at : Bytes → ℕ → Type 0
step_at file n = (is_step (record_of file n) ≡ true) × (mask_of (record_of file n) ≡ 0 → ⊥)

-- behind s steps, outcome r is there and belongs to a step before the last one
abbrev outcome_at : Bytes → ℕ → ℕ → Type 0
outcome_at file s r = (is_outcome (record_of file (s + r)) ≡ true) × (step_of (record_of file (s + r)) + 1 < s)

-- how the first k records lie: s steps, then o outcomes, then blanks alone
record Laid (file : Bytes) (k s o : ℕ) : Type 0 where
  few_steps : s ≤ 32
  few_outcomes : o ≤ 128
  within : s + o ≤ k
  step_there : (n : ℕ) → n < s → step_at file n
  outcome_there : (r : ℕ) → r < o → outcome_at file s r
  blank_there : (j : ℕ) → j < k → s + o ≤ j → blank_at file j ≡ true

laid_none : (file : Bytes) → Laid file 0 (steps_ahead file 0) (outcomes_ahead file 0)
unfolding sum_below
laid_none file =
    record {
      few_steps = omega arith;
      few_outcomes = omega arith;
      within = omega arith;
      step_there = λ n lt. absurd (omega arith);
      outcome_there = λ r lt. absurd (omega arith);
      blank_there = λ j lt behind. absurd (omega arith);
    }

-- what record k may be, behind s steps and o outcomes
abbrev Next : Bytes → ℕ → ℕ → ℕ → Type 0
Next file k s o = (blank_at file k ≡ true) ⊎ (s + o ≡ k) × (RightStep s o (record_of file k) ⊎ RightOutcome s o (record_of file k))

laid_more : (file : Bytes) (k s o t p : ℕ) → Laid file k s o → Next file k s o → t ≡ s + cond (is_step (record_of file k)) 1 0 → p ≡ o + cond (is_outcome (record_of file k)) 1 0 → Laid file (k + 1) t p
laid_more file k s o t p laid next steps outcomes =
    record {
      few_steps = grind (arith, nat_tests, laid.few_steps);
      few_outcomes = grind (arith, nat_tests, laid.few_outcomes);
      within = grind (arith, nat_tests, laid.within);
      step_there = λ n lt. (grind (arith, nat_tests, laid.step_there n, cases_order n k), grind (arith, nat_tests, laid.step_there n, cases_order n k));
      outcome_there = λ r lt. (grind (arith, nat_tests, laid.outcome_there r, cases_order r o), grind (arith, nat_tests, laid.outcome_there r, cases_order r o));
      blank_there = λ j lt behind. grind (arith, nat_tests, laid.blank_there j, cases_order j k);
    }

module _ (file : Bytes) (none : first_failing (record_layer file) ≡ None) where
  both_layers : (first_failing (block_layer file) ≡ None) × (first_failing (each_below (record_count file) (record_checks_at file)) ≡ None)
  both_layers = none_parts (block_layer file) (each_below (record_count file) (record_checks_at file)) none

  blanks_right : blanks_wrong file ≡ false
  blanks_right =
      let parts = none_parts (each_below (block_count file) (block_checks_at file)) (block_check 4 (first_blank file) (blanks_wrong file) ∷ []) in
      grind (arith, both_layers.0)

  -- no blank lies before a record that is not blank
  none_blank_before : (k : ℕ) → k < record_count file → blank_at file k ≡ false → (j : ℕ) → j < k → blank_at file j ≡ false
  none_blank_before k lt some =
      let late = none_at (record_count file) (λ r. not (blank_at file r) && some_below r (blank_at file)) in
      none_at k (blank_at file) (grind (arith, blanks_right, late))

  -- each record that passes keeps the order
  laid_next : (k : ℕ) → k < record_count file → Laid file k (steps_ahead file k) (outcomes_ahead file k) → Laid file (k + 1) (steps_ahead file (k + 1)) (outcomes_ahead file (k + 1))
  laid_next k lt laid =
      laid_more file k _ _ _ _ laid
      (⊎_elim
      inl
      (λ some.
      let at = steps_ahead file k + outcomes_ahead file k in (
      inr (grind (arith, none_blank_before k lt some at, laid.blank_there at, laid.within, cases_lt at k), passes_tell (ahead_of file k) (record_of file k) some (each_at (record_count file) (record_checks_at file) k lt both_layers.1))
      ))
      (cases_Bool (blank_at file k)))
      (sum_more k _)
      (sum_more k _)

  laid_below : (k : ℕ) → k ≤ record_count file → Laid file k (steps_ahead file k) (outcomes_ahead file k)
  laid_below zero le = laid_none file
  laid_below (suc k) le = rw (← add-one k) (laid_next k le (laid_below k (omega arith)))

-- a file that passes both layers has its records in order
pub in_order : (file : Bytes) → first_failing (record_layer file) ≡ None → InOrder file
in_order file none =
    let laid = laid_below file none (record_count file) (omega arith) in
    record { few_steps = laid.few_steps; few_outcomes = laid.few_outcomes; within = laid.within; step_there = laid.step_there; outcome_there = laid.outcome_there }
