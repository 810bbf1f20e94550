-- Layer 3: each refusal's sentence over the diagram in a file's bytes, and the checks in the order in which they run.
-- The checks as code are yet to come, and no contract names their list.
use Rattle.std.specs.Prelude.{ℕ, ◌+◌, ◌-◌, ◌^◌, Bool, cond, not, ◌&&◌, ◌||◌, List, [], ◌∷◌, ◌++◌, is_some, None, Option, ◌==◌, nat_eq, nat_lt, slice_index, slice_index_or}
use Rattle.numbers.specs.Below.{some_below, each_below}
use Rattle.numbers.specs.Bits.{bit}
use Rattle.analysis.specs.Algebra.{Algebra}
use Rattle.analysis.specs.Parties.{Set}
use Rattle.diagram.specs.Drawn.{goal_of, step_of}
use Rattle.diagram.specs.Moves.{outcome_of}
use Rattle.diagram.specs.declared.rows.Row.{Row}
use Rattle.format.specs.Checks.{contents_of, record_layer}
use Rattle.format.specs.Layout.{Bytes}
use Rattle.format.specs.Refusals.{Check}
use Rattle.format.specs.declared.records.Contents.{Contents}
use Rattle.sheet.specs.FileDiagram.{steps_in, outcomes_in, outcome_at, label_bytes, parties_at, file_standing}
use Rattle.sheet.specs.Standing.{Standing, diagram_in}

-- a check of the diagram layer
abbrev pub diagram_check : ℕ → ℕ → Bool → Check
diagram_check n p fails = record { answers = record { number = n; layer = 3; place = p }; fails = fails }

-- some party is in the first set and not in the second
abbrev pub lacks_one : Set → Set → Bool
lacks_one P Q = some_below 8 (λ p. P p && not (Q p))

-- the mask is 2^k − 1 for some k, so that its parties are those below k
abbrev pub first_parties : ℕ → Bool
first_parties mask = some_below 9 (λ k. nat_eq (mask + 1) (2 ^ k))

-- 10 of step n: it is the start and its mask is not 2^k − 1, or it has a party the start lacks, or it is the end and lacks one
abbrev pub wrong_parties : Standing → ℕ → Bool
wrong_parties s n =
    (n == 0 && not (first_parties (slice_index s.masks 0)))
    || (lacks_one ((diagram_in s).part n) ((diagram_in s).part 0) || (n == (diagram_in s).end && lacks_one ((diagram_in s).part 0) ((diagram_in s).part n)))

-- a row sends party p to no step with that party and a greater number, or not to 255 though p is outside the row's step
abbrev pub wrong_goal : List ℕ → Option Row → ℕ → Bool
wrong_goal masks row p =
    cond (bit (slice_index masks (step_of row)) p)
    (not (nat_lt (step_of row) (goal_of row p) && bit (slice_index masks (goal_of row p)) p))
    (not (goal_of row p == 255))

-- 11 of a row in use: it sends some party wrongly
abbrev pub wrong_goals : List ℕ → Option Row → Bool
wrong_goals masks row = is_some row && some_below 8 (wrong_goal masks row)

-- 12 of step n: it has no outcome
abbrev pub no_outcome : Standing → ℕ → Bool
no_outcome s n = not (some_below (diagram_in s).size (outcome_of (diagram_in s) n))

-- 13 of an outcome: its label bytes do not suit the set
abbrev pub wrong_label : {V : Type 0} → Algebra V → Bytes → Set → Bool
wrong_label a bytes P = not (a.suits bytes P)

-- the checks by 10: first that there are two steps, then each step's
abbrev pub parties_checks : Contents → Standing → List Check
parties_checks c s = diagram_check 10 0 (nat_lt c.steps 2) ∷ each_below c.steps (λ n. diagram_check 10 n (wrong_parties s n) ∷ [])

-- the checks by 11, at each outcome's record
abbrev pub goal_checks : Contents → Standing → List Check
goal_checks c s = each_below c.outcomes (λ r. diagram_check 11 (c.steps + r) (wrong_goals s.masks (slice_index_or s.rows r None)) ∷ [])

-- the checks by 12, at each step but the end
abbrev pub outcome_checks : Contents → Standing → List Check
outcome_checks c s = each_below (c.steps - 1) (λ n. diagram_check 12 n (no_outcome s n) ∷ [])

-- 10 to 12
abbrev pub shape_checks : Contents → Standing → List Check
shape_checks c s = parties_checks c s ++ (goal_checks c s ++ outcome_checks c s)

-- the checks by 13, at each outcome's record
abbrev pub label_checks : {V : Type 0} → Algebra V → Bytes → List Check
label_checks a file =
    each_below (outcomes_in file) (λ r. diagram_check 13 (steps_in file + r) (wrong_label a (label_bytes (outcome_at file r)) (parties_at file r)) ∷ [])

-- layers 1 to 3
abbrev pub diagram_layer : {V : Type 0} → Algebra V → Bytes → List Check
diagram_layer a file = record_layer file ++ (shape_checks (contents_of file) (file_standing file) ++ label_checks a file)
