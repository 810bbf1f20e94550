-- Three diagrams worked by hand, and rules that are wrong told apart from those that are right.
use Rattle.std.specs.Prelude.{◌≡◌, ℕ, zero, suc, Bool, true, false, not, ◌&&◌, List, [], ◌∷◌, length, Some, None, Option, ◌==◌, slice_index_or}
use Rattle.analysis.specs.CostAlgebra.{capped, cost_algebra}
use Rattle.analysis.specs.DefinitionsAlgebra.{sited, definitions_algebra}
use Rattle.analysis.specs.declared.cost.Cost.{Cost}
use Rattle.analysis.specs.declared.definitions.Definitions.{Definitions}
use Rattle.diagram.specs.Diagrams.{Diagram, Lawful}
use Rattle.diagram.specs.Drawn.{drawn}
use Rattle.diagram.specs.Moves.{Move, merge, shortcut, same_goals, may_merge, is_target, may_shortcut, after, label_after, least_move, with_follow_ups, struck}
use Rattle.diagram.specs.RunLabels.{run_label, joined_from}
use Rattle.diagram.specs.Runs.{first, Sound}
use Rattle.diagram.specs.Walks.{at_end, reaches, longest, complete_runs, is_sound}
use Rattle.diagram.specs.declared.rows.Row.{Row}

-- a step's own number is its rank
abbrev pub number : ℕ → ℕ
number n = n

-- a row of a step, with the destinations of parties 0, 1 and 2
abbrev pub row : ℕ → ℕ → ℕ → ℕ → Option Row
row n x y z = Some (record { step = n; to = x ∷ y ∷ z ∷ 255 ∷ 255 ∷ 255 ∷ 255 ∷ 255 ∷ [] })

-- A: the start sends parties 0 and 1 to step 1 and party 2 to step 2, or all to the end; step 1 has two outcomes
abbrev pub masks_a : List ℕ
masks_a = 7 ∷ 3 ∷ 4 ∷ 7 ∷ []

-- its rows
abbrev pub rows_a : List (Option Row)
rows_a = row 0 1 1 2 ∷ row 0 3 3 3 ∷ row 1 3 3 255 ∷ row 1 3 3 255 ∷ row 2 255 255 3 ∷ []

-- the diagram that they give
abbrev pub diagram_a : Diagram
diagram_a = drawn masks_a rows_a

-- its rows cost 5, 2, 10, 20 and 1
abbrev pub cost_a : ℕ → Cost
cost_a r = let c : ℕ = slice_index_or (5 ∷ 2 ∷ 10 ∷ 20 ∷ 1 ∷ []) r 0 in capped c c

-- B: two parties go to different steps, each of which wants both
abbrev pub masks_b : List ℕ
masks_b = 3 ∷ 3 ∷ 3 ∷ 3 ∷ []

-- its rows
abbrev pub rows_b : List (Option Row)
rows_b = row 0 1 2 255 ∷ row 1 2 2 255 ∷ row 2 3 3 255 ∷ []

-- the diagram that they give
abbrev pub diagram_b : Diagram
diagram_b = drawn masks_b rows_b

-- C: step 1 is never enabled
abbrev pub masks_c : List ℕ
masks_c = 1 ∷ 1 ∷ 1 ∷ []

-- its rows
abbrev pub rows_c : List (Option Row)
rows_c = row 0 2 255 255 ∷ row 1 2 255 255 ∷ []

-- the diagram that they give
abbrev pub diagram_c : Diagram
diagram_c = drawn masks_c rows_c

-- the join over the complete runs, told
abbrev pub told_join : (ℕ → Cost) → List (List ℕ) → Option (ℕ × ℕ)
told_join label [] = None
told_join label (rs ∷ runs) = Some (cost_algebra.tell (joined_from cost_algebra label (run_label cost_algebra label rs) runs))

-- the least moves, taken one after the other, at most so many
unfoldable pub least_moves : ℕ → Diagram → List Move
least_moves zero D = []
least_moves (suc n) D = elim (least_move D) [ Some move ↦ move ∷ least_moves n (after D move) | None ↦ [] ]

-- D: two rows of the start lead its one party to step 1
abbrev pub diagram_d : Diagram
diagram_d = drawn (1 ∷ 1 ∷ 1 ∷ []) (row 0 1 255 255 ∷ row 0 1 255 255 ∷ row 1 2 255 255 ∷ [])

-- E: one way from start to end; the first row defines site 0, and the second drops what was defined there
abbrev pub diagram_e : Diagram
diagram_e = drawn (1 ∷ 1 ∷ 1 ∷ []) (row 0 1 255 255 ∷ row 1 2 255 255 ∷ [])

-- its labels: both rows drop what was defined at site 0, and row 0 defines it anew
abbrev pub definitions_e : ℕ → Definitions
definitions_e r = sited (λ b. not (b == 0)) (λ b. (b == 0) && r == 0)

-- a wrong rule of soundness, which lets dead steps pass
abbrev pub never_stalls : (ℕ → ℕ) → Diagram → Bool
never_stalls rank D = not (reaches D (λ M. not (reaches D (at_end D) (longest rank D) M)) (longest rank D) first)

-- The table.
pub record WorkedTable : Type 0 where
  -- A, B and C are lawful
  pub a_lawful : Lawful number diagram_a
  pub b_lawful : Lawful number diagram_b
  pub c_lawful : Lawful number diagram_c
  -- A is sound, has five complete runs, and its cost is 2 to 26
  pub a_sound : Sound diagram_a
  pub a_runs : length (complete_runs number diagram_a) ≡ 5
  pub a_cost : told_join cost_a (complete_runs number diagram_a) ≡ Some (2, 26)
  -- its least moves
  pub a_moves : least_moves 9 diagram_a ≡ merge 2 3 ∷ shortcut 0 1 ∷ shortcut 0 2 ∷ merge 0 1 ∷ []
  -- merge 0 1 may not be taken: the rows are of one step, and differ in a destination
  pub a_no_merge : may_merge diagram_a 0 1 ≡ false
  pub a_differ : same_goals diagram_a 0 1 ≡ false
  -- shortcut 0 3 may not be taken: 3 is the end
  pub a_no_shortcut : may_shortcut diagram_a 0 3 ≡ false
  pub a_no_target : is_target diagram_a 3 ≡ false
  -- shortcut 0 2 may
  pub a_shortcut : may_shortcut diagram_a 0 2 ≡ true
  -- B is unsound, before and after its one move
  pub b_unsound : Sound diagram_b → ⊥
  pub b_moves : least_moves 9 diagram_b ≡ shortcut 1 2 ∷ []
  pub b_still : is_sound number (after diagram_b (shortcut 1 2)) ≡ false
  -- C is unsound and has no move
  pub c_unsound : Sound diagram_c → ⊥
  pub c_moves : least_moves 9 diagram_c ≡ []
  -- a step never enabled must not pass: C never stalls
  pub c_never_stalls : never_stalls number diagram_c ≡ true
  -- a target must not be struck while another row leads there: D stays sound by the rule, and not if step 1 is struck
  pub d_sound : is_sound number diagram_d ≡ true
  pub d_kept : is_sound number (after diagram_d (shortcut 0 1)) ≡ true
  pub d_struck_too_early : is_sound number (struck (with_follow_ups diagram_d 0 1) 1) ≡ false
  -- a follow-up's label must put the target's outcome last: E's run leaves no definition of site 0, and the other order would
  pub e_run : definitions_algebra.tell (run_label definitions_algebra definitions_e (0 ∷ 1 ∷ [])) ≡ (0xfffffffffffffffe, 0)
  pub e_kept : definitions_algebra.tell (label_after definitions_algebra diagram_e definitions_e (shortcut 0 1) 0) ≡ (0xfffffffffffffffe, 0)
  pub e_wrong_way_round : definitions_algebra.tell (definitions_algebra.then (definitions_e 1) (definitions_e 0)) ≡ (0xfffffffffffffffe, 1)
