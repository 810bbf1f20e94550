-- Reducing a diagram: by merges, and by shortcuts into steps with one outcome.
use Rattle.std.specs.Prelude.{◌≡◌, ℕ, zero, suc, ◌+◌, ◌-◌, ◌*◌, ◌<◌, ◌≤◌, Bool, true, not, ◌&&◌, List, length, Some, None, Decides, Option, ◌==◌}
use Rattle.numbers.specs.Below.{count_below, some_below}
use Rattle.analysis.specs.Algebra.{Algebra}
use Rattle.diagram.specs.Diagrams.{Diagram, Inner, Lawful}
use Rattle.diagram.specs.Moves.{Move, after, label_after, may_reduce, Moved, least_move, NothingLeft}
use Rattle.diagram.specs.Meaning.{LabelsBelong}
use Rattle.diagram.specs.RunLabels.{Join}
use Rattle.diagram.specs.Runs.{Sound}
use Rattle.diagram.specs.Walks.{inner}

-- how many rows are in use
abbrev pub rows : Diagram → ℕ
rows D = count_below D.size D.used

-- how many steps stand
abbrev pub steps : Diagram → ℕ
steps D = count_below (D.end + 1) D.stands

-- the rows, times the steps less one
abbrev pub most_moves : Diagram → ℕ
most_moves D = rows D * (steps D - 1)

-- A lawful diagram is reduced by no more moves than it has rows, times its steps less one.
abbrev pub ReductionsAreBounded : {V : Type 0} → Algebra V → Type 0
ReductionsAreBounded {V} a =
    (rank : ℕ → ℕ) (D : Diagram) (label : ℕ → V) (moves : List Move) (D' : Diagram) (label' : ℕ → V) → Lawful rank D → Moved a may_reduce D label moves D' label' → length moves ≤ most_moves D

-- one row from the start to the end is all that stands
pub record OneRowLeft (D : Diagram) : Type 0 where
  pub row : ℕ
  pub in_use : D.used row ≡ true
  pub from_start : D.step row ≡ 0
  pub to_end : (p : ℕ) → p < D.parties → D.to row p ≡ D.end
  pub no_other_row : (t : ℕ) → D.used t ≡ true → t ≡ row
  pub no_other_step : (n : ℕ) → Inner D n → n ≡ 0

-- whether row r goes from the start to the end and is all that stands
abbrev pub is_only_row : Diagram → ℕ → Bool
is_only_row D r =
    ((D.used r && D.step r == 0) && not (some_below D.parties (λ p. not (D.to r p == D.end))))
    && (not (some_below D.size (λ t. D.used t && not (t == r))) && not (some_below (D.end + 1) (λ n. inner D n && not (n == 0))))

-- whether some row does
abbrev pub is_one_row : Diagram → Bool
is_one_row D = some_below D.size (is_only_row D)

-- Where nothing is left to take, a lawful diagram is sound exactly when one row from the start to the end is all that stands.
abbrev pub TheVerdictIsRight : Type 0
TheVerdictIsRight = (rank : ℕ → ℕ) (D : Diagram) → Lawful rank D → NothingLeft D → (Sound D → OneRowLeft D) × (OneRowLeft D → Sound D)

-- a diagram with labels, after a move or as it is where there is none
abbrev pub moved_by : {V : Type 0} → Algebra V → Diagram × (ℕ → V) → Option Move → Diagram × (ℕ → V)
moved_by a S (Some m) = (after S.0 m, label_after a S.0 S.1 m)
moved_by a S None = S

-- and after the least move, n times
unfoldable pub reduced : {V : Type 0} → Algebra V → ℕ → Diagram × (ℕ → V) → Diagram × (ℕ → V)
reduced a zero S = S
reduced a (suc n) S = reduced a n (moved_by a S (least_move S.0))

-- What repeating the least move comes to, for a diagram with labels and what is left of both.
pub record ReducedRightly {V : Type 0} (a : Algebra V) (D : Diagram) (label : ℕ → V) (left : Diagram × (ℕ → V)) : Type 0 where
  -- it has ended
  pub ended : NothingLeft left.0
  -- whether one row is left tells whether the diagram is sound
  pub decides : Decides (is_one_row left.0) (Sound D)
  -- and the row's label is the join over all complete runs of the diagram
  pub label_joins : (one : OneRowLeft left.0) → Join a label D (left.1 one.row)

-- Repeating the least move as often as the bound says decides soundness, and tells the join.
abbrev pub ReductionDecides : {V : Type 0} → Algebra V → Type 0
ReductionDecides {V} a =
    (rank : ℕ → ℕ) (D : Diagram) (label : ℕ → V) → Lawful rank D → LabelsBelong a D label → ReducedRightly a D label (reduced a (most_moves D) (D, label))
