-- What a move has to keep.
use Rattle.std.specs.Prelude.{◌≡◌, ℕ, true, List, ◌∷◌}
use Rattle.analysis.specs.Algebra.{Algebra}
use Rattle.analysis.specs.Parties.{Set}
use Rattle.diagram.specs.Diagrams.{Diagram, Lawful}
use Rattle.diagram.specs.Moves.{may_merge, after_merge, label_after_merge, may_shortcut, after_shortcut, label_after_shortcut, Move, may_move, Moved}
use Rattle.diagram.specs.RunLabels.{run_label, joined_from, ListsComplete}
use Rattle.diagram.specs.Runs.{Complete, Sound}

-- each row's label belongs to its step's parties
abbrev pub LabelsBelong : {V : Type 0} → Algebra V → Diagram → (ℕ → V) → Type 0
LabelsBelong a D label = (r : ℕ) → D.used r ≡ true → a.belongs (label r) (D.part (D.step r)) ≡ true

-- Whatever bytes a label is made from, it belongs to the set that it was made for.
abbrev pub MadeLabelsBelong : {V : Type 0} → Algebra V → Type 0
MadeLabelsBelong a = (bytes : List ℕ) (P : Set) → a.belongs (a.make bytes P) P ≡ true

-- there is a complete run
abbrev pub Completes : Diagram → Type 0
Completes D = (rs : List ℕ) × Complete D rs

-- a diagram with labels means the same as another
pub record MeansTheSame {V : Type 0} (a : Algebra V) (D : Diagram) (label : ℕ → V) (D' : Diagram) (label' : ℕ → V) : Type 0 where
  -- sound exactly when the other is
  pub soundness_kept : Sound D → Sound D'
  pub soundness_back : Sound D' → Sound D
  -- with a complete run exactly when the other has one
  pub completion_kept : Completes D → Completes D'
  pub completion_back : Completes D' → Completes D
  -- and then with the same join over all complete runs
  pub join_kept : (rs ss : List ℕ) (runs others : List (List ℕ)) → ListsComplete D (rs ∷ runs) → ListsComplete D' (ss ∷ others)
      → joined_from a label (run_label a label rs) runs ≡ joined_from a label' (run_label a label' ss) others

-- What a move keeps: the diagram stays lawful, labels belong, and the meaning is the same.
pub record Kept {V : Type 0} (a : Algebra V) (rank : ℕ → ℕ) (D : Diagram) (label : ℕ → V) (D' : Diagram) (label' : ℕ → V) : Type 0 where
  pub still_lawful : Lawful rank D'
  pub still_belong : LabelsBelong a D' label'
  pub same_meaning : MeansTheSame a D label D' label'

-- For every lawful diagram whose labels belong: any two rows that may be merged,
abbrev pub MergingKeepsTheMeaning : {V : Type 0} → Algebra V → Type 0
MergingKeepsTheMeaning {V} a =
    (rank : ℕ → ℕ) (D : Diagram) (label : ℕ → V) (i j : ℕ) → Lawful rank D → LabelsBelong a D label → may_merge D i j ≡ true → Kept a rank D label (after_merge D j) (label_after_merge a label i j)

-- any row with a shortcut into a step,
abbrev pub ShortcuttingKeepsTheMeaning : {V : Type 0} → Algebra V → Type 0
ShortcuttingKeepsTheMeaning {V} a =
    (rank : ℕ → ℕ) (D : Diagram) (label : ℕ → V) (r m : ℕ) → Lawful rank D → LabelsBelong a D label → may_shortcut D r m ≡ true → Kept a rank D label (after_shortcut D r m) (label_after_shortcut a D label r m)

-- and any sequence of moves.
abbrev pub MovingKeepsTheMeaning : {V : Type 0} → Algebra V → Type 0
MovingKeepsTheMeaning {V} a =
    (rank : ℕ → ℕ) (D : Diagram) (label : ℕ → V) (moves : List Move) (D' : Diagram) (label' : ℕ → V) → Lawful rank D → LabelsBelong a D label → Moved a may_move D label moves D' label' → Kept a rank D label D' label'
