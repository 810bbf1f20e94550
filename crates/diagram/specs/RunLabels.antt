-- Labels of runs, and their join.
use Rattle.std.specs.Prelude.{◌≡◌, ℕ, List, ◌∷◌, fold}
use Rattle.std.specs.List.{ContainsAt as Has}
use Rattle.analysis.specs.Algebra.{Algebra}
use Rattle.diagram.specs.Diagrams.{Diagram}
use Rattle.diagram.specs.Runs.{Complete}

-- the label of a run: the unit, then each row's label in turn
abbrev pub run_label : {V : Type 0} → Algebra V → (ℕ → V) → List ℕ → V
run_label a label rs = fold (λ x r. a.then x (label r)) a.unit rs

-- "either" of the labels of some runs, in their order, beginning with a value
abbrev pub joined_from : {V : Type 0} → Algebra V → (ℕ → V) → V → List (List ℕ) → V
joined_from a label x runs = fold (λ y rs. a.either y (run_label a label rs)) x runs

-- a list that holds exactly the complete runs
pub record ListsComplete (D : Diagram) (runs : List (List ℕ)) : Type 0 where
  pub all_there : (rs : List ℕ) → Complete D rs → Has runs rs
  pub none_else : (rs : List ℕ) → Has runs rs → Complete D rs

-- J is the join over all complete runs: of each list that holds exactly these, one run first
abbrev pub Join : {V : Type 0} → Algebra V → (ℕ → V) → Diagram → V → Type 0
Join a label D J = (rs : List ℕ) (runs : List (List ℕ)) → ListsComplete D (rs ∷ runs) → joined_from a label (run_label a label rs) runs ≡ J

-- Any two lists that hold exactly the complete runs join to the same value.
abbrev pub ListsJoinAlike : {V : Type 0} → Algebra V → Type 0
ListsJoinAlike {V} a =
    (label : ℕ → V) (D : Diagram) (rs ss : List ℕ) (runs others : List (List ℕ))
    → ListsComplete D (rs ∷ runs) → ListsComplete D (ss ∷ others)
    → joined_from a label (run_label a label rs) runs ≡ joined_from a label (run_label a label ss) others
