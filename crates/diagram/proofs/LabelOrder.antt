-- Labels of runs, and the order that "either" gives.
use Rattle.std.proofs.Common.{◌≡◌, ℕ, List, [], ◌∷◌, fold, sym, ap, ◌∙◌}
use Rattle.analysis.specs.Algebra.{Algebra, Laws}
use Rattle.diagram.specs.RunLabels.{run_label}
use Rattle.diagram.proofs.Joins.{Below}

module _ {V : Type 0} (a : Algebra V) (laws : Laws a) where
  -- "then" keeps the order, on either side
  pub then_below_right : (x y z : V) → Below a laws y z → Below a laws (a.then x y) (a.then x z)
  then_below_right x y z p = sym (laws.then_either x y z) ∙ ap (a.then x) p

  pub then_below_left : (x y z : V) → Below a laws x y → Below a laws (a.then x z) (a.then y z)
  then_below_left x y z p = sym (laws.either_then x y z) ∙ ap (λ t. a.then t z) p

  module _ (label : ℕ → V) where
    -- a run's rows behind a value
    pub label_behind : (x : V) (rs : List ℕ) → fold (λ y r. a.then y (label r)) x rs ≡ a.then x (run_label a label rs)
    label_behind x [] = sym (laws.then_unit x)
    label_behind x (r ∷ rs) =
        label_behind (a.then x (label r)) rs
        ∙ laws.then_associative x (label r) (run_label a label rs)
        ∙ sym (ap (a.then x) (label_behind (a.then a.unit (label r)) rs ∙ ap (λ t. a.then t (run_label a label rs)) (laws.unit_then (label r))))

    -- the label of a run, its first row first
    pub label_first : (r : ℕ) (rs : List ℕ) → run_label a label (r ∷ rs) ≡ a.then (label r) (run_label a label rs)
    label_first r rs = label_behind (a.then a.unit (label r)) rs ∙ ap (λ t. a.then t (run_label a label rs)) (laws.unit_then (label r))
