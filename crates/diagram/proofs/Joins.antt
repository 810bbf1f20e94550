-- The join of labels is their least upper bound, so it does not depend on the list.
use Rattle.std.proofs.Common.{◌≡◌, ℕ, List, [], ◌∷◌, sym, ap, ◌∙◌, subst, ⊎_elim}
use Rattle.std.specs.List.{ContainsAt as Has}
use Rattle.analysis.specs.Algebra.{Algebra, Laws}
use Rattle.diagram.specs.Diagrams.{Diagram}
use Rattle.diagram.specs.RunLabels.{run_label, joined_from, ListsComplete, ListsJoinAlike}
use Rattle.diagram.proofs.Members.{has_none, has_here, has_there, has_cons}

module _ {V : Type 0} (a : Algebra V) (laws : Laws a) where
  -- x is no more than y
  abbrev pub Below : V → V → Type 0
  Below x y = a.either x y ≡ y

  pub below_self : (x : V) → Below x x
  below_self x = laws.either_idempotent x

  pub below_trans : (x y z : V) → Below x y → Below y z → Below x z
  below_trans x y z p q = ap (a.either x) (sym q) ∙ sym (laws.either_associative x y z) ∙ ap (λ t. a.either t z) p ∙ q

  pub below_both : (x y : V) → Below x y → Below y x → x ≡ y
  below_both x y p q = sym q ∙ laws.either_commutative y x ∙ p

  pub either_left : (x y : V) → Below x (a.either x y)
  either_left x y = sym (laws.either_associative x x y) ∙ ap (λ t. a.either t y) (laws.either_idempotent x)

  pub either_right : (x y : V) → Below y (a.either x y)
  either_right x y = ap (a.either y) (laws.either_commutative x y) ∙ either_left y x ∙ laws.either_commutative y x

  pub either_least : (x y b : V) → Below x b → Below y b → Below (a.either x y) b
  either_least x y b p q = laws.either_associative x y b ∙ ap (a.either x) q ∙ p

  module _ (label : ℕ → V) where
    pub above_first : (x : V) (runs : List (List ℕ)) → Below x (joined_from a label x runs)
    above_first x [] = below_self x
    above_first x (rs ∷ runs) = below_trans x _ _ (either_left x (run_label a label rs)) (above_first (a.either x (run_label a label rs)) runs)

    pub above_each : (x : V) (runs : List (List ℕ)) (rs : List ℕ) → Has runs rs → Below (run_label a label rs) (joined_from a label x runs)
    above_each x [] rs h = absurd (has_none h)
    above_each x (ss ∷ runs) rs h =
        ⊎_elim
        (λ same.
        subst (λ l. Below (run_label a label l) (joined_from a label (a.either x (run_label a label ss)) runs)) same
        (below_trans (run_label a label ss) _ _ (either_right x (run_label a label ss)) (above_first (a.either x (run_label a label ss)) runs)))
        (λ rest. above_each (a.either x (run_label a label ss)) runs rs rest)
        (has_cons ss rs runs h)

    pub least : (x b : V) (runs : List (List ℕ)) → Below x b → ((rs : List ℕ) → Has runs rs → Below (run_label a label rs) b) → Below (joined_from a label x runs) b
    least x b [] low each = low
    least x b (rs ∷ runs) low each =
        least (a.either x (run_label a label rs)) b runs (either_least x (run_label a label rs) b low (each rs (has_here rs runs))) (λ ss h. each ss (has_there rs ss runs h))

    -- what a list holds is below its join, the first run too
    pub held_below : (rs : List ℕ) (runs : List (List ℕ)) (ss : List ℕ) → Has (rs ∷ runs) ss → Below (run_label a label ss) (joined_from a label (run_label a label rs) runs)
    held_below rs runs ss h =
        ⊎_elim
        (λ same. subst (λ l. Below (run_label a label l) (joined_from a label (run_label a label rs) runs)) same (above_first (run_label a label rs) runs))
        (λ rest. above_each (run_label a label rs) runs ss rest)
        (has_cons rs ss runs h)

    one_side : (D : Diagram) (rs ss : List ℕ) (runs others : List (List ℕ)) → ListsComplete D (rs ∷ runs) → ListsComplete D (ss ∷ others)
        → Below (joined_from a label (run_label a label rs) runs) (joined_from a label (run_label a label ss) others)
    one_side D rs ss runs others here there =
        least (run_label a label rs) _ runs
        (held_below ss others rs (there.all_there rs (here.none_else rs (has_here rs runs))))
        (λ ts h. held_below ss others ts (there.all_there ts (here.none_else ts (has_there rs ts runs h))))

  pub lists_join_alike : ListsJoinAlike a
  lists_join_alike label D rs ss runs others here there =
      below_both _ _ (one_side label D rs ss runs others here there) (one_side label D ss rs others runs there here)
