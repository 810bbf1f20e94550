-- Any sequence of moves keeps the meaning: each move does, and meaning the same is passed on.
use Rattle.std.proofs.Common.{◌≡◌, ℕ, true, List, [], ◌∷◌, ◌∙◌}
use Rattle.analysis.specs.Algebra.{Algebra, Laws}
use Rattle.diagram.specs.Diagrams.{Diagram, Lawful}
use Rattle.diagram.specs.Meaning.{LabelsBelong, MeansTheSame, Kept, MovingKeepsTheMeaning}
use Rattle.diagram.specs.Moves.{Move, merge, shortcut, after, label_after, may_move, Moved, rest, move}
use Rattle.diagram.specs.RunLabels.{run_label, joined_from, ListsComplete}
use Rattle.diagram.specs.Walks.{complete_runs}
use Rattle.diagram.proofs.Joins.{lists_join_alike}
use Rattle.diagram.proofs.Listed.{complete_runs_are_listed}
use Rattle.diagram.proofs.Members.{has_none, has_here}
use Rattle.diagram.proofs.Merging.{merging_keeps_the_meaning}
use Rattle.diagram.proofs.ShortcutKept.{shortcutting_keeps_the_meaning}

module _ {V : Type 0} (a : Algebra V) (laws : Laws a) where
  pub means_itself : (D : Diagram) (label : ℕ → V) → MeansTheSame a D label D label
  means_itself D label =
      record {
        soundness_kept = λ s. s;
        soundness_back = λ s. s;
        completion_kept = λ c. c;
        completion_back = λ c. c;
        join_kept = lists_join_alike a laws label D;
      }

  module _ {D E F : Diagram} {label label' label'' : ℕ → V} (one : MeansTheSame a D label E label') (two : MeansTheSame a E label' F label'') where
    -- the joins are compared by way of any list for the diagram between
    join_through : (between : List (List ℕ)) → ListsComplete E between → (rs ss : List ℕ) (runs others : List (List ℕ)) → ListsComplete D (rs ∷ runs) → ListsComplete F (ss ∷ others)
        → joined_from a label (run_label a label rs) runs ≡ joined_from a label'' (run_label a label'' ss) others
    join_through [] lists rs ss runs others here there =
        let c = one.completion_kept (rs, here.none_else rs (has_here rs runs)) in
        absurd (has_none (lists.all_there c.0 c.1))
    join_through (ts ∷ more) lists rs ss runs others here there =
        one.join_kept rs ts runs more here lists ∙ two.join_kept ts ss more others lists there

    pub means_through : (rank : ℕ → ℕ) → Lawful rank E → MeansTheSame a D label F label''
    means_through rank lawful =
        record {
          soundness_kept = λ s. two.soundness_kept (one.soundness_kept s);
          soundness_back = λ s. one.soundness_back (two.soundness_back s);
          completion_kept = λ c. two.completion_kept (one.completion_kept c);
          completion_back = λ c. one.completion_back (two.completion_back c);
          join_kept = join_through (complete_runs rank E) (complete_runs_are_listed rank E lawful);
        }

  -- one move
  pub moved_once : (rank : ℕ → ℕ) (D : Diagram) (label : ℕ → V) (m : Move) → Lawful rank D → LabelsBelong a D label → may_move D m ≡ true → Kept a rank D label (after D m) (label_after a D label m)
  moved_once rank D label (merge i j) lawful belong h = merging_keeps_the_meaning a laws rank D label i j lawful belong h
  moved_once rank D label (shortcut r m) lawful belong h = shortcutting_keeps_the_meaning a laws rank D label r m lawful belong h

  moved_all : (rank : ℕ → ℕ) {D D' : Diagram} {label label' : ℕ → V} {moves : List Move} → Lawful rank D → LabelsBelong a D label → Moved a may_move D label moves D' label' → Kept a rank D label D' label'
  moved_all rank {D} {label = label} lawful belong rest = record { still_lawful = lawful; still_belong = belong; same_meaning = means_itself D label }
  moved_all rank {D} {label = label} lawful belong (move {m = m} may more) =
      let once = moved_once rank D label m lawful belong may in
      let all = moved_all rank once.still_lawful once.still_belong more in
      record {
        still_lawful = all.still_lawful;
        still_belong = all.still_belong;
        same_meaning = means_through once.same_meaning all.same_meaning rank once.still_lawful;
      }

pub moving_keeps_the_meaning : {V : Type 0} (a : Algebra V) → Laws a → MovingKeepsTheMeaning a
moving_keeps_the_meaning a laws rank D label moves D' label' lawful belong moved = moved_all a laws rank lawful belong moved
