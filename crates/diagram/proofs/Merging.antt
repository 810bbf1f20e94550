-- Merging two rows keeps the meaning: in runs the one stands for the other.
use Rattle.std.proofs.Common.{◌≡◌, ℕ, true, cond, not, ◌&&◌, eqb, List, [], ◌∷◌, map, sym, refl, ap, ◌∙◌, subst, ⊎_elim}
use mathlib.Core.Path.{fun_ext}
use Rattle.std.proofs.lemmas.Bool.{cases_Bool, cases_eq, and_parts, and_from, not-true, not-false, eqb-true, eqb-false, eq-eqb, ne_eqb, cond-true, cond-false}
use Rattle.numbers.proofs.BelowLaws.{none_at}
use Rattle.analysis.specs.Algebra.{Algebra, Laws}
use Rattle.diagram.specs.Diagrams.{Diagram, Lawful}
use Rattle.diagram.specs.Meaning.{LabelsBelong, MergingKeepsTheMeaning}
use Rattle.diagram.specs.Moves.{same_goals, may_merge, after_merge, label_after_merge}
use Rattle.diagram.specs.RunLabels.{run_label, joined_from, ListsComplete}
use Rattle.diagram.specs.Runs.{Marking, Enabled, take_row, Run, stop, go, Complete, Sound}
use Rattle.diagram.proofs.Joins.{Below, below_self, below_trans, below_both, either_left, either_right, either_least, least, held_below}
use Rattle.diagram.proofs.LabelOrder.{then_below_left, then_below_right, label_first}
use Rattle.diagram.proofs.Members.{has_here, has_there}
use Rattle.diagram.proofs.Tests.{second_fails}

-- what a merge that may be taken asks
pub record Mergeable (D : Diagram) (i j : ℕ) : Type 0 where
  pub first_used : D.used i ≡ true
  pub second_used : D.used j ≡ true
  pub two : i ≡ j → ⊥
  pub one_step : D.step i ≡ D.step j
  pub one_goal : (p : ℕ) → D.part (D.step i) p ≡ true → D.to i p ≡ D.to j p

module _ (rank : ℕ → ℕ) (D : Diagram) (lawful : Lawful rank D) (i j : ℕ) where
  pub mergeable : may_merge D i j ≡ true → Mergeable D i j
  mergeable h =
      let parts = and_parts (D.used i && D.used j) (not (eqb i j) && (eqb (D.step i) (D.step j) && same_goals D i j)) h in
      let uses = and_parts (D.used i) (D.used j) parts.0 in
      let rest = and_parts (not (eqb i j)) (eqb (D.step i) (D.step j) && same_goals D i j) parts.1 in
      let same = and_parts (eqb (D.step i) (D.step j)) (same_goals D i j) rest.1 in
      record {
        first_used = uses.0;
        second_used = uses.1;
        two = eqb-false i j (not-true _ rest.0);
        one_step = eqb-true _ _ same.0;
        one_goal = λ p in'.
            eqb-true (D.to i p) (D.to j p) (not-false _ (second_fails (D.part (D.step i) p) _ in'
            (none_at D.parties (λ q. D.part (D.step i) q && not (eqb (D.to i q) (D.to j q))) (not-true _ same.1) p (lawful.part_known (D.step i) p in'))));
      }

  module _ (may : Mergeable D i j) where
    abbrev merged : Diagram
    merged = after_merge D j

    left_used : (t : ℕ) → D.used t ≡ true → (t ≡ j → ⊥) → merged.used t ≡ true
    left_used t h ne = and_from (D.used t) (not (eqb t j)) h (ap not (ne_eqb t j ne))

    was_used : (t : ℕ) → merged.used t ≡ true → D.used t ≡ true
    was_used t h = (and_parts (D.used t) (not (eqb t j)) h).0

    -- taking j is taking i
    same_taking : (M : Marking) → take_row D M j ≡ take_row D M i
    same_taking M = fun_ext (λ p.
        ⊎_elim
        (λ in'.
        cond-true (D.part (D.step j) p) (D.to j p) (M p) (ap (λ n. D.part n p) (sym may.one_step) ∙ in')
        ∙ sym (may.one_goal p in')
        ∙ sym (cond-true (D.part (D.step i) p) (D.to i p) (M p) in'))
        (λ out.
        cond-false (D.part (D.step j) p) (D.to j p) (M p) (ap (λ n. D.part n p) (sym may.one_step) ∙ out)
        ∙ sym (cond-false (D.part (D.step i) p) (D.to i p) (M p) out))
        (cases_Bool (D.part (D.step i) p)))

    -- i in the place of j
    abbrev instead : ℕ → ℕ
    instead r = cond (eqb r j) i r

    instead_j : (r : ℕ) → r ≡ j → instead r ≡ i
    instead_j r same = cond-true (eqb r j) i r (eq-eqb r j same)

    instead_other : (r : ℕ) → (r ≡ j → ⊥) → instead r ≡ r
    instead_other r ne = cond-false (eqb r j) i r (ne_eqb r j ne)

    -- a run with i in the place of j is a run of what stands
    pub forth : {M X : Marking} {rs : List ℕ} → Run D M rs X → Run merged M (map instead rs) X
    forth stop = stop
    forth {M} {X} (go {r = r} {rs = rs} can rest) =
        ⊎_elim
        (λ same.
        let taken : take_row D M r ≡ take_row D M i = ap (take_row D M) same ∙ same_taking M in
        let on : Enabled D M (D.step i) = subst (Enabled D M) (ap D.step same ∙ sym may.one_step) can.1 in
        subst (λ t. Run merged M (t ∷ map instead rs) X) (sym (instead_j r same))
        (go (left_used i may.first_used may.two, on) (subst (λ N. Run merged N (map instead rs) X) taken (forth rest))))
        (λ ne. subst (λ t. Run merged M (t ∷ map instead rs) X) (sym (instead_other r ne)) (go (left_used r can.0 ne, can.1) (forth rest)))
        (cases_eq r j)

    -- and a run of what stands was one before
    pub back : {M X : Marking} {rs : List ℕ} → Run merged M rs X → Run D M rs X
    back stop = stop
    back (go {r = r} can rest) = go (was_used r can.0, can.1) (back rest)

    pub merged_lawful : Lawful rank merged
    merged_lawful =
        record {
          start_inner = lawful.start_inner;
          start_full = lawful.start_full;
          end_stands = lawful.end_stands;
          end_full = lawful.end_full;
          step_numbered = lawful.step_numbered;
          step_peopled = lawful.step_peopled;
          part_known = lawful.part_known;
          row_placed = λ r h. lawful.row_placed r (was_used r h);
          row_inner = λ r h. lawful.row_inner r (was_used r h);
          row_stands = λ r p h. lawful.row_stands r p (was_used r h);
          row_has = λ r p h. lawful.row_has r p (was_used r h);
          row_rises = λ r p h. lawful.row_rises r p (was_used r h);
          step_led = λ n in'.
              let led = lawful.step_led n in' in
              ⊎_elim
              (λ same. (i, left_used i may.first_used may.two, may.one_step ∙ ap D.step (sym same) ∙ led.2))
              (λ ne. (led.0, left_used led.0 led.1 ne, led.2))
              (cases_eq led.0 j);
        }

    pub sound_forth : Sound D → Sound merged
    sound_forth sound =
        record {
          no_dead_step = λ n in'. let found = sound.no_dead_step n in' in (found.0, (map instead found.1.0, forth found.1.1), found.2);
          never_stalls = λ X leads. let on = sound.never_stalls X (leads.0, back leads.1) in (on.0, (map instead on.1.0, forth on.1.1), on.2);
        }

    pub sound_back : Sound merged → Sound D
    sound_back sound =
        record {
          no_dead_step = λ n in'. let found = sound.no_dead_step n in' in (found.0, (found.1.0, back found.1.1), found.2);
          never_stalls = λ X leads. let on = sound.never_stalls X (map instead leads.0, forth leads.1) in (on.0, (on.1.0, back on.1.1), on.2);
        }

    pub complete_forth : (rs : List ℕ) → Complete D rs → Complete merged (map instead rs)
    complete_forth rs c = (c.0, forth c.1, c.2)

    -- a run in which some i are turned into j again
    data Turned : List ℕ → List ℕ → Type 0 where
      none : Turned [] []
      keep : {t : ℕ} {rs ss : List ℕ} → Turned rs ss → Turned (t ∷ rs) (t ∷ ss)
      turn : {rs ss : List ℕ} → Turned rs ss → Turned (i ∷ rs) (j ∷ ss)

    turned_run : {rs ss : List ℕ} → Turned rs ss → {M X : Marking} → Run merged M rs X → Run D M ss X
    turned_run none stop = stop
    turned_run (keep {t = t} more) (go can rest) = go (was_used t can.0, can.1) (turned_run more rest)
    turned_run (turn {ss = ss} more) {M} {X} (go can rest) =
        go (may.second_used, subst (Enabled D M) may.one_step can.1) (subst (λ N. Run D N ss X) (sym (same_taking M)) (turned_run more rest))

    module _ {V : Type 0} (a : Algebra V) (laws : Laws a) (label : ℕ → V) where
      abbrev label' : ℕ → V
      label' = label_after_merge a label i j

      label_i : label' i ≡ a.either (label i) (label j)
      label_i = cond-true (eqb i i) _ _ (eq-eqb i i refl)

      label_other : (t : ℕ) → (t ≡ i → ⊥) → label' t ≡ label t
      label_other t ne = cond-false (eqb t i) _ _ (ne_eqb t i ne)

      -- a row's label is below that of the row in its place
      row_below : (r : ℕ) → Below a laws (label r) (label' (instead r))
      row_below r =
          ⊎_elim
          (λ same. subst (Below a laws (label r)) (sym (ap label' (instead_j r same) ∙ label_i)) (subst (λ t. Below a laws (label t) (a.either (label i) (label j))) (sym same) (either_right a laws (label i) (label j))))
          (λ ne. subst (Below a laws (label r)) (sym (ap label' (instead_other r ne)))
          (⊎_elim
          (λ first'. subst (λ t. Below a laws (label t) (label' t)) (sym first') (subst (Below a laws (label i)) (sym label_i) (either_left a laws (label i) (label j))))
          (λ other. subst (Below a laws (label r)) (sym (label_other r other)) (below_self a laws (label r)))
          (cases_eq r i)))
          (cases_eq r j)

      run_below : (rs : List ℕ) → Below a laws (run_label a label rs) (run_label a label' (map instead rs))
      run_below [] = below_self a laws a.unit
      run_below (r ∷ rs) =
          subst (λ x. Below a laws x (run_label a label' (map instead (r ∷ rs)))) (sym (label_first a laws label r rs))
          (subst (Below a laws (a.then (label r) (run_label a label rs))) (sym (label_first a laws label' (instead r) (map instead rs)))
          (below_trans a laws _ _ _
          (then_below_left a laws (label r) (label' (instead r)) (run_label a label rs) (row_below r))
          (then_below_right a laws (label' (instead r)) (run_label a label rs) (run_label a label' (map instead rs)) (run_below rs))))

      -- what is above all ways to turn i into j again is above the merged run
      above_turned : (rs : List ℕ) (x b : V) → ((ss : List ℕ) → Turned rs ss → Below a laws (a.then x (run_label a label ss)) b) → Below a laws (a.then x (run_label a label' rs)) b
      above_turned [] x b h = h [] none
      above_turned (t ∷ rs) x b h =
          subst (λ y. Below a laws y b) (sym (ap (a.then x) (label_first a laws label' t rs) ∙ sym (laws.then_associative x (label' t) (run_label a label' rs))))
          (⊎_elim
          (λ same.
          subst (λ y. Below a laws (a.then (a.then x y) (run_label a label' rs)) b) (sym (ap label' same ∙ label_i))
          (subst (λ y. Below a laws y b) (sym (ap (λ y. a.then y (run_label a label' rs)) (laws.then_either x (label i) (label j)) ∙ laws.either_then (a.then x (label i)) (a.then x (label j)) (run_label a label' rs)))
          (either_least a laws _ _ b
          (above_turned rs (a.then x (label i)) b (λ ss more. before i ss (h (i ∷ ss) (subst (λ u. Turned (u ∷ rs) (i ∷ ss)) (sym same) (keep more)))))
          (above_turned rs (a.then x (label j)) b (λ ss more. before j ss (h (j ∷ ss) (subst (λ u. Turned (u ∷ rs) (j ∷ ss)) (sym same) (turn more))))))))
          (λ ne.
          subst (λ y. Below a laws (a.then (a.then x y) (run_label a label' rs)) b) (sym (label_other t ne))
          (above_turned rs (a.then x (label t)) b (λ ss more. before t ss (h (t ∷ ss) (keep more)))))
          (cases_eq t i))
        where
          before : (u : ℕ) (ss : List ℕ) → Below a laws (a.then x (run_label a label (u ∷ ss))) b → Below a laws (a.then (a.then x (label u)) (run_label a label ss)) b
          before u ss p = subst (λ y. Below a laws y b) (ap (a.then x) (label_first a laws label u ss) ∙ sym (laws.then_associative x (label u) (run_label a label ss))) p

      module _ (rs ss : List ℕ) (runs others : List (List ℕ)) (here : ListsComplete D (rs ∷ runs)) (there : ListsComplete merged (ss ∷ others)) where
        abbrev J : V
        J = joined_from a label (run_label a label rs) runs

        abbrev J' : V
        J' = joined_from a label' (run_label a label' ss) others

        old_below : (ts : List ℕ) → Complete D ts → Below a laws (run_label a label ts) J'
        old_below ts c = below_trans a laws _ _ _ (run_below ts) (held_below a laws label' ss others (map instead ts) (there.all_there (map instead ts) (complete_forth ts c)))

        new_below : (ts : List ℕ) → Complete merged ts → Below a laws (run_label a label' ts) J
        new_below ts c =
            subst (λ y. Below a laws y J) (laws.unit_then (run_label a label' ts))
            (above_turned ts a.unit J (λ us more.
            subst (λ y. Below a laws y J) (sym (laws.unit_then (run_label a label us)))
            (held_below a laws label rs runs us (here.all_there us (c.0, turned_run more c.1, c.2)))))

        pub same_join : J ≡ J'
        same_join =
            below_both a laws J J'
            (least a laws label (run_label a label rs) J' runs (old_below rs (here.none_else rs (has_here rs runs))) (λ ts h. old_below ts (here.none_else ts (has_there rs ts runs h))))
            (least a laws label' (run_label a label' ss) J others (new_below ss (there.none_else ss (has_here ss others))) (λ ts h. new_below ts (there.none_else ts (has_there ss ts others h))))

      pub labels_still_belong : LabelsBelong a D label → LabelsBelong a merged label'
      labels_still_belong belong r h =
          ⊎_elim
          (λ same.
          subst (λ v. a.belongs v (D.part (D.step r)) ≡ true) (sym (ap label' same ∙ label_i))
          (laws.either_belongs (label i) (label j) (D.part (D.step r))
          (subst (λ t. a.belongs (label t) (D.part (D.step r)) ≡ true) same (belong r (was_used r h)))
          (subst (λ n. a.belongs (label j) (D.part n) ≡ true) (sym may.one_step ∙ ap D.step (sym same)) (belong j may.second_used))))
          (λ ne. subst (λ v. a.belongs v (D.part (D.step r)) ≡ true) (sym (label_other r ne)) (belong r (was_used r h)))
          (cases_eq r i)

pub merging_keeps_the_meaning : {V : Type 0} (a : Algebra V) → Laws a → MergingKeepsTheMeaning a
merging_keeps_the_meaning a laws rank D label i j lawful belong h =
    let may = mergeable rank D lawful i j h in
    record {
      still_lawful = merged_lawful rank D lawful i j may;
      still_belong = labels_still_belong rank D lawful i j may a laws label belong;
      same_meaning = record {
        soundness_kept = sound_forth rank D lawful i j may;
        soundness_back = sound_back rank D lawful i j may;
        completion_kept = λ c. (map (instead rank D lawful i j may) c.0, complete_forth rank D lawful i j may c.0 c.1);
        completion_back = λ c. (c.0, (c.1.0, back rank D lawful i j may c.1.1, c.1.2));
        join_kept = same_join rank D lawful i j may a laws label;
      };
    }
