-- Repeating the least move decides soundness and tells the join.
use Rattle.std.proofs.Common.{◌≡◌, ℕ, zero, suc, ◌+◌, ◌≤◌, true, eqb, ltb, ◌⊎◌, List, [], ◌∷◌, Some, None, Option, sym, refl, ap, ◌∙◌, subst, inl, inr, ⊎_elim, arith}
use Rattle.std.specs.List.{ContainsAt as Has}
use Rattle.std.proofs.lemmas.Bool.{cases_Bool, and_parts, ltb-true, cond-true, cond-false}
use Rattle.numbers.specs.Below.{some_below, first_below}
use Rattle.numbers.proofs.BelowLaws.{first_tells, some_at}
use Rattle.diagram.proofs.Leftover.{first_found}
use Rattle.analysis.specs.Algebra.{Algebra, Laws}
use Rattle.diagram.specs.Diagrams.{Diagram, Lawful}
use Rattle.diagram.specs.Meaning.{LabelsBelong, Kept}
use Rattle.diagram.specs.Moves.{Move, merge, shortcut, after, label_after, may_merge, may_shortcut, may_move, may_reduce, outcomes, merges_with, shortcuts_into, first_merging, first_shortcutting, least_move, NothingLeft}
use Rattle.diagram.specs.Reducing.{most_moves, OneRowLeft, moved_by, reduced, ReductionDecides}
use Rattle.diagram.specs.RunLabels.{ListsComplete}
use Rattle.diagram.specs.Runs.{Marking, first, AtEnd, Enabled, take_row, Run, stop, go, Complete}
use Rattle.diagram.proofs.Members.{has_none, has_here, has_cons}
use Rattle.diagram.proofs.Moving.{means_itself, means_through, moved_once}
use Rattle.diagram.proofs.OneRow.{one_tells, one_from}
use Rattle.diagram.proofs.Shrinking.{each_spends}
use Rattle.diagram.proofs.Spending.{purse, purse_bounded}
use Rattle.diagram.proofs.Taking.{moved}
use Rattle.diagram.proofs.Tests.{end_is_still}
use Rattle.diagram.proofs.Verdict.{the_verdict_is_right}

some_or_none : (o : Option Move) → (o ≡ None) ⊎ ((m : Move) × (o ≡ Some m))
some_or_none (Some m) = inr (m, refl)
some_or_none None = inl refl

-- a move, if there is one, may be taken in a reduction
May : Diagram → Option Move → Type 0
May D (Some m) = may_reduce D m ≡ true
May D None = Unit {0}

module _ (D : Diagram) where
  merge_may : ltb (first_merging D) D.size ≡ true → may_merge D (first_merging D) (first_below D.size (merges_with D (first_merging D))) ≡ true
  merge_may h =
      let i = first_merging D in
      let j = first_below D.size (merges_with D i) in
      let some = some_at D.size (merges_with D i) ((first_tells D.size (λ k. some_below D.size (merges_with D k))).passes (ltb-true i D.size h)) in
      let low = ltb-true j D.size (first_found D.size (merges_with D i) some.0 some.1 some.2) in
      (and_parts (ltb i j) (may_merge D i j) ((first_tells D.size (merges_with D i)).passes low)).1

  shortcut_may : ltb (first_shortcutting D) D.size ≡ true → shortcuts_into D (first_shortcutting D) (first_below (D.end + 1) (shortcuts_into D (first_shortcutting D))) ≡ true
  shortcut_may h =
      let r = first_shortcutting D in
      let m = first_below (D.end + 1) (shortcuts_into D r) in
      let some = some_at (D.end + 1) (shortcuts_into D r) ((first_tells D.size (λ k. some_below (D.end + 1) (shortcuts_into D k))).passes (ltb-true r D.size h)) in
      (first_tells (D.end + 1) (shortcuts_into D r)).passes (ltb-true m (D.end + 1) (first_found (D.end + 1) (shortcuts_into D r) some.0 some.1 some.2))

  least_may : May D (least_move D)
  unfolding May
  least_may =
      ⊎_elim
      (λ yes. subst (May D) (sym (cond-true (ltb (first_merging D) D.size) _ _ yes)) (merge_may yes))
      (λ no.
      subst (May D) (sym (cond-false (ltb (first_merging D) D.size) _ _ no))
      (⊎_elim
      (λ yes. subst (May D) (sym (cond-true (ltb (first_shortcutting D) D.size) _ _ yes)) (shortcut_may yes))
      (λ none. subst (May D) (sym (cond-false (ltb (first_shortcutting D) D.size) _ _ none)) tt)
      (cases_Bool (ltb (first_shortcutting D) D.size))))
      (cases_Bool (ltb (first_merging D) D.size))

  may_from : (m : Move) → least_move D ≡ Some m → may_reduce D m ≡ true
  unfolding May
  may_from m e = subst (May D) e least_may

  may_at_all : (m : Move) → may_reduce D m ≡ true → may_move D m ≡ true
  may_at_all (merge i j) h = h
  may_at_all (shortcut r m) h = (and_parts (eqb (outcomes D m) 1) (may_shortcut D r m) h).1

module _ {V : Type 0} (a : Algebra V) (laws : Laws a) where
  -- where there is no least move nothing changes
  idle : (n : ℕ) (D : Diagram) (label : ℕ → V) → least_move D ≡ None → reduced a n (D, label) ≡ (D, label)
  unfolding reduced
  idle zero D label none = refl
  idle (suc n) D label none = ap (λ o. reduced a n (moved_by a (D, label) o)) none ∙ idle n D label none

  -- what is left means the same, and nothing is left to take where there was no more to spend
  record Left (rank : ℕ → ℕ) (n : ℕ) (D : Diagram) (label : ℕ → V) (left : Diagram × (ℕ → V)) : Type 0 where
    kept : Kept a rank D label left.0 left.1
    ended : purse rank D ≤ n → NothingLeft left.0

  kept_itself : (rank : ℕ → ℕ) (D : Diagram) (label : ℕ → V) → Lawful rank D → LabelsBelong a D label → Kept a rank D label D label
  kept_itself rank D label lawful belong = record { still_lawful = lawful; still_belong = belong; same_meaning = means_itself a laws D label }

  reduced_left : (n : ℕ) (rank : ℕ → ℕ) (D : Diagram) (label : ℕ → V) → Lawful rank D → LabelsBelong a D label → Left rank n D label (reduced a n (D, label))
  unfolding reduced
  reduced_left zero rank D label lawful belong =
      record {
        kept = kept_itself rank D label lawful belong;
        ended = λ le.
            ⊎_elim
            (λ none. none)
            (λ some. let once = each_spends rank D lawful some.0 (may_from D some.0 some.1) in let less = once.1 in absurd (omega arith))
            (some_or_none (least_move D));
      }
  reduced_left (suc n) rank D label lawful belong =
      ⊎_elim
      (λ none.
      subst (Left rank (suc n) D label) (sym (idle (suc n) D label none))
      (record { kept = kept_itself rank D label lawful belong; ended = λ le. none }))
      (λ some.
      let m = some.0 in
      let may = may_from D m some.1 in
      let less = (each_spends rank D lawful m may).1 in
      let once = moved_once a laws rank D label m lawful belong (may_at_all D m may) in
      let more = reduced_left n rank (after D m) (label_after a D label m) once.still_lawful once.still_belong in
      subst (λ o. Left rank (suc n) D label (reduced a n (moved_by a (D, label) o))) (sym some.1)
      (record {
        kept = record {
          still_lawful = more.kept.still_lawful;
          still_belong = more.kept.still_belong;
          same_meaning = means_through a laws once.same_meaning more.kept.same_meaning rank once.still_lawful;
        };
        ended = λ le. more.ended (omega arith);
      }))
      (some_or_none (least_move D))

-- where one row is left, it alone is a complete run, and there is no other
module _ (rank : ℕ → ℕ) (D : Diagram) (lawful : Lawful rank D) (one : OneRowLeft D) where
  alone_complete : Complete D (one.row ∷ [])
  alone_complete =
      let r = one.row in (
        take_row D first r,
        go (one.in_use, subst (Enabled D first) (sym one.from_start) (lawful.start_inner, λ p in'. refl)) stop,
        λ p lt. moved D first r p (ap (λ k. D.part k p) one.from_start ∙ lawful.start_full p lt) ∙ one.to_end p lt,
      )

  nothing_more : {M X : Marking} {rs : List ℕ} → AtEnd D M → Run D M rs X → rs ≡ []
  nothing_more ends stop = refl
  nothing_more {M} ends (go {r = t} can rest) = absurd (end_is_still D M rank lawful ends t can)

  not_at_end : AtEnd D first → ⊥
  not_at_end ends =
      let someone = lawful.step_peopled 0 lawful.start_inner.0 in
      lawful.start_inner.1 (ends someone.0 (lawful.part_known 0 someone.0 someone.1))

  run_alone : {X : Marking} {rs : List ℕ} → Run D first rs X → AtEnd D X → (one.row ∷ []) ≡ rs
  unfolding alone_complete
  run_alone stop ends = absurd (not_at_end ends)
  run_alone (go {r = t} {rs = rs} can rest) ends =
      let same = one.no_other_row t can.0 in
      let behind = nothing_more (λ p lt. ap (λ k. take_row D first k p) same ∙ alone_complete.2 p lt) rest in
      λ i. sym same i ∷ sym behind i

  alone_listed : ListsComplete D ((one.row ∷ []) ∷ [])
  alone_listed =
      record {
        all_there = λ rs c. subst (Has ((one.row ∷ []) ∷ [])) (run_alone c.1 c.2) (has_here (one.row ∷ []) []);
        none_else = λ rs h. ⊎_elim (λ same. subst (Complete D) same alone_complete) (λ none. absurd (has_none none)) (has_cons (one.row ∷ []) rs [] h);
      }

pub reduction_decides : {V : Type 0} (a : Algebra V) → Laws a → ReductionDecides a
reduction_decides a laws rank D label lawful belong =
    let left = reduced_left a laws (most_moves D) rank D label lawful belong in
    let R = reduced a (most_moves D) (D, label) in
    let ends = left.ended (purse_bounded rank D lawful) in
    let verdict = the_verdict_is_right rank R.0 left.kept.still_lawful ends in
    record {
      ended = ends;
      decides = (
        λ h. left.kept.same_meaning.soundness_back (verdict.1 (one_tells rank R.0 left.kept.still_lawful h)),
        λ sound. one_from rank R.0 left.kept.still_lawful (verdict.0 (left.kept.same_meaning.soundness_kept sound)),
      );
      label_joins = λ one rs runs lists.
          left.kept.same_meaning.join_kept rs (one.row ∷ []) runs [] lists (alone_listed rank R.0 left.kept.still_lawful one)
          ∙ laws.unit_then (R.1 one.row);
    }
