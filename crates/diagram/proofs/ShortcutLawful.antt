-- What stands with the follow-ups in place, and with the target struck, is lawful, and its labels belong.
use Rattle.std.proofs.Common.{◌≡◌, ℕ, ◌<◌, Bool, true, false, ◌&&◌, eqb, ltb, sym, ap, ◌∙◌, subst, ⊎_elim, arith}
use Rattle.std.proofs.lemmas.Bool.{cases_Bool, cases_eq, and_parts, or_left, or_cases, eqb-true, ltb-true, cond-true, cond-false}
use Rattle.analysis.specs.Algebra.{Algebra, Laws}
use Rattle.diagram.specs.Diagrams.{Diagram, Inner, Lawful}
use Rattle.diagram.specs.Meaning.{LabelsBelong}
use Rattle.diagram.specs.Moves.{outcomes, free, turn, followed, label_after_shortcut}
use Rattle.diagram.proofs.FollowUps.{Takeable, D', takes, takes_r, takes_not, follows, was_used, step_new, step_old, to_new, to_old}

module _ (rank : ℕ → ℕ) (D : Diagram) (lawful : Lawful rank D) (r m : ℕ) (may : Takeable D r m) where
  abbrev E : Diagram
  E = D' rank D lawful r m may

  abbrev new : ℕ → Bool
  new = takes rank D lawful r m may

  -- a row of the target leads above it
  pub above_target : (q p : ℕ) → D.used q ≡ true → D.step q ≡ m → D.part m p ≡ true → rank m < rank (D.to q p)
  above_target q p use' of' in' = subst (λ n. rank n < rank (D.to q p)) of' (lawful.row_rises q p use' (ap (λ n. D.part n p) of' ∙ in'))

  -- the row's step lies below the target
  pub step_below : (p : ℕ) → D.part m p ≡ true → rank (D.step r) < rank m
  step_below p in' = subst (λ n. rank (D.step r) < rank n) (may.sent p in') (lawful.row_rises r p may.row_used (may.inside p in'))

  pub step_not_target : D.step r ≡ m → ⊥
  step_not_target same =
      let someone = lawful.step_peopled m may.target_inner.0 in
      let lt = step_below someone.0 someone.1 in
      let e : rank (D.step r) ≡ rank m = ap rank same in
      absurd (omega arith)

  -- where a follow-up sends a party: a standing step that has it, above r's step
  record Goal (p n : ℕ) : Type 0 where
    stands : D.stands n ≡ true
    has : D.part n p ≡ true
    rises : rank (D.step r) < rank n

  goal : (t p : ℕ) → new t ≡ true → D.part (D.step r) p ≡ true → Goal p (E.to t p)
  goal t p h in' =
      subst (Goal p) (sym (to_new rank D lawful r m may t p h))
      (⊎_elim
      (λ in_m.
      let q = followed D r m t in
      let of' = follows rank D lawful r m may t h in
      let in_q : D.part (D.step q) p ≡ true = ap (λ n. D.part n p) of'.1 ∙ in_m in
      let low = step_below p in_m in
      let high = above_target q p of'.0 of'.1 in_m in
      subst (Goal p) (sym (cond-true (D.part m p) (D.to q p) (D.to r p) in_m))
      (record { stands = lawful.row_stands q p of'.0 in_q; has = lawful.row_has q p of'.0 in_q; rises = omega arith }))
      (λ out.
      subst (Goal p) (sym (cond-false (D.part m p) (D.to (followed D r m t) p) (D.to r p) out))
      (record { stands = lawful.row_stands r p may.row_used in'; has = lawful.row_has r p may.row_used in'; rises = lawful.row_rises r p may.row_used in' }))
      (cases_Bool (D.part m p)))

  placed : (t : ℕ) → E.used t ≡ true → t < D.size
  placed t h =
      ⊎_elim
      (λ u. lawful.row_placed t u)
      (λ n. ⊎_elim
      (λ same. subst (λ k. k < D.size) (sym (eqb-true t r same)) (lawful.row_placed r may.row_used))
      (λ other. ltb-true t D.size (and_parts (ltb t D.size) (free D t) (and_parts (ltb t D.size && free D t) (ltb (turn D r t) (outcomes D m)) other).0).0)
      (or_cases (eqb t r) ((ltb t D.size && free D t) && ltb (turn D r t) (outcomes D m)) n))
      (or_cases (D.used t) (new t) h)

  pub with_lawful : Lawful rank E
  with_lawful =
      record {
        start_inner = lawful.start_inner;
        start_full = lawful.start_full;
        end_stands = lawful.end_stands;
        end_full = lawful.end_full;
        step_numbered = lawful.step_numbered;
        step_peopled = lawful.step_peopled;
        part_known = lawful.part_known;
        row_placed = placed;
        row_inner = λ t h.
            ⊎_elim
            (λ n. subst (Inner D) (sym (step_new rank D lawful r m may t n)) (lawful.row_inner r may.row_used))
            (λ o. subst (Inner D) (sym (step_old rank D lawful r m may t o)) (lawful.row_inner t (was_used rank D lawful r m may t o h)))
            (cases_Bool (new t));
        row_stands = λ t p h in'.
            ⊎_elim
            (λ n. (goal t p n (new_in t p n in')).stands)
            (λ o. ap D.stands (to_old rank D lawful r m may t p o) ∙ lawful.row_stands t p (was_used rank D lawful r m may t o h) (old_in t p o in'))
            (cases_Bool (new t));
        row_has = λ t p h in'.
            ⊎_elim
            (λ n. (goal t p n (new_in t p n in')).has)
            (λ o. ap (λ k. D.part k p) (to_old rank D lawful r m may t p o) ∙ lawful.row_has t p (was_used rank D lawful r m may t o h) (old_in t p o in'))
            (cases_Bool (new t));
        row_rises = λ t p h in'.
            ⊎_elim
            (λ n. subst (λ k. rank k < rank (E.to t p)) (sym (step_new rank D lawful r m may t n)) (goal t p n (new_in t p n in')).rises)
            (λ o.
            let up = lawful.row_rises t p (was_used rank D lawful r m may t o h) (old_in t p o in') in
            let s : rank (E.step t) ≡ rank (D.step t) = ap rank (step_old rank D lawful r m may t o) in
            let g : rank (E.to t p) ≡ rank (D.to t p) = ap rank (to_old rank D lawful r m may t p o) in
            omega arith)
            (cases_Bool (new t));
        step_led = λ n in'.
            let led = lawful.step_led n in' in
            let t = led.0 in (
              t,
              or_left (D.used t) (new t) led.1,
              ⊎_elim
                  (λ same. ap E.step same ∙ step_new rank D lawful r m may r (takes_r rank D lawful r m may) ∙ ap D.step (sym same) ∙ led.2)
                  (λ ne. step_old rank D lawful r m may t (takes_not rank D lawful r m may t led.1 ne) ∙ led.2)
                  (cases_eq t r),
            );
      }
    where
      new_in : (t p : ℕ) → new t ≡ true → D.part (E.step t) p ≡ true → D.part (D.step r) p ≡ true
      new_in t p n in' = ap (λ k. D.part k p) (sym (step_new rank D lawful r m may t n)) ∙ in'

      old_in : (t p : ℕ) → new t ≡ false → D.part (E.step t) p ≡ true → D.part (D.step t) p ≡ true
      old_in t p o in' = ap (λ k. D.part k p) (sym (step_old rank D lawful r m may t o)) ∙ in'

  pub with_labels : {V : Type 0} (a : Algebra V) → Laws a → (label : ℕ → V) → LabelsBelong a D label → LabelsBelong a E (label_after_shortcut a D label r m)
  with_labels a laws label belong t h =
      ⊎_elim
      (λ n.
      let q = followed D r m t in
      let of' = follows rank D lawful r m may t n in
      let big : a.belongs (label q) (D.part (D.step r)) ≡ true =
      laws.larger_belongs (label q) (D.part m) (D.part (D.step r)) may.inside (subst (λ k. a.belongs (label q) (D.part k) ≡ true) of'.1 (belong q of'.0)) in
      (λ i. a.belongs (cond-true (new t) (a.then (label r) (label q)) (label t) n i) (D.part (step_new rank D lawful r m may t n i)))
      ∙ laws.then_belongs (label r) (label q) (D.part (D.step r)) (belong r may.row_used) big)
      (λ o.
      (λ i. a.belongs (cond-false (new t) (a.then (label r) (label (followed D r m t))) (label t) o i) (D.part (step_old rank D lawful r m may t o i)))
      ∙ belong t (was_used rank D lawful r m may t o h))
      (cases_Bool (new t))
