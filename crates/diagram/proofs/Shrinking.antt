-- Each move of a reduction spends something, so there are no more of them than there is to spend.
use Rattle.std.proofs.Common.{◌≡◌, ℕ, suc, ◌+◌, ◌<◌, ◌≤◌, true, false, cond, not, ◌&&◌, eqb, List, length, sym, refl, ap, ◌∙◌, subst, ⊎_elim, arith}
use Rattle.std.proofs.lemmas.Bool.{cases_Bool, cases_eq, and_parts, and_right, or_left, eqb-true, eq-eqb, ne_eqb, cond-true, cond-false}
use Rattle.numbers.specs.Below.{count_below}
use Rattle.analysis.specs.Algebra.{Algebra}
use Rattle.diagram.specs.Diagrams.{Diagram, Lawful}
use Rattle.diagram.specs.Moves.{outcomes, free, turn, followed, leads_to, struck, after_merge, after_shortcut, may_shortcut, Move, merge, shortcut, after, may_reduce, Moved, rest, move}
use Rattle.diagram.specs.Reducing.{ReductionsAreBounded}
use Rattle.diagram.proofs.Counting.{weight_le, count_le, count_lt}
use Rattle.diagram.proofs.FollowUps.{Takeable, takeable, D', takes, takes_r, turn_below, follows, was_used, step_new, step_old, to_new, to_old}
use Rattle.diagram.proofs.Merging.{Mergeable, mergeable, merged_lawful}
use Rattle.diagram.proofs.ShortcutLawful.{above_target, with_lawful}
use Rattle.diagram.proofs.Spending.{Ahead, ahead, ahead_from, ahead_tells, avail, purse, purse_bounded}
use Rattle.diagram.proofs.Striking as strike
use Rattle.diagram.proofs.Sums.{sum_le, sum_lt}

-- what a row in use holds of a purse
abbrev held : (ℕ → ℕ) → Diagram → ℕ → ℕ
held rank D t = cond (D.used t) (suc (avail rank D t)) 0

module _ (rank : ℕ → ℕ) (D : Diagram) (lawful : Lawful rank D) where
  -- a merge spends the row that becomes free
  merge_spends : (i j : ℕ) → Mergeable D i j → purse rank (after_merge D j) < purse rank D
  merge_spends i j may =
      let freed : (D.used j && not (eqb j j)) ≡ false = and_right (D.used j) (not (eqb j j)) (ap not (eq-eqb j j refl)) in
      let none : held rank (after_merge D j) j ≡ 0 = cond-false (D.used j && not (eqb j j)) _ 0 freed in
      let some : held rank D j ≡ suc (avail rank D j) = cond-true (D.used j) _ 0 may.second_used in
      sum_lt D.size (held rank (after_merge D j)) (held rank D)
      (λ t lt. weight_le (D.used t && not (eqb t j)) (D.used t) (suc (avail rank D t)) (suc (avail rank D t)) (λ h. ((and_parts (D.used t) (not (eqb t j)) h).0, omega arith)))
      j (lawful.row_placed j may.second_used) (omega arith)

  module _ (r m : ℕ) (may : Takeable D r m) where
    abbrev E : Diagram
    E = D' rank D lawful r m may

    lawful_E : Lawful rank E
    lawful_E = with_lawful rank D lawful r m may

    module _ (one : outcomes D m ≡ 1) where
      -- into a step with one outcome row r alone takes a follow-up
      only_r : (t : ℕ) → takes rank D lawful r m may t ≡ true → t ≡ r
      only_r t h =
          ⊎_elim
          (λ same. same)
          (λ ne.
          let low = turn_below rank D lawful r m may t h in
          let late : turn D r t ≡ 1 + count_below t (free D) = cond-false (eqb t r) 0 (1 + count_below t (free D)) (ne_eqb t r ne) in
          absurd (omega arith))
          (cases_eq t r)

      used_before : (t : ℕ) → E.used t ≡ true → D.used t ≡ true
      used_before t h =
          ⊎_elim
          (λ n. ap D.used (only_r t n) ∙ may.row_used)
          (λ o. was_used rank D lawful r m may t o h)
          (cases_Bool (takes rank D lawful r m may t))

      -- destinations only rise, so no step comes to be ahead
      ahead_new : (t k : ℕ) → takes rank D lawful r m may t ≡ true → Ahead rank E t k → Ahead rank D t k
      ahead_new t k n h =
          let same = only_r t n in
          record {
            stands = h.stands;
            inside = λ p in'. ap (λ u. D.part (D.step u) p) same ∙ ap (λ s. D.part s p) (sym (step_new rank D lawful r m may t n)) ∙ h.inside p in';
            before = λ p in'.
                let q = followed D r m t in
                let of' = follows rank D lawful r m may t n in
                let le = h.before p in' in
                let now : rank (E.to t p) ≡ rank (cond (D.part m p) (D.to q p) (D.to r p)) = ap rank (to_new rank D lawful r m may t p n) in
                let was : rank (D.to t p) ≡ rank (D.to r p) = ap (λ u. rank (D.to u p)) same in
                ⊎_elim
                (λ in_m.
                let there : rank (cond (D.part m p) (D.to q p) (D.to r p)) ≡ rank (D.to q p) = ap rank (cond-true (D.part m p) (D.to q p) (D.to r p) in_m) in
                let up = above_target rank D lawful r m may q p of'.0 of'.1 in_m in
                let at : rank (D.to r p) ≡ rank m = ap rank (may.sent p in_m) in
                omega arith)
                (λ out.
                let there : rank (cond (D.part m p) (D.to q p) (D.to r p)) ≡ rank (D.to r p) = ap rank (cond-false (D.part m p) (D.to q p) (D.to r p) out) in
                omega arith)
                (cases_Bool (D.part m p));
          }

      ahead_old : (t k : ℕ) → takes rank D lawful r m may t ≡ false → Ahead rank E t k → Ahead rank D t k
      ahead_old t k o h =
          record {
            stands = h.stands;
            inside = λ p in'. ap (λ s. D.part s p) (sym (step_old rank D lawful r m may t o)) ∙ h.inside p in';
            before = λ p in'. subst (λ n. rank n ≤ rank k) (to_old rank D lawful r m may t p o) (h.before p in');
          }

      ahead_was : (t k : ℕ) → ahead rank E t k ≡ true → ahead rank D t k ≡ true
      ahead_was t k h =
          let now = ahead_tells rank E lawful_E t k h in
          ahead_from rank D t k (⊎_elim (λ n. ahead_new t k n now) (λ o. ahead_old t k o now) (cases_Bool (takes rank D lawful r m may t)))

      -- the target was ahead of r
      target_was_ahead : ahead rank D r m ≡ true
      target_was_ahead =
          ahead_from rank D r m (record {
            stands = may.target_inner;
            inside = may.inside;
            before = λ p in'. let at : rank (D.to r p) ≡ rank m = ap rank (may.sent p in') in omega arith;
          })

      -- and is not any more
      target_not_ahead : ahead rank E r m ≡ false
      target_not_ahead =
          ⊎_elim
          (λ yes.
          let someone = lawful.step_peopled m may.target_inner.0 in
          let p = someone.0 in
          let q = followed D r m r in
          let h = takes_r rank D lawful r m may in
          let of' = follows rank D lawful r m may r h in
          let le = (ahead_tells rank E lawful_E r m yes).before p someone.1 in
          let up = above_target rank D lawful r m may q p of'.0 of'.1 someone.1 in
          let now : rank (E.to r p) ≡ rank (D.to q p) = ap rank (to_new rank D lawful r m may r p h ∙ cond-true (D.part m p) (D.to q p) (D.to r p) someone.1) in
          absurd (omega arith))
          (λ no. no)
          (cases_Bool (ahead rank E r m))

      fewer_ahead : avail rank E r < avail rank D r
      fewer_ahead =
          let placed = lawful.step_numbered m may.target_inner.0 in
          count_lt (D.end + 1) (ahead rank E r) (ahead rank D r) (λ k lt h. ahead_was r k h) m (omega arith) target_not_ahead target_was_ahead

      shortcut_spends : purse rank E < purse rank D
      shortcut_spends =
          let now : held rank E r ≡ suc (avail rank E r) = cond-true (E.used r) _ 0 (or_left (D.used r) (takes rank D lawful r m may r) may.row_used) in
          let was : held rank D r ≡ suc (avail rank D r) = cond-true (D.used r) _ 0 may.row_used in
          let less = fewer_ahead in
          sum_lt D.size (held rank E) (held rank D)
          (λ t lt. weight_le (E.used t) (D.used t) (suc (avail rank E t)) (suc (avail rank D t)) (λ h.
          let le = count_le (D.end + 1) (ahead rank E t) (ahead rank D t) (λ k l x. ahead_was t k x) in
          (used_before t h, omega arith)))
          r (lawful.row_placed r may.row_used) (omega arith)

    module _ (quiet : leads_to E m ≡ false) where
      abbrev S : Diagram
      S = struck E m

      lawful_S : Lawful rank S
      lawful_S = strike.struck_lawful rank E lawful_E m may.target_inner may.not_start quiet

      ahead_unstruck : (t k : ℕ) → (E.step t ≡ m → ⊥) → ahead rank S t k ≡ true → ahead rank E t k ≡ true
      ahead_unstruck t k ne h =
          let now = ahead_tells rank S lawful_S t k h in
          let was = strike.inner_was rank E lawful_E m may.target_inner may.not_start quiet k now.stands in
          let kept : (n p : ℕ) → (n ≡ m → ⊥) → S.part n p ≡ E.part n p = strike.part_kept rank E lawful_E m may.target_inner may.not_start quiet in
          ahead_from rank E t k (record {
            stands = was.0;
            inside = λ p in'. sym (kept (E.step t) p ne) ∙ now.inside p (kept k p was.1 ∙ in');
            before = λ p in'. now.before p (kept k p was.1 ∙ in');
          })

      -- striking spends or leaves as it is
      striking_adds_nothing : purse rank S ≤ purse rank E
      striking_adds_nothing =
          sum_le D.size (held rank S) (held rank E)
          (λ t lt. weight_le (S.used t) (E.used t) (suc (avail rank S t)) (suc (avail rank E t)) (λ h.
          let was = strike.used_was rank E lawful_E m may.target_inner may.not_start quiet t h in
          let le = count_le (D.end + 1) (ahead rank S t) (ahead rank E t) (λ k l x. ahead_unstruck t k was.1 x) in
          (was.0, omega arith)))

    after_spends : outcomes D m ≡ 1 → Lawful rank (after_shortcut D r m) × (purse rank (after_shortcut D r m) < purse rank D)
    after_spends one =
        ⊎_elim
        (λ yes. subst (λ F. Lawful rank F × (purse rank F < purse rank D)) (sym (cond-true (leads_to E m) E (struck E m) yes)) (lawful_E, shortcut_spends one))
        (λ no.
        let less = shortcut_spends one in
        let le = striking_adds_nothing no in
        subst (λ F. Lawful rank F × (purse rank F < purse rank D)) (sym (cond-false (leads_to E m) E (struck E m) no)) (lawful_S no, omega arith))
        (cases_Bool (leads_to E m))

  pub each_spends : (move : Move) → may_reduce D move ≡ true → Lawful rank (after D move) × (purse rank (after D move) < purse rank D)
  each_spends (merge i j) h = let may = mergeable rank D lawful i j h in (merged_lawful rank D lawful i j may, merge_spends i j may)
  each_spends (shortcut r m) h =
      let parts = and_parts (eqb (outcomes D m) 1) (may_shortcut D r m) h in
      after_spends r m (takeable rank D lawful r m parts.1) (eqb-true (outcomes D m) 1 parts.0)

module _ {V : Type 0} (a : Algebra V) where
  spent : (rank : ℕ → ℕ) {D D' : Diagram} {label label' : ℕ → V} {moves : List Move} → Lawful rank D → Moved a may_reduce D label moves D' label' → length moves ≤ purse rank D
  spent rank lawful rest = omega arith
  spent rank {D} lawful (move {m = m} may more) =
      let once = each_spends rank D lawful m may in
      let less = once.1 in
      let on = spent rank once.0 more in
      omega arith

  pub reductions_are_bounded : ReductionsAreBounded a
  reductions_are_bounded rank D label moves D' label' lawful moved =
      let all = spent rank lawful moved in
      let top = purse_bounded rank D lawful in
      omega arith
