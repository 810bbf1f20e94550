-- Striking a step to which no row leads changes no run from the first marking.
use Rattle.std.proofs.Common.{◌≡◌, ℕ, ◌<◌, Bool, true, false, cond, not, ◌&&◌, eqb, List, sym, refl, ap, ◌∙◌, subst, ⊎_elim}
use mathlib.Core.Path.{fun_ext}
use Rattle.std.proofs.lemmas.Bool.{cases_Bool, and_parts, and_from, not-true, eqb-false, ne_eqb}
use Rattle.numbers.specs.Below.{some_below}
use Rattle.numbers.proofs.BelowLaws.{none_at}
use Rattle.analysis.specs.Algebra.{Algebra}
use Rattle.diagram.specs.Diagrams.{Diagram, Inner, Lawful}
use Rattle.diagram.specs.Meaning.{LabelsBelong}
use Rattle.diagram.specs.Moves.{leads_to, struck}
use Rattle.diagram.specs.Runs.{Marking, first, Enabled, Can, take_row, Run, stop, go}
use Rattle.diagram.proofs.Taking.{moved, stayed}
use Rattle.diagram.proofs.Tests.{second_fails}

and_yes : (x b : Bool) → b ≡ true → (x && b) ≡ x
and_yes true b h = h
and_yes false b h = refl

module _ (rank : ℕ → ℕ) (E : Diagram) (lawful : Lawful rank E) (m : ℕ) (inner : Inner E m) (not_start : m ≡ 0 → ⊥) (quiet : leads_to E m ≡ false) where
  abbrev S : Diagram
  S = struck E m

  -- no row leads a party to m
  leads_not : (t p : ℕ) → E.used t ≡ true → E.part (E.step t) p ≡ true → E.to t p ≡ m → ⊥
  leads_not t p use' in' goes =
      let rows = none_at E.size (λ k. E.used k && some_below E.parties (λ q. E.part (E.step k) q && eqb (E.to k q) m)) quiet t (lawful.row_placed t use') in
      let none = second_fails (E.used t) _ use' rows in
      let here = none_at E.parties (λ q. E.part (E.step t) q && eqb (E.to t q) m) none p (lawful.part_known (E.step t) p in') in
      eqb-false (E.to t p) m (second_fails (E.part (E.step t) p) _ in' here) goes

  pub part_kept : (n p : ℕ) → (n ≡ m → ⊥) → S.part n p ≡ E.part n p
  part_kept n p ne = and_yes (E.part n p) (not (eqb n m)) (ap not (ne_eqb n m ne))

  pub inner_was : (n : ℕ) → Inner S n → Inner E n × (n ≡ m → ⊥)
  inner_was n h = let parts = and_parts (E.stands n) (not (eqb n m)) h.0 in ((parts.0, h.1), eqb-false n m (not-true _ parts.1))

  pub inner_still : (n : ℕ) → Inner E n → (n ≡ m → ⊥) → Inner S n
  inner_still n h ne = (and_from (E.stands n) (not (eqb n m)) h.0 (ap not (ne_eqb n m ne)), h.1)

  pub used_was : (t : ℕ) → S.used t ≡ true → (E.used t ≡ true) × (E.step t ≡ m → ⊥)
  used_was t h = let parts = and_parts (E.used t) (not (eqb (E.step t) m)) h in (parts.0, eqb-false _ m (not-true _ parts.1))

  used_still : (t : ℕ) → E.used t ≡ true → (E.step t ≡ m → ⊥) → S.used t ≡ true
  used_still t h ne = and_from (E.used t) (not (eqb (E.step t) m)) h (ap not (ne_eqb _ m ne))

  pub enabled_was : (M : Marking) (n : ℕ) → Enabled S M n → Enabled E M n
  enabled_was M n h = let was = inner_was n h.0 in (was.0, λ p in'. h.1 p (part_kept n p was.1 ∙ in'))

  pub enabled_still : (M : Marking) (n : ℕ) → (n ≡ m → ⊥) → Enabled E M n → Enabled S M n
  enabled_still M n ne h = (inner_still n h.0 ne, λ p in'. h.1 p (sym (part_kept n p ne) ∙ in'))

  same_taking : (M : Marking) (t : ℕ) → (E.step t ≡ m → ⊥) → take_row S M t ≡ take_row E M t
  same_taking M t ne = fun_ext (λ p. ap (λ b. cond b (E.to t p) (M p)) (part_kept (E.step t) p ne))

  pub back : {M X : Marking} {rs : List ℕ} → Run S M rs X → Run E M rs X
  back stop = stop
  back {M} {X} (go {r = t} {rs = rs} can rest) =
      let was = used_was t can.0 in
      go (was.0, enabled_was M (E.step t) can.1) (subst (λ N. Run E N rs X) (same_taking M t was.1) (back rest))

  -- nobody waits at m
  abbrev pub Avoids : Marking → Type 0
  Avoids M = (p : ℕ) → p < E.parties → M p ≡ m → ⊥

  pub first_avoids : Avoids first
  first_avoids p lt e = not_start (sym e)

  avoids_on : (M : Marking) (t : ℕ) → Avoids M → Can E M t → Avoids (take_row E M t)
  avoids_on M t avoids can p lt e =
      ⊎_elim
      (λ in'. leads_not t p can.0 in' (sym (moved E M t p in') ∙ e))
      (λ out. avoids p lt (sym (stayed E M t p out) ∙ e))
      (cases_Bool (E.part (E.step t) p))

  pub run_avoids : {M X : Marking} {rs : List ℕ} → Avoids M → Run E M rs X → Avoids X
  run_avoids avoids stop = avoids
  run_avoids {M} avoids (go {r = t} can rest) = run_avoids (avoids_on M t avoids can) rest

  -- an enabled step is not m where nobody waits at m
  fired_not : (M : Marking) (n : ℕ) → Avoids M → Enabled E M n → n ≡ m → ⊥
  fired_not M n avoids en same =
      let someone = lawful.step_peopled n en.0.0 in
      avoids someone.0 (lawful.part_known n someone.0 someone.1) (en.1 someone.0 someone.1 ∙ same)

  pub forth : {M X : Marking} {rs : List ℕ} → Avoids M → Run E M rs X → Run S M rs X
  forth avoids stop = stop
  forth {M} {X} avoids (go {r = t} {rs = rs} can rest) =
      let ne = fired_not M (E.step t) avoids can.1 in
      go (used_still t can.0 ne, enabled_still M (E.step t) ne can.1) (subst (λ N. Run S N rs X) (sym (same_taking M t ne)) (forth (avoids_on M t avoids can) rest))

  pub struck_lawful : Lawful rank S
  struck_lawful =
      record {
        start_inner = inner_still 0 lawful.start_inner (λ e. not_start (sym e));
        start_full = λ p lt. part_kept 0 p (λ e. not_start (sym e)) ∙ lawful.start_full p lt;
        end_stands = and_from (E.stands E.end) (not (eqb E.end m)) lawful.end_stands (ap not (ne_eqb E.end m (λ e. inner.1 (sym e))));
        end_full = λ p lt. part_kept E.end p (λ e. inner.1 (sym e)) ∙ lawful.end_full p lt;
        step_numbered = λ n h. lawful.step_numbered n (and_parts (E.stands n) (not (eqb n m)) h).0;
        step_peopled = λ n h.
            let parts = and_parts (E.stands n) (not (eqb n m)) h in
            let someone = lawful.step_peopled n parts.0 in
            (someone.0, part_kept n someone.0 (eqb-false n m (not-true _ parts.1)) ∙ someone.1);
        part_known = λ n p h. lawful.part_known n p (and_parts (E.part n p) (not (eqb n m)) h).0;
        row_placed = λ t h. lawful.row_placed t (used_was t h).0;
        row_inner = λ t h. let was = used_was t h in inner_still (E.step t) (lawful.row_inner t was.0) was.1;
        row_stands = λ t p h in'.
            let was = used_was t h in
            let in_e = sym (part_kept (E.step t) p was.1) ∙ in' in
            and_from (E.stands (E.to t p)) (not (eqb (E.to t p) m)) (lawful.row_stands t p was.0 in_e) (ap not (ne_eqb _ m (leads_not t p was.0 in_e)));
        row_has = λ t p h in'.
            let was = used_was t h in
            let in_e = sym (part_kept (E.step t) p was.1) ∙ in' in
            part_kept (E.to t p) p (leads_not t p was.0 in_e) ∙ lawful.row_has t p was.0 in_e;
        row_rises = λ t p h in'. let was = used_was t h in lawful.row_rises t p was.0 (sym (part_kept (E.step t) p was.1) ∙ in');
        step_led = λ n in'.
            let was = inner_was n in' in
            let led = lawful.step_led n was.0 in
            (led.0, used_still led.0 led.1 (λ e. was.1 (sym led.2 ∙ e)), led.2);
      }

  pub struck_labels : {V : Type 0} (a : Algebra V) (label : ℕ → V) → LabelsBelong a E label → LabelsBelong a S label
  struck_labels a label belong t h =
      let was = used_was t h in
      ap (λ P. a.belongs (label t) P) (fun_ext (λ p. part_kept (E.step t) p was.1)) ∙ belong t was.0
