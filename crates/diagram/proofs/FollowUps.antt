-- The follow-ups of a shortcut: one for each outcome of the target.
use Rattle.std.proofs.Common.{◌≡◌, ℕ, zero, suc, ◌+◌, ◌<◌, ◌≤◌, Bool, true, false, cond, not, ◌&&◌, eqb, ltb, sym, refl, ap, ◌∙◌, subst, ⊎_elim, arith}
use mathlib.Core.Path.{fun_ext}
use Rattle.std.proofs.lemmas.Bool.{both_ways, cases_Bool, cases_lt, and_parts, and_from, and_left, and_right, or_left, or_right, or_from, or_cases, not-true, not-false, eqb-true, eqb-false, eq-eqb, ne_eqb, lt-ltb, ltb-true, leb-true, cond-true, cond-false}
use Rattle.numbers.specs.Below.{count_below, first_below}
use Rattle.numbers.proofs.BelowLaws.{first_tells, none_at, count_lt_count, count_tells, count_at}
use Rattle.diagram.specs.Diagrams.{Diagram, Inner, Lawful}
use Rattle.diagram.specs.Moves.{outcome_of, outcomes, free, is_target, enables, has_room, may_shortcut, turn, takes_follow_up, outcome_at, followed, with_follow_ups}
use Rattle.diagram.specs.Runs.{Marking, first, take_row}
use Rattle.diagram.specs.Walks.{inner}
use Rattle.diagram.proofs.Taking.{moved, stayed}
use Rattle.diagram.proofs.Tests.{second_fails, inner_tells}

-- what a shortcut that may be taken asks
pub record Takeable (D : Diagram) (r m : ℕ) : Type 0 where
  pub row_used : D.used r ≡ true
  pub target_inner : Inner D m
  pub not_start : m ≡ 0 → ⊥
  pub inside : (p : ℕ) → D.part m p ≡ true → D.part (D.step r) p ≡ true
  pub sent : (p : ℕ) → D.part m p ≡ true → D.to r p ≡ m
  pub room : outcomes D m ≤ count_below D.size (free D) + 1

module _ (rank : ℕ → ℕ) (D : Diagram) (lawful : Lawful rank D) (r m : ℕ) where
  pub takeable : may_shortcut D r m ≡ true → Takeable D r m
  takeable h =
      let a = and_parts (D.used r) (is_target D m && (enables D r m && has_room D m)) h in
      let b = and_parts (is_target D m) (enables D r m && has_room D m) a.1 in
      let c = and_parts (enables D r m) (has_room D m) b.1 in
      let t = and_parts (inner D m) (not (eqb m 0)) b.0 in
      record {
        row_used = a.0;
        target_inner = inner_tells D first m t.0;
        not_start = eqb-false m 0 (not-true _ t.1);
        inside = λ p in'. (both c.0 p in').0;
        sent = λ p in'. (both c.0 p in').1;
        room = leb-true _ _ c.1;
      }
    where
      both : enables D r m ≡ true → (p : ℕ) → D.part m p ≡ true → (D.part (D.step r) p ≡ true) × (D.to r p ≡ m)
      both e p in' =
          let each = none_at D.parties (λ q. D.part m q && not (D.part (D.step r) q && eqb (D.to r q) m)) (not-true _ e) p (lawful.part_known m p in') in
          let parts = and_parts (D.part (D.step r) p) (eqb (D.to r p) m) (not-false _ (second_fails (D.part m p) _ in' each)) in
          (parts.0, eqb-true _ m parts.1)

  module _ (may : Takeable D r m) where
    abbrev pub D' : Diagram
    D' = with_follow_ups D r m

    abbrev pub takes : ℕ → Bool
    takes = takes_follow_up D r m

    some_outcome : 0 < outcomes D m
    some_outcome =
        let led = lawful.step_led m may.target_inner in
        let up = count_lt_count D.size (outcome_of D m) led.0 (lawful.row_placed led.0 led.1) (and_from (D.used led.0) (eqb (D.step led.0) m) led.1 (eq-eqb _ m led.2)) in
        omega arith

    -- the i-th outcome is an outcome with i before it
    outcome_there : (i : ℕ) → i < outcomes D m → (outcome_of D m (outcome_at D m i) ≡ true) × (count_below (outcome_at D m i) (outcome_of D m) ≡ i)
    outcome_there i lt =
        let test : ℕ → Bool = λ q. outcome_of D m q && eqb (count_below q (outcome_of D m)) i in
        let found = count_at D.size (outcome_of D m) i lt in
        let passes : test found.0 ≡ true = and_from (outcome_of D m found.0) (eqb (count_below found.0 (outcome_of D m)) i) found.2 (eq-eqb _ i found.3) in
        let least = first_tells D.size test in
        let low : outcome_at D m i < D.size =
        ⊎_elim (λ l. l) (λ ge. absurd (both_ways (test found.0) (least.before found.0 (let l = found.1 in omega arith)) passes)) (cases_lt (first_below D.size test) D.size) in
        let parts = and_parts (outcome_of D m (outcome_at D m i)) (eqb (count_below (outcome_at D m i) (outcome_of D m)) i) (least.passes low) in
        (parts.0, eqb-true _ i parts.1)

    turn_r : turn D r r ≡ 0
    turn_r = cond-true (eqb r r) 0 (1 + count_below r (free D)) (eq-eqb r r refl)

    pub turn_below : (t : ℕ) → takes t ≡ true → turn D r t < outcomes D m
    turn_below t h =
        ⊎_elim
        (λ same. let zeroth : turn D r t ≡ 0 = cond-true (eqb t r) 0 (1 + count_below t (free D)) same in let some = some_outcome in omega arith)
        (λ other. ltb-true (turn D r t) (outcomes D m) (and_parts (ltb t D.size && free D t) (ltb (turn D r t) (outcomes D m)) other).1)
        (or_cases (eqb t r) ((ltb t D.size && free D t) && ltb (turn D r t) (outcomes D m)) h)

    -- each follow-up is by an outcome of the target
    pub follows : (t : ℕ) → takes t ≡ true → (D.used (followed D r m t) ≡ true) × (D.step (followed D r m t) ≡ m)
    follows t h =
        let there = (outcome_there (turn D r t) (turn_below t h)).0 in
        let parts = and_parts (D.used (followed D r m t)) (eqb (D.step (followed D r m t)) m) there in
        (parts.0, eqb-true _ m parts.1)

    pub takes_r : takes r ≡ true
    takes_r = or_left (eqb r r) ((ltb r D.size && free D r) && ltb (turn D r r) (outcomes D m)) (eq-eqb r r refl)

    -- and each outcome of the target has its follow-up
    pub place : (q : ℕ) → D.used q ≡ true → D.step q ≡ m → (t : ℕ) × (takes t ≡ true) × (followed D r m t ≡ q)
    place q use' of' = go' (count_below q (outcome_of D m)) refl
      where
        is_outcome : outcome_of D m q ≡ true
        is_outcome = and_from (D.used q) (eqb (D.step q) m) use' (eq-eqb _ m of')

        below : count_below q (outcome_of D m) < outcomes D m
        below = count_lt_count D.size (outcome_of D m) q (lawful.row_placed q use') is_outcome

        back : (t : ℕ) → turn D r t ≡ count_below q (outcome_of D m) → followed D r m t ≡ q
        back t e =
            let there = outcome_there (turn D r t) (subst (λ i. i < outcomes D m) (sym e) below) in
            count_tells (outcome_of D m) (followed D r m t) q there.0 is_outcome (there.1 ∙ e)

        go' : (i : ℕ) → count_below q (outcome_of D m) ≡ i → (t : ℕ) × (takes t ≡ true) × (followed D r m t ≡ q)
        go' zero e = (r, takes_r, back r (turn_r ∙ sym e))
        go' (suc i) e =
            let bound = may.room in
            let found = count_at D.size (free D) i (let b = below in omega arith) in
            let t = found.0 in
            let ne : t ≡ r → ⊥ = λ same. both_ways (free D t) (ap (λ k. not (D.used k)) same ∙ ap not may.row_used) found.2 in
            let counted : turn D r t ≡ suc i = cond-false (eqb t r) 0 (1 + count_below t (free D)) (ne_eqb t r ne) ∙ (let c = found.3 in omega arith) in (
              t,
              or_right (eqb t r) _ (and_from (ltb t D.size && free D t) (ltb (turn D r t) (outcomes D m))
                  (and_from (ltb t D.size) (free D t) (lt-ltb t D.size found.1) found.2)
                  (lt-ltb _ _ (let b = below in omega arith))),
              back t (counted ∙ sym e),
            )

    -- another row in use takes none
    pub takes_not : (t : ℕ) → D.used t ≡ true → (t ≡ r → ⊥) → takes t ≡ false
    takes_not t h ne =
        or_from (eqb t r) ((ltb t D.size && free D t) && ltb (turn D r t) (outcomes D m)) (ne_eqb t r ne)
        (and_left (ltb t D.size && free D t) (ltb (turn D r t) (outcomes D m)) (and_right (ltb t D.size) (free D t) (ap not h)))

    pub was_used : (t : ℕ) → takes t ≡ false → D'.used t ≡ true → D.used t ≡ true
    was_used t none h = ⊎_elim (λ u. u) (λ y. absurd (both_ways (takes t) none y)) (or_cases (D.used t) (takes t) h)

    pub step_new : (t : ℕ) → takes t ≡ true → D'.step t ≡ D.step r
    step_new t h = cond-true (takes t) (D.step r) (D.step t) h

    pub step_old : (t : ℕ) → takes t ≡ false → D'.step t ≡ D.step t
    step_old t h = cond-false (takes t) (D.step r) (D.step t) h

    pub to_new : (t p : ℕ) → takes t ≡ true → D'.to t p ≡ cond (D.part m p) (D.to (followed D r m t) p) (D.to r p)
    to_new t p h = cond-true (takes t) _ _ h

    pub to_old : (t p : ℕ) → takes t ≡ false → D'.to t p ≡ D.to t p
    to_old t p h = cond-false (takes t) _ _ h

    -- taking a follow-up is taking r and then the outcome of the target
    pub taking_new : (M : Marking) (t : ℕ) → takes t ≡ true → take_row D' M t ≡ take_row D (take_row D M r) (followed D r m t)
    taking_new M t h = fun_ext (λ p.
        let q = followed D r m t in
        let of' = (follows t h).1 in
        (λ i. cond (D.part (step_new t h i) p) (to_new t p h i) (M p))
        ∙ ⊎_elim
        (λ in_m.
        cond-true (D.part (D.step r) p) _ (M p) (may.inside p in_m)
        ∙ cond-true (D.part m p) _ _ in_m
        ∙ sym (moved D (take_row D M r) q p (ap (λ n. D.part n p) of' ∙ in_m)))
        (λ out_m.
        ap (λ x. cond (D.part (D.step r) p) x (M p)) (cond-false (D.part m p) (D.to q p) (D.to r p) out_m)
        ∙ sym (stayed D (take_row D M r) q p (ap (λ n. D.part n p) of' ∙ out_m)))
        (cases_Bool (D.part m p)))

    pub taking_old : (M : Marking) (t : ℕ) → takes t ≡ false → take_row D' M t ≡ take_row D M t
    taking_old M t h = fun_ext (λ p. λ i. cond (D.part (step_old t h i) p) (to_old t p h i) (M p))
