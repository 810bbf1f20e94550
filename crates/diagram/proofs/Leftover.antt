-- What it tells that nothing is left to take.
use Rattle.std.proofs.Common.{◌≡◌, ℕ, ◌+◌, ◌<◌, Bool, true, false, cond, not, ◌&&◌, eqb, ltb, Some, None, Option, sym, refl, ap, ◌∙◌, ⊎_elim, arith}
use Rattle.std.proofs.lemmas.Bool.{both_ways, cases_Bool, cases_lt, cases_order, and_parts, and_from, eqb-true, eq-eqb, ne_eqb, lt-ltb, le-leb}
use Rattle.numbers.specs.Below.{count_below, some_below, first_below}
use Rattle.numbers.proofs.BelowLaws.{first_tells, some_found, some_none, count_lt_count, count_at}
use Rattle.diagram.specs.Diagrams.{Diagram, Inner, Lawful}
use Rattle.diagram.specs.Moves.{Move, same_goals, may_merge, outcome_of, outcomes, free, is_target, enables, has_room, may_shortcut, merges_with, shortcuts_into, first_merging, first_shortcutting, NothingLeft}
use Rattle.diagram.specs.Runs.{first}
use Rattle.diagram.specs.Walks.{inner}
use Rattle.diagram.proofs.Tests.{inner_from}
use Rattle.diagram.proofs.Twins.{Two, NoMerge, NoShortcut}

is_some : Option Move → Bool
is_some (Some m) = true
is_some None = false

-- where a number passes, the search finds one
pub first_found : (n : ℕ) (p : ℕ → Bool) (k : ℕ) → k < n → p k ≡ true → ltb (first_below n p) n ≡ true
first_found n p k lt h =
    ⊎_elim
    (λ low. lt-ltb (first_below n p) n low)
    (λ ge. absurd (both_ways (p k) ((first_tells n p).before k (omega arith)) h))
    (cases_lt (first_below n p) n)

-- two choices, each with a move, are both passed over
not_some : (x y : Bool) (m k : Move) → cond x (Some m) (cond y (Some k) None) ≡ None → (x ≡ false) × (y ≡ false)
unfolding is_some
not_some true y m k h = absurd (both_ways true (ap is_some h) refl)
not_some false true m k h = absurd (both_ways true (ap is_some h) refl)
not_some false false m k h = (refl, refl)

module _ (rank : ℕ → ℕ) (D : Diagram) (lawful : Lawful rank D) (nothing : NothingLeft D) where
  passed_over : (ltb (first_merging D) D.size ≡ false) × (ltb (first_shortcutting D) D.size ≡ false)
  passed_over = not_some (ltb (first_merging D) D.size) (ltb (first_shortcutting D) D.size) _ _ nothing

  no_merge_up : (i j : ℕ) → i < j → may_merge D i j ≡ true → ⊥
  no_merge_up i j lt may =
      let uses = and_parts (D.used i) (D.used j) (and_parts (D.used i && D.used j) _ may).0 in
      let with_j = some_found D.size (merges_with D i) j (lawful.row_placed j uses.1) (and_from (ltb i j) (may_merge D i j) (lt-ltb i j lt) may) in
      both_ways (ltb (first_merging D) D.size) passed_over.0 (first_found D.size (λ t. some_below D.size (merges_with D t)) i (lawful.row_placed i uses.0) with_j)

  merge_from : (i j : ℕ) → D.used i ≡ true → D.used j ≡ true → (i ≡ j → ⊥) → D.step i ≡ D.step j → ((p : ℕ) → D.part (D.step i) p ≡ true → D.to i p ≡ D.to j p) → may_merge D i j ≡ true
  merge_from i j ui uj ne one goals =
      and_from (D.used i && D.used j) (not (eqb i j) && (eqb (D.step i) (D.step j) && same_goals D i j))
      (and_from (D.used i) (D.used j) ui uj)
      (and_from (not (eqb i j)) (eqb (D.step i) (D.step j) && same_goals D i j) (ap not (ne_eqb i j ne))
      (and_from (eqb (D.step i) (D.step j)) (same_goals D i j) (eq-eqb _ _ one)
      (ap not (some_none D.parties (λ p. D.part (D.step i) p && not (eqb (D.to i p) (D.to j p))) (λ p lt.
      ⊎_elim
      (λ in'. ap (λ b. b && not (eqb (D.to i p) (D.to j p))) in' ∙ ap not (eq-eqb _ _ (goals p in')))
      (λ out. ap (λ b. b && not (eqb (D.to i p) (D.to j p))) out)
      (cases_Bool (D.part (D.step i) p)))))))

  pub no_merge : NoMerge D
  no_merge i j ui uj ne one goals =
      ⊎_elim
      (λ same. ne same)
      (⊎_elim
      (λ lt. no_merge_up i j lt (merge_from i j ui uj ne one goals))
      (λ gt. no_merge_up j i gt (merge_from j i uj ui (λ e. ne (sym e)) (sym one) (λ p in'. sym (goals p (ap (λ k. D.part k p) one ∙ in'))))))
      (cases_order i j)

  module _ (r m : ℕ) (use' : D.used r ≡ true) (target : Inner D m) (not_start : m ≡ 0 → ⊥)
      (inside : (p : ℕ) → D.part m p ≡ true → D.part (D.step r) p ≡ true) (sent : (p : ℕ) → D.part m p ≡ true → D.to r p ≡ m) where
    enables_from : enables D r m ≡ true
    enables_from =
        ap not (some_none D.parties (λ p. D.part m p && not (D.part (D.step r) p && eqb (D.to r p) m)) (λ p lt.
        ⊎_elim
        (λ in'. ap (λ b. b && not (D.part (D.step r) p && eqb (D.to r p) m)) in' ∙ ap not (and_from (D.part (D.step r) p) (eqb (D.to r p) m) (inside p in') (eq-eqb _ m (sent p in'))))
        (λ out. ap (λ b. b && not (D.part (D.step r) p && eqb (D.to r p) m)) out)
        (cases_Bool (D.part m p))))

    not_one : outcomes D m ≡ 1 → ⊥
    not_one one =
        let may : may_shortcut D r m ≡ true =
        and_from (D.used r) (is_target D m && (enables D r m && has_room D m)) use'
        (and_from (is_target D m) (enables D r m && has_room D m) (and_from (inner D m) (not (eqb m 0)) (inner_from D first m target) (ap not (ne_eqb m 0 not_start)))
        (and_from (enables D r m) (has_room D m) enables_from (le-leb (outcomes D m) (count_below D.size (free D) + 1) (omega arith)))) in
        let low = lawful.step_numbered m target.0 in
        let some = some_found (D.end + 1) (shortcuts_into D r) m (omega arith) (and_from (eqb (outcomes D m) 1) (may_shortcut D r m) (eq-eqb _ 1 one) may) in
        both_ways (ltb (first_shortcutting D) D.size) passed_over.1 (first_found D.size (λ t. some_below (D.end + 1) (shortcuts_into D t)) r (lawful.row_placed r use') some)

    two_outcomes : Two D m
    two_outcomes =
        let led = lawful.step_led m target in
        let one = count_lt_count D.size (outcome_of D m) led.0 (lawful.row_placed led.0 led.1) (and_from (D.used led.0) (eqb (D.step led.0) m) led.1 (eq-eqb _ m led.2)) in
        let two : 1 < outcomes D m = ⊎_elim (λ same. absurd (not_one same)) (⊎_elim (λ less. absurd (omega arith)) (λ more. more)) (cases_order (outcomes D m) 1) in
        let x = count_at D.size (outcome_of D m) 0 (omega arith) in
        let y = count_at D.size (outcome_of D m) 1 two in
        let of_x = and_parts (D.used x.0) (eqb (D.step x.0) m) x.2 in
        let of_y = and_parts (D.used y.0) (eqb (D.step y.0) m) y.2 in
        record {
          one = x.0;
          other = y.0;
          one_used = of_x.0;
          other_used = of_y.0;
          one_of = eqb-true _ m of_x.1;
          other_of = eqb-true _ m of_y.1;
          differ = λ same.
              let cx = x.3 in
              let cy = y.3 in
              let e : count_below x.0 (outcome_of D m) ≡ count_below y.0 (outcome_of D m) = ap (λ k. count_below k (outcome_of D m)) same in
              absurd (omega arith);
        }

  pub no_shortcut : NoShortcut D
  no_shortcut r m use' target not_start inside sent = two_outcomes r m use' target not_start inside sent
