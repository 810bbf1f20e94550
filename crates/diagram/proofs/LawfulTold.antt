-- A drawn diagram that passes the test is lawful.
use Rattle.std.proofs.Common.{◌≡◌, ℕ, ◌+◌, ◌^◌, ◌<◌, ◌≤◌, Bool, true, not, ◌&&◌, eqb, ltb, List, length, get_or, is_some, None, Option, sym, ap, ◌∙◌, ⊎_elim, arith, pow_pos, pow_mono}
use Rattle.std.proofs.lemmas.List.{get_or_past}
use Rattle.std.proofs.lemmas.Bool.{both_ways, cases_lt, and_parts, not-true, not-false, ltb-true, eqb-true, cond-true}
use Rattle.numbers.specs.Bits.{bit}
use Rattle.numbers.proofs.BelowLaws.{some_at, none_at}
use Rattle.numbers.proofs.BitLaws.{bit_above}
use Rattle.diagram.specs.Diagrams.{Diagram, Inner, Lawful}
use Rattle.diagram.specs.Drawn.{drawn}
use Rattle.diagram.specs.LawfulDrawn.{all_below, implies, ends_right, step_right, row_right, is_lawful, LawfulnessIsTold}
use Rattle.diagram.specs.Moves.{outcome_of}
use Rattle.diagram.specs.Runs.{first}
use Rattle.diagram.specs.Walks.{inner}
use Rattle.diagram.specs.declared.rows.Row.{Row}
use Rattle.diagram.proofs.Tests.{inner_tells, inner_from}

pub all_at : (n : ℕ) (p : ℕ → Bool) → all_below n p ≡ true → (k : ℕ) → k < n → p k ≡ true
all_at n p h k lt = not-false (p k) (none_at n (λ j. not (p j)) (not-true _ h) k lt)

pub implied : (a b : Bool) → implies a b ≡ true → a ≡ true → b ≡ true
implied a b h p = sym (cond-true a b true p) ∙ h

module _ (masks : List ℕ) (rows : List (Option Row)) (small : (n : ℕ) → get_or masks n 0 < 256) where
  abbrev D : Diagram
  D = drawn masks rows

  numbered : (n : ℕ) → D.stands n ≡ true → n ≤ D.end
  numbered n h =
      ⊎_elim
      (λ inside. omega arith)
      (λ beyond. absurd (both_ways (D.stands n) (ap (λ m. not (eqb m 0)) (get_or_past masks n 0 beyond)) h))
      (cases_lt n (length masks))

  placed : (r : ℕ) → D.used r ≡ true → r < D.size
  placed r h =
      ⊎_elim (λ inside. inside) (λ beyond. absurd (both_ways (D.used r) (ap is_some (get_or_past rows r None beyond)) h)) (cases_lt r (length rows))

  part_numbered : (n p : ℕ) → D.part n p ≡ true → n ≤ D.end
  part_numbered n p h =
      ⊎_elim
      (λ inside. omega arith)
      (λ beyond. absurd (both_ways (D.part n p) (ap (λ m. bit m p) (get_or_past masks n 0 beyond) ∙ bit_above 0 p (pow_pos p)) h))
      (cases_lt n (length masks))

  part_below : (n p : ℕ) → D.part n p ≡ true → p < 8
  part_below n p h =
      ⊎_elim
      (λ inside. inside)
      (λ beyond.
      let wide : 2 ^ 8 ≤ 2 ^ p = pow_mono beyond in
      absurd (both_ways (D.part n p) (bit_above (get_or masks n 0) p (let m = small n in omega arith)) h))
      (cases_lt p 8)

  module _ (rank : ℕ → ℕ) (h : is_lawful rank D ≡ true) where
    ends : (inner D 0 ≡ true) × ((D.stands D.end && all_below D.parties (λ p. D.part 0 p && D.part D.end p)) ≡ true)
    ends = and_parts (inner D 0) _ (and_parts (ends_right D) (all_below (D.end + 1) (step_right D) && all_below D.size (row_right rank D)) h).0

    full : (D.stands D.end ≡ true) × (all_below D.parties (λ p. D.part 0 p && D.part D.end p) ≡ true)
    full = and_parts (D.stands D.end) _ ends.1

    both_full : (p : ℕ) → p < D.parties → (D.part 0 p ≡ true) × (D.part D.end p ≡ true)
    both_full p lt = and_parts (D.part 0 p) (D.part D.end p) (all_at D.parties (λ q. D.part 0 q && D.part D.end q) full.1 p lt)

    tables : (all_below (D.end + 1) (step_right D) ≡ true) × (all_below D.size (row_right rank D) ≡ true)
    tables = and_parts (all_below (D.end + 1) (step_right D)) _ (and_parts (ends_right D) (all_below (D.end + 1) (step_right D) && all_below D.size (row_right rank D)) h).1

    step_parts : (n : ℕ) → n ≤ D.end → step_right D n ≡ true
    step_parts n le = all_at (D.end + 1) (step_right D) tables.0 n (omega arith)

    row_parts : (r : ℕ) → D.used r ≡ true
        → (inner D (D.step r) ≡ true) × (all_below D.parties (λ p. implies (D.part (D.step r) p) (D.stands (D.to r p) && (D.part (D.to r p) p && ltb (rank (D.step r)) (rank (D.to r p))))) ≡ true)
    row_parts r taken = and_parts (inner D (D.step r)) _ (implied (D.used r) _ (all_at D.size (row_right rank D) tables.1 r (placed r taken)) taken)

    peopled : (n : ℕ) → D.stands n ≡ true → (p : ℕ) × (D.part n p ≡ true)
    peopled n st =
        let people = implied (D.stands n) _ (and_parts (implies (D.stands n) (not (all_below D.parties (λ p. not (D.part n p))))) _ (step_parts n (numbered n st))).0 st in
        let found = some_at D.parties (λ p. not (not (D.part n p))) (not-false _ (not-true _ people)) in
        (found.0, not-false _ (not-true _ found.2))

    known : (n p : ℕ) → D.part n p ≡ true → p < D.parties
    known n p in' =
        let rest = (and_parts (implies (D.stands n) (not (all_below D.parties (λ q. not (D.part n q))))) _ (step_parts n (part_numbered n p in'))).1 in
        let few = (and_parts (all_below 8 (λ q. implies (D.part n q) (ltb q D.parties))) _ rest).0 in
        ltb-true p D.parties (implied (D.part n p) _ (all_at 8 (λ q. implies (D.part n q) (ltb q D.parties)) few p (part_below n p in')) in')

    goal : (r p : ℕ) → D.used r ≡ true → D.part (D.step r) p ≡ true → (D.stands (D.to r p) && (D.part (D.to r p) p && ltb (rank (D.step r)) (rank (D.to r p)))) ≡ true
    goal r p taken in' =
        implied (D.part (D.step r) p) _
        (all_at D.parties (λ q. implies (D.part (D.step r) q) (D.stands (D.to r q) && (D.part (D.to r q) q && ltb (rank (D.step r)) (rank (D.to r q))))) (row_parts r taken).1 p (known (D.step r) p in'))
        in'

    goal_parts : (r p : ℕ) → D.used r ≡ true → D.part (D.step r) p ≡ true → (D.part (D.to r p) p ≡ true) × (ltb (rank (D.step r)) (rank (D.to r p)) ≡ true)
    goal_parts r p taken in' = and_parts (D.part (D.to r p) p) _ (and_parts (D.stands (D.to r p)) _ (goal r p taken in')).1

    led : (n : ℕ) → Inner D n → (r : ℕ) × (D.used r ≡ true) × (D.step r ≡ n)
    led n in' =
        let rest = (and_parts (implies (D.stands n) (not (all_below D.parties (λ q. not (D.part n q))))) _ (step_parts n (numbered n in'.0))).1 in
        let last = (and_parts (all_below 8 (λ q. implies (D.part n q) (ltb q D.parties))) _ rest).1 in
        let found = some_at D.size (outcome_of D n) (implied (inner D n) _ last (inner_from D first n in')) in
        let parts = and_parts (D.used found.0) (eqb (D.step found.0) n) found.2 in
        (found.0, parts.0, eqb-true _ n parts.1)

    pub lawful_drawn : Lawful rank D
    lawful_drawn =
        record {
          start_inner = inner_tells D first 0 ends.0;
          start_full = λ p lt. (both_full p lt).0;
          end_stands = full.0;
          end_full = λ p lt. (both_full p lt).1;
          step_numbered = numbered;
          step_peopled = peopled;
          part_known = known;
          row_placed = placed;
          row_inner = λ r taken. inner_tells D first (D.step r) (row_parts r taken).0;
          row_stands = λ r p taken in'. (and_parts (D.stands (D.to r p)) _ (goal r p taken in')).0;
          row_has = λ r p taken in'. (goal_parts r p taken in').0;
          row_rises = λ r p taken in'. ltb-true _ _ (goal_parts r p taken in').1;
          step_led = led;
        }

pub lawfulness_is_told : LawfulnessIsTold
lawfulness_is_told rank masks rows small h = lawful_drawn masks rows small rank h
