-- What stands is lawful where no step and no row is wrong, whatever it was read from.
use Rattle.std.proofs.Common.{◌≡◌, ℕ, ◌+◌, ◌<◌, ◌≤◌, Bool, true, false, not, ◌&&◌, ltb, List, length, get_or, None, Option, arith}
use Rattle.std.proofs.lemmas.List.{get_or_past}
use Rattle.std.proofs.lemmas.Bool.{cases_lt, ltb-true}
use Rattle.std.proofs.lemmas.Bool.Decides.{nat_tests}
use Rattle.numbers.proofs.BelowLaws.{some_at, none_at}
use Rattle.diagram.specs.Diagrams.{Diagram, Inner, Lawful}
use Rattle.diagram.specs.Worked.{number}
use Rattle.diagram.specs.Moves.{outcome_of}
use Rattle.diagram.specs.declared.rows.Row.{Row}
use Rattle.sheet.specs.DiagramLayer.{lacks_one, first_parties, wrong_parties, wrong_goal, wrong_goals, no_outcome}
use Rattle.sheet.specs.Standing.{Standing, diagram_in}
use Rattle.sheet.proofs.Masks.{has_bit, bit_nonzero, bit_below, first_has, first_known}

-- where none is lacking, the second set has every party below 8 of the first
lacks_none : (P Q : ℕ → Bool) → lacks_one P Q ≡ false → (p : ℕ) → p < 8 → P p ≡ true → Q p ≡ true
lacks_none P Q none p lt in' = grind (arith, none_at 8 (λ q. P q && not (Q q)) none p)

module _ (s : Standing) (small : (n : ℕ) → get_or s.masks n 0 < 256) where
  abbrev masks : List ℕ
  masks = s.masks

  abbrev rows : List (Option Row)
  rows = s.rows

  abbrev D : Diagram
  D = diagram_in s

  -- a step with a party stands
  peopled_stands : (n p : ℕ) → D.part n p ≡ true → D.stands n ≡ true
  peopled_stands n p in' = grind (arith, nat_tests, bit_nonzero (get_or masks n 0) p)

  -- a step that stands is one of the list
  stands_inside : (n : ℕ) → D.stands n ≡ true → n < length masks
  stands_inside n stands =
      grind (arith, nat_tests, get_or_past masks n 0, cases_lt n (length masks))

  -- a row in use is one of the table
  used_inside : (r : ℕ) → D.used r ≡ true → r < length rows
  used_inside r used =
      grind (arith, get_or_past rows r None, cases_lt r (length rows))

  -- a step that stands has a party
  peopled : (n : ℕ) → D.stands n ≡ true → (p : ℕ) × (D.part n p ≡ true)
  peopled n stands = has_bit (get_or masks n 0) (small n) (grind (arith, nat_tests))

  module _ (two : 2 ≤ length masks)
      (nonzero : (n : ℕ) → n < length masks → get_or masks n 0 ≡ 0 → ⊥)
      (steps_right : (n : ℕ) → n < length masks → wrong_parties s n ≡ false)
      (rows_inner : (r : ℕ) → D.used r ≡ true → D.step r + 1 < length masks)
      (rows_right : (r : ℕ) → D.used r ≡ true → wrong_goals masks (get_or rows r None) ≡ false)
      (steps_led : (n : ℕ) → n < D.end → no_outcome s n ≡ false) where
    inside_stands : (n : ℕ) → n < length masks → D.stands n ≡ true
    inside_stands n lt = grind (arith, nat_tests, nonzero n)

    start_first : first_parties (get_or masks 0 0) ≡ true
    start_first = grind (arith, nat_tests, steps_right 0)

    -- the start has every party of a step
    start_has : (n p : ℕ) → D.part n p ≡ true → D.part 0 p ≡ true
    start_has n p in' =
        let lt = stands_inside n (peopled_stands n p in') in
        lacks_none (D.part n) (D.part 0) (grind (arith, steps_right n lt)) p (bit_below (get_or masks n 0) p (small n) in') in'

    start_full : (p : ℕ) → p < D.parties → D.part 0 p ≡ true
    start_full p lt = first_has (get_or masks 0 0) (small 0) start_first p lt

    known : (n p : ℕ) → D.part n p ≡ true → p < D.parties
    known n p in' = first_known (get_or masks 0 0) (small 0) start_first p (start_has n p in')

    end_full : (p : ℕ) → p < D.parties → D.part D.end p ≡ true
    end_full p lt =
        let in' = start_full p lt in
        lacks_none (D.part 0) (D.part D.end) (grind (arith, nat_tests, steps_right D.end)) p (bit_below (get_or masks 0 0) p (small 0) in') in'

    -- a row sends a party of its step to a greater step that has it
    goal : (r p : ℕ) → D.used r ≡ true → D.part (D.step r) p ≡ true → (ltb (D.step r) (D.to r p) ≡ true) × (D.part (D.to r p) p ≡ true)
    goal r p used in' =
        let right = none_at 8 (wrong_goal masks (get_or rows r None)) (grind (arith, rows_right r used)) p (bit_below (get_or masks (D.step r) 0) p (small (D.step r)) in') in
        (grind arith, grind arith)

    -- a step before the end has a row
    led : (n : ℕ) → Inner D n → (r : ℕ) × (D.used r ≡ true) × (D.step r ≡ n)
    led n inner =
        let lt = stands_inside n inner.0 in
        let before : n < D.end = grind (arith, inner.1) in
        let found = some_at D.size (outcome_of D n) (grind (arith, steps_led n before)) in
        (found.0, grind (arith, found.2), grind (arith, nat_tests, found.2))

    pub standing_lawful : Lawful number D
    standing_lawful =
        record {
          start_inner = (inside_stands 0 (omega arith), λ e. omega arith);
          start_full = start_full;
          end_stands = inside_stands D.end (omega arith);
          end_full = end_full;
          step_numbered = λ n stands. let lt = stands_inside n stands in omega arith;
          step_peopled = peopled;
          part_known = known;
          row_placed = used_inside;
          row_inner = λ r used. let lt = rows_inner r used in (inside_stands (D.step r) (omega arith), λ e. omega arith);
          row_stands = λ r p used in'. peopled_stands (D.to r p) p (goal r p used in').1;
          row_has = λ r p used in'. (goal r p used in').1;
          row_rises = λ r p used in'. ltb-true _ _ (goal r p used in').0;
          step_led = led;
        }
