-- The test for one row left tells what it asks.
use Rattle.std.proofs.Common.{◌≡◌, ℕ, ◌+◌, Bool, true, not, ◌&&◌, eqb, ap, ◌∙◌, ⊎_elim, arith}
use Rattle.std.proofs.lemmas.Bool.{cases_Bool, and_parts, and_from, not-true, not-false, eqb-true, eq-eqb}
use Rattle.numbers.specs.Below.{some_below}
use Rattle.numbers.proofs.BelowLaws.{some_at, some_found, some_none, none_at}
use Rattle.diagram.specs.Diagrams.{Diagram, Lawful}
use Rattle.diagram.specs.Reducing.{OneRowLeft, is_only_row, is_one_row}
use Rattle.diagram.specs.Runs.{first}
use Rattle.diagram.specs.Walks.{inner}
use Rattle.diagram.proofs.Tests.{second_fails, inner_tells, inner_from}

module _ (rank : ℕ → ℕ) (D : Diagram) (lawful : Lawful rank D) where
  abbrev strays : ℕ → ℕ → Bool
  strays r p = not (eqb (D.to r p) D.end)

  abbrev another_row : ℕ → ℕ → Bool
  another_row r t = D.used t && not (eqb t r)

  abbrev another_step : ℕ → Bool
  another_step n = inner D n && not (eqb n 0)

  abbrev ahead_part : ℕ → Bool
  ahead_part r = (D.used r && eqb (D.step r) 0) && not (some_below D.parties (strays r))

  abbrev alone_part : ℕ → Bool
  alone_part r = not (some_below D.size (another_row r)) && not (some_below (D.end + 1) another_step)

  pub one_tells : is_one_row D ≡ true → OneRowLeft D
  one_tells h =
      let found = some_at D.size (is_only_row D) h in
      let r = found.0 in
      let parts = and_parts (ahead_part r) (alone_part r) found.2 in
      let goes = and_parts (D.used r && eqb (D.step r) 0) (not (some_below D.parties (strays r))) parts.0 in
      let from = and_parts (D.used r) (eqb (D.step r) 0) goes.0 in
      let alone = and_parts (not (some_below D.size (another_row r))) (not (some_below (D.end + 1) another_step)) parts.1 in
      record {
        row = r;
        in_use = from.0;
        from_start = eqb-true _ 0 from.1;
        to_end = λ p lt. eqb-true _ _ (not-false _ (none_at D.parties (strays r) (not-true _ goes.1) p lt));
        no_other_row = λ t use'.
            eqb-true t r (not-false _ (second_fails (D.used t) (not (eqb t r)) use' (none_at D.size (another_row r) (not-true _ alone.0) t (lawful.row_placed t use'))));
        no_other_step = λ n in'.
            let low = lawful.step_numbered n in'.0 in
            eqb-true n 0 (not-false _ (second_fails (inner D n) (not (eqb n 0)) (inner_from D first n in') (none_at (D.end + 1) another_step (not-true _ alone.1) n (omega arith))));
      }

  pub one_from : OneRowLeft D → is_one_row D ≡ true
  one_from one =
      let r = one.row in
      some_found D.size (is_only_row D) r (lawful.row_placed r one.in_use)
      (and_from (ahead_part r) (alone_part r)
      (and_from (D.used r && eqb (D.step r) 0) (not (some_below D.parties (strays r)))
      (and_from (D.used r) (eqb (D.step r) 0) one.in_use (eq-eqb _ 0 one.from_start))
      (ap not (some_none D.parties (strays r) (λ p lt. ap not (eq-eqb _ _ (one.to_end p lt))))))
      (and_from (not (some_below D.size (another_row r))) (not (some_below (D.end + 1) another_step))
      (ap not (some_none D.size (another_row r) (λ t lt.
      ⊎_elim
      (λ use'. ap (λ b. b && not (eqb t r)) use' ∙ ap not (eq-eqb t r (one.no_other_row t use')))
      (λ out. ap (λ b. b && not (eqb t r)) out)
      (cases_Bool (D.used t)))))
      (ap not (some_none (D.end + 1) another_step (λ n lt.
      ⊎_elim
      (λ in'. ap (λ b. b && not (eqb n 0)) in' ∙ ap not (eq-eqb n 0 (one.no_other_step n (inner_tells D first n in'))))
      (λ out. ap (λ b. b && not (eqb n 0)) out)
      (cases_Bool (inner D n)))))))
