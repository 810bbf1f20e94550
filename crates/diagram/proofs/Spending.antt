-- What a diagram can still spend on moves: for each row in use itself, and the steps ahead of it.
use Rattle.std.proofs.Common.{◌≡◌, ℕ, suc, ◌+◌, ◌-◌, ◌<◌, ◌≤◌, Bool, true, false, cond, not, ◌&&◌, eqb, leb, refl, ap, ◌∙◌, ⊎_elim, arith}
use Rattle.std.proofs.lemmas.Bool.{cases_Bool, and_parts, and_from, not-true, not-false, eq-eqb, leb-true, le-leb}
use Rattle.numbers.specs.Below.{sum_below, count_below, some_below}
use Rattle.numbers.proofs.BelowLaws.{none_at, some_none}
use Rattle.diagram.specs.Diagrams.{Diagram, Inner, Lawful}
use Rattle.diagram.specs.Reducing.{steps, most_moves}
use Rattle.diagram.specs.Runs.{first}
use Rattle.diagram.specs.Walks.{inner}
use Rattle.diagram.proofs.Counting.{count_lt, weighed_le}
use Rattle.diagram.proofs.Tests.{second_fails, inner_tells, inner_from}

-- step k is ahead of row t: its parties are of t's step, and t sends none of them to a greater rank
pub record Ahead (rank : ℕ → ℕ) (D : Diagram) (t k : ℕ) : Type 0 where
  pub stands : Inner D k
  pub inside : (p : ℕ) → D.part k p ≡ true → D.part (D.step t) p ≡ true
  pub before : (p : ℕ) → D.part k p ≡ true → rank (D.to t p) ≤ rank k

module _ (rank : ℕ → ℕ) (D : Diagram) where
  abbrev hinders : ℕ → ℕ → ℕ → Bool
  hinders t k p = D.part k p && not (D.part (D.step t) p && leb (rank (D.to t p)) (rank k))

  abbrev pub ahead : ℕ → ℕ → Bool
  ahead t k = inner D k && not (some_below D.parties (hinders t k))

  pub ahead_from : (t k : ℕ) → Ahead rank D t k → ahead t k ≡ true
  ahead_from t k h =
      and_from (inner D k) (not (some_below D.parties (hinders t k))) (inner_from D first k h.stands)
      (ap not (some_none D.parties (hinders t k) (λ p lt.
      ⊎_elim
      (λ in'.
      ap (λ b. b && not (D.part (D.step t) p && leb (rank (D.to t p)) (rank k))) in'
      ∙ ap not (and_from (D.part (D.step t) p) (leb (rank (D.to t p)) (rank k)) (h.inside p in') (le-leb _ _ (h.before p in'))))
      (λ out. ap (λ b. b && not (D.part (D.step t) p && leb (rank (D.to t p)) (rank k))) out)
      (cases_Bool (D.part k p)))))

  -- the steps ahead of a row
  abbrev pub avail : ℕ → ℕ
  avail t = count_below (D.end + 1) (ahead t)

  abbrev pub purse : ℕ
  purse = sum_below D.size (λ t. cond (D.used t) (suc (avail t)) 0)

  module _ (lawful : Lawful rank D) where
    pub ahead_tells : (t k : ℕ) → ahead t k ≡ true → Ahead rank D t k
    ahead_tells t k h =
        let parts = and_parts (inner D k) (not (some_below D.parties (hinders t k))) h in
        let each : (p : ℕ) → D.part k p ≡ true → (D.part (D.step t) p ≡ true) × (leb (rank (D.to t p)) (rank k) ≡ true) =
        λ p in'. and_parts (D.part (D.step t) p) (leb (rank (D.to t p)) (rank k))
        (not-false _ (second_fails (D.part k p) _ in' (none_at D.parties (hinders t k) (not-true _ parts.1) p (lawful.part_known k p in')))) in
        record { stands = inner_tells D first k parts.0; inside = λ p in'. (each p in').0; before = λ p in'. leb-true _ _ (each p in').1 }

    -- a row's own step is not ahead of it
    own_not_ahead : (t : ℕ) → D.used t ≡ true → ahead t (D.step t) ≡ false
    own_not_ahead t use' =
        ⊎_elim
        (λ yes.
        let someone = lawful.step_peopled (D.step t) (lawful.row_inner t use').0 in
        let low = (ahead_tells t (D.step t) yes).before someone.0 someone.1 in
        let up = lawful.row_rises t someone.0 use' someone.1 in
        absurd (omega arith))
        (λ no. no)
        (cases_Bool (ahead t (D.step t)))

    -- nor is the end
    pub avail_bounded : (t : ℕ) → D.used t ≡ true → suc (avail t) ≤ steps D - 1
    avail_bounded t use' =
        let own = lawful.row_inner t use' in
        let placed = lawful.step_numbered (D.step t) own.0 in
        let one : avail t < count_below (D.end + 1) (inner D) =
        count_lt (D.end + 1) (ahead t) (inner D) (λ k lt h. (and_parts (inner D k) _ h).0) (D.step t) (omega arith) (own_not_ahead t use') (inner_from D first (D.step t) own) in
        let two : count_below (D.end + 1) (inner D) < steps D =
        count_lt (D.end + 1) (inner D) D.stands (λ k lt h. (and_parts (D.stands k) _ h).0) D.end (omega arith)
        (ap (λ b. b && not (eqb D.end D.end)) lawful.end_stands ∙ ap not (eq-eqb D.end D.end refl)) lawful.end_stands in
        omega arith

    pub purse_bounded : purse ≤ most_moves D
    purse_bounded = weighed_le D.size (steps D - 1) D.used (λ t. suc (avail t)) (λ t lt use'. avail_bounded t use')
