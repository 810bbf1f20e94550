-- The tests of a walk tell what they ask.
use Rattle.std.proofs.Common.{◌≡◌, ℕ, Bool, true, false, not, ◌&&◌, eqb, sym, ap, ◌∙◌, ⊎_elim}
use Rattle.std.proofs.lemmas.Bool.{cases_Bool, and_parts, and_from, not-true, not-false, eqb-true, eqb-false, eq-eqb, ne_eqb}
use Rattle.numbers.specs.Below.{some_below}
use Rattle.numbers.proofs.BelowLaws.{some_none, none_at}
use Rattle.diagram.specs.Diagrams.{Diagram, Inner, Lawful}
use Rattle.diagram.specs.Runs.{Marking, AtEnd, Enabled, Can}
use Rattle.diagram.specs.Walks.{at_end, inner, enabled, can_take}

-- the second of two tests that do not both pass, where the first passes
pub second_fails : (a b : Bool) → a ≡ true → (a && b) ≡ false → b ≡ false
second_fails a b p h = sym (ap (λ t. t && b) p) ∙ h

module _ (D : Diagram) (M : Marking) where
  pub at_end_tells : at_end D M ≡ true → AtEnd D M
  at_end_tells h p lt = eqb-true (M p) D.end (not-false _ (none_at D.parties (λ q. not (eqb (M q) D.end)) (not-true _ h) p lt))

  pub at_end_from : AtEnd D M → at_end D M ≡ true
  at_end_from h = ap not (some_none D.parties (λ q. not (eqb (M q) D.end)) (λ p lt. ap not (eq-eqb (M p) D.end (h p lt))))

  pub inner_tells : (n : ℕ) → inner D n ≡ true → Inner D n
  inner_tells n h = let parts = and_parts (D.stands n) (not (eqb n D.end)) h in (parts.0, eqb-false n D.end (not-true _ parts.1))

  pub inner_from : (n : ℕ) → Inner D n → inner D n ≡ true
  inner_from n h = and_from (D.stands n) (not (eqb n D.end)) h.0 (ap not (ne_eqb n D.end h.1))

  module _ (rank : ℕ → ℕ) (lawful : Lawful rank D) where
    pub enabled_tells : (n : ℕ) → enabled D M n ≡ true → Enabled D M n
    enabled_tells n h =
        let parts = and_parts (inner D n) (not (some_below D.parties (λ p. D.part n p && not (eqb (M p) n)))) h in (
          inner_tells n parts.0,
          λ p in'. eqb-true (M p) n (not-false _ (second_fails (D.part n p) (not (eqb (M p) n)) in'
              (none_at D.parties (λ q. D.part n q && not (eqb (M q) n)) (not-true _ parts.1) p (lawful.part_known n p in')))),
        )

    pub enabled_from : (n : ℕ) → Enabled D M n → enabled D M n ≡ true
    enabled_from n h =
        and_from (inner D n) (not (some_below D.parties (λ p. D.part n p && not (eqb (M p) n)))) (inner_from n h.0)
        (ap not (some_none D.parties (λ p. D.part n p && not (eqb (M p) n)) (λ p lt.
        ⊎_elim
        (λ in'. ap (λ t. t && not (eqb (M p) n)) in' ∙ ap not (eq-eqb (M p) n (h.1 p in')))
        (λ out. ap (λ t. t && not (eqb (M p) n)) out)
        (cases_Bool (D.part n p)))))

    pub can_tells : (r : ℕ) → can_take D M r ≡ true → Can D M r
    can_tells r h = let parts = and_parts (D.used r) (enabled D M (D.step r)) h in (parts.0, enabled_tells (D.step r) parts.1)

    pub can_from : (r : ℕ) → Can D M r → can_take D M r ≡ true
    can_from r h = and_from (D.used r) (enabled D M (D.step r)) h.0 (enabled_from (D.step r) h.1)

    -- where all wait at the end no row can be taken
    pub end_is_still : AtEnd D M → (r : ℕ) → Can D M r → ⊥
    end_is_still ends r can =
        let someone = lawful.step_peopled (D.step r) can.1.0.0 in
        can.1.0.1 (sym (can.1.1 someone.0 someone.1) ∙ ends someone.0 (lawful.part_known (D.step r) someone.0 someone.1))
