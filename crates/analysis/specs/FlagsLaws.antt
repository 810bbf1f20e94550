-- Flags keep the laws.
use Rattle.std.specs.Prelude.{◌≡◌, ℕ, ◌/◌, ◌%◌, ◌^◌, ◌<◌, Bool, true, false, cond, ◌||◌, ◌⊎◌, nat_eq, refl}
use Rattle.std.proofs.Math.Bool.{or_assoc, or_comm, or_self}
use Rattle.std.proofs.Common.{inl, inr, ⊎_elim, sym, ap, ◌∙◌}
use Rattle.std.proofs.lemmas.Bool.{both_ways, cases_Bool, cond-true, cond-false, eqb-true, eq-eqb, or_cases, or_left, or_right}
use Rattle.numbers.specs.Bits.{bit, from_bits}
use Rattle.numbers.proofs.BitLaws.{same_test, from_bits_lt, from_bits_self}
use Rattle.analysis.specs.declared.flags.Flags.{Flags}
use Rattle.analysis.specs.Algebra.{Laws}
use Rattle.analysis.specs.FlagsAlgebra.{may, related, through, same_flag, flipped, stays_within, flags_algebra}
use Rattle.analysis.specs.LabelBytes.{relation_in}
use Rattle.analysis.specs.Parties.{Set, ◌⊆◌, Disjoint}
use Rattle.analysis.specs.FlagPairs.{related_same, may_related, related_self, through_by, through_at, stays_at, stays_from, flipped_below}
use Rattle.analysis.specs.FlagFlips.{same_bit, retarget}

-- x then y, and x either y, as numbers
abbrev composed : ℕ → ℕ → ℕ
composed x y = (related (through x y)).relation

abbrev united : ℕ → ℕ → ℕ
united x y = (related (λ v w. may x v w || may y v w)).relation

abbrev same : ℕ
same = (related (λ v w. nat_eq v w)).relation

may_composed : (x y v w : ℕ) → v < 8 → w < 8 → may (composed x y) v w ≡ through x y v w
may_composed x y v w vl wl = may_related (through x y) v w vl wl

may_united : (x y v w : ℕ) → v < 8 → w < 8 → may (united x y) v w ≡ (may x v w || may y v w)
may_united x y v w vl wl = may_related (λ a b. may x a b || may y a b) v w vl wl

composed_associative : (x y z v w : ℕ) → v < 8 → w < 8 → through (composed x y) z v w ≡ through x (composed y z) v w
composed_associative x y z v w vl wl =
    same_test _ _
    (λ h.
    let u = through_at (composed x y) z v w h in
    let t = through_at x y v u.0 (sym (may_composed x y v u.0 vl u.1) ∙ u.2) in
    through_by x (composed y z) v t.0 w t.1 t.2 (may_composed y z t.0 w t.1 wl ∙ through_by y z t.0 u.0 w u.1 t.3 u.3))
    (λ h.
    let t = through_at x (composed y z) v w h in
    let u = through_at y z t.0 w (sym (may_composed y z t.0 w t.1 wl) ∙ t.3) in
    through_by (composed x y) z v u.0 w u.1 (may_composed x y v u.0 vl u.1 ∙ through_by x y v t.0 u.0 t.1 t.2 u.2) u.3)

same_first : (x v w : ℕ) → v < 8 → w < 8 → through same x v w ≡ may x v w
same_first x v w vl wl =
    same_test _ _
    (λ h. let u = through_at same x v w h in
    let e = eqb-true v u.0 (sym (may_related (λ a b. nat_eq a b) v u.0 vl u.1) ∙ u.2) in
    ap (λ a. may x a w) e ∙ u.3)
    (λ h. through_by same x v v w vl (may_related (λ a b. nat_eq a b) v v vl vl ∙ eq-eqb v v refl) h)

same_last : (x v w : ℕ) → v < 8 → w < 8 → through x same v w ≡ may x v w
same_last x v w vl wl =
    same_test _ _
    (λ h. let u = through_at x same v w h in
    let e = eqb-true u.0 w (sym (may_related (λ a b. nat_eq a b) u.0 w u.1 wl) ∙ u.3) in
    ap (λ a. may x v a) (sym e) ∙ u.2)
    (λ h. through_by x same v w w wl h (may_related (λ a b. nat_eq a b) w w wl wl ∙ eq-eqb w w refl))

composed_united : (x y z v w : ℕ) → v < 8 → w < 8 → through x (united y z) v w ≡ (may (composed x y) v w || may (composed x z) v w)
composed_united x y z v w vl wl =
    same_test _ _
    (λ h. let u = through_at x (united y z) v w h in
    ⊎_elim
    (λ first. or_left _ _ (may_composed x y v w vl wl ∙ through_by x y v u.0 w u.1 u.2 first))
    (λ second. or_right _ _ (may_composed x z v w vl wl ∙ through_by x z v u.0 w u.1 u.2 second))
    (or_cases (may y u.0 w) (may z u.0 w) (sym (may_united y z u.0 w u.1 wl) ∙ u.3)))
    (λ h.
    ⊎_elim
    (λ first. let u = through_at x y v w (sym (may_composed x y v w vl wl) ∙ first) in
    through_by x (united y z) v u.0 w u.1 u.2 (may_united y z u.0 w u.1 wl ∙ or_left _ _ u.3))
    (λ second. let u = through_at x z v w (sym (may_composed x z v w vl wl) ∙ second) in
    through_by x (united y z) v u.0 w u.1 u.2 (may_united y z u.0 w u.1 wl ∙ or_right _ _ u.3))
    (or_cases (may (composed x y) v w) (may (composed x z) v w) h))

united_composed : (x y z v w : ℕ) → v < 8 → w < 8 → through (united x y) z v w ≡ (may (composed x z) v w || may (composed y z) v w)
united_composed x y z v w vl wl =
    same_test _ _
    (λ h. let u = through_at (united x y) z v w h in
    ⊎_elim
    (λ first. or_left _ _ (may_composed x z v w vl wl ∙ through_by x z v u.0 w u.1 first u.3))
    (λ second. or_right _ _ (may_composed y z v w vl wl ∙ through_by y z v u.0 w u.1 second u.3))
    (or_cases (may x v u.0) (may y v u.0) (sym (may_united x y v u.0 vl u.1) ∙ u.2)))
    (λ h.
    ⊎_elim
    (λ first. let u = through_at x z v w (sym (may_composed x z v w vl wl) ∙ first) in
    through_by (united x y) z v u.0 w u.1 (may_united x y v u.0 vl u.1 ∙ or_left _ _ u.2) u.3)
    (λ second. let u = through_at y z v w (sym (may_composed y z v w vl wl) ∙ second) in
    through_by (united x y) z v u.0 w u.1 (may_united x y v u.0 vl u.1 ∙ or_right _ _ u.2) u.3)
    (or_cases (may (composed x z) v w) (may (composed y z) v w) h))

same_stays : (P : Set) → stays_within same P ≡ true
same_stays P =
    stays_from same P (λ i v w il vl wl out pair.
    let e = eqb-true v w (sym (may_related (λ a b. nat_eq a b) v w vl wl) ∙ pair) in
    let small = flipped_below i v il vl in (
      ap (λ a. same_flag i v a) (sym e) ∙ eq-eqb (v / 2 ^ i % 2) (v / 2 ^ i % 2) refl,
      ap (λ a. may same (flipped i v) (flipped i a)) (sym e) ∙ may_related (λ a b. nat_eq a b) (flipped i v) (flipped i v) small small ∙ eq-eqb (flipped i v) (flipped i v) refl,
    ))

composed_stays : (x y : ℕ) (P : Set) → stays_within x P ≡ true → stays_within y P ≡ true → stays_within (composed x y) P ≡ true
composed_stays x y P xs ys =
    stays_from (composed x y) P (λ i v w il vl wl out pair.
    let u = through_at x y v w (sym (may_composed x y v w vl wl) ∙ pair) in
    let first = stays_at x P xs i v u.0 il vl u.1 out u.2 in
    let second = stays_at y P ys i u.0 w il u.1 wl out u.3 in (
      eq-eqb _ _ (eqb-true (v / 2 ^ i % 2) (u.0 / 2 ^ i % 2) first.0 ∙ eqb-true (u.0 / 2 ^ i % 2) (w / 2 ^ i % 2) second.0),
      may_composed x y (flipped i v) (flipped i w) (flipped_below i v il vl) (flipped_below i w il wl)
          ∙ through_by x y (flipped i v) (flipped i u.0) (flipped i w) (flipped_below i u.0 il u.1) first.1 second.1,
    ))

united_stays : (x y : ℕ) (P : Set) → stays_within x P ≡ true → stays_within y P ≡ true → stays_within (united x y) P ≡ true
united_stays x y P xs ys =
    stays_from (united x y) P (λ i v w il vl wl out pair.
    let fl = flipped_below i v il vl in
    let fr = flipped_below i w il wl in
    ⊎_elim
    (λ first. let k = stays_at x P xs i v w il vl wl out first in (k.0, may_united x y (flipped i v) (flipped i w) fl fr ∙ or_left _ _ k.1))
    (λ second. let k = stays_at y P ys i v w il vl wl out second in (k.0, may_united x y (flipped i v) (flipped i w) fl fr ∙ or_right _ _ k.1))
    (or_cases (may x v w) (may y v w) (sym (may_united x y v w vl wl) ∙ pair)))

larger_stays : (x : ℕ) (P Q : Set) → P ⊆ Q → stays_within x P ≡ true → stays_within x Q ≡ true
larger_stays x P Q inside xs =
    stays_from x Q (λ i v w il vl wl out pair.
    stays_at x P xs i v w il vl wl (⊎_elim (λ in'. absurd (both_ways (Q i) out (inside i in'))) (λ no'. no') (cases_Bool (P i))) pair)

-- what x and y do to flags of disjoint parties can be done in the other order, by way of the value with y's flags done
other_order : (x y : ℕ) (P Q : Set) → Disjoint P Q → stays_within x P ≡ true → stays_within y Q ≡ true → (v w : ℕ) → v < 8 → w < 8 → through x y v w ≡ true → through y x v w ≡ true
other_order x y P Q apart xs ys v w vl wl h =
    through_by y x v (from_bits 3 done) w (from_bits_lt 3 done)
    (ap (λ a. may y a (from_bits 3 done)) (sym (from_bits_self 3 v vl)) ∙ retarget y Q ys u.0 w u.1 wl u.3 (bit v) done late)
    (ap (λ a. may x (from_bits 3 done) a) (sym (from_bits_self 3 w wl)) ∙ retarget x P xs v u.0 vl u.1 u.2 done (bit w) early)
  where
    u : (t : ℕ) × (t < 8) × (may x v t ≡ true) × (may y t w ≡ true)
    u = through_at x y v w h

    done : ℕ → Bool
    done i = cond (Q i) (bit w i) (bit v i)

    x_keeps : (i : ℕ) → i < 3 → P i ≡ false → bit v i ≡ bit u.0 i
    x_keeps i il out = same_bit i v u.0 (stays_at x P xs i v u.0 il vl u.1 out u.2).0

    y_keeps : (i : ℕ) → i < 3 → Q i ≡ false → bit u.0 i ≡ bit w i
    y_keeps i il out = same_bit i u.0 w (stays_at y Q ys i u.0 w il u.1 wl out u.3).0

    not_both : (i : ℕ) → Q i ≡ true → P i ≡ false
    not_both i q = ⊎_elim (λ p. absurd (apart i p q)) (λ no'. no') (cases_Bool (P i))

    late : (i : ℕ) → i < 3 → ((Q i ≡ false) × (bit v i ≡ done i)) ⊎ ((bit u.0 i ≡ bit v i) × (bit w i ≡ done i))
    late i il =
        ⊎_elim
        (λ q. inr (sym (x_keeps i il (not_both i q)), sym (cond-true (Q i) (bit w i) (bit v i) q)))
        (λ out. inl (out, sym (cond-false (Q i) (bit w i) (bit v i) out)))
        (cases_Bool (Q i))

    early : (i : ℕ) → i < 3 → ((P i ≡ false) × (done i ≡ bit w i)) ⊎ ((bit v i ≡ done i) × (bit u.0 i ≡ bit w i))
    early i il =
        ⊎_elim
        (λ q. inl (not_both i q, cond-true (Q i) (bit w i) (bit v i) q))
        (λ out. ⊎_elim
        (λ p. inr (sym (cond-false (Q i) (bit w i) (bit v i) out), y_keeps i il out))
        (λ free. inl (free, cond-false (Q i) (bit w i) (bit v i) out ∙ x_keeps i il free ∙ y_keeps i il out))
        (cases_Bool (P i)))
        (cases_Bool (Q i))

pub flags_laws : Laws flags_algebra
flags_laws =
    record {
      then_associative = λ x y z. related_same _ _ (composed_associative x.relation y.relation z.relation);
      unit_then = λ x. related_same _ _ (same_first x.relation) ∙ related_self x;
      then_unit = λ x. related_same _ _ (same_last x.relation) ∙ related_self x;
      either_associative = λ x y z. related_same _ _ (λ v w vl wl.
          ap (λ b. b || may z.relation v w) (may_united x.relation y.relation v w vl wl)
          ∙ or_assoc (may x.relation v w) (may y.relation v w) (may z.relation v w)
          ∙ sym (ap (λ b. may x.relation v w || b) (may_united y.relation z.relation v w vl wl)));
      either_commutative = λ x y. related_same _ _ (λ v w vl wl. or_comm (may x.relation v w) (may y.relation v w));
      either_idempotent = λ x. related_same _ _ (λ v w vl wl. or_self (may x.relation v w)) ∙ related_self x;
      then_either = λ x y z. related_same _ _ (composed_united x.relation y.relation z.relation);
      either_then = λ x y z. related_same _ _ (united_composed x.relation y.relation z.relation);
      unit_belongs = λ P. same_stays P;
      then_belongs = λ x y P. composed_stays x.relation y.relation P;
      either_belongs = λ x y P. united_stays x.relation y.relation P;
      larger_belongs = λ x P Q. larger_stays x.relation P Q;
      disjoint_commute = λ x y P Q apart xs ys.
          related_same _ _ (λ v w vl wl.
          same_test _ _
          (other_order x.relation y.relation P Q apart xs ys v w vl wl)
          (other_order y.relation x.relation Q P (λ p q r. apart p r q) ys xs v w vl wl));
      suiting_belongs = λ bytes P s. ap (λ (f : Flags). stays_within f.relation P) (cond-true (stays_within (relation_in bytes) P) _ _ s) ∙ s;
      unsuiting_unit = λ bytes P s. cond-false (stays_within (relation_in bytes) P) _ _ s;
    }
