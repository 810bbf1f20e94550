-- Definitions keep the laws: what holds at each site holds of the labels.
use Rattle.std.specs.Prelude.{◌≡◌, ℕ, ◌^◌, ◌<◌, Bool, true, false, not, ◌&&◌, ◌||◌, refl}
use mathlib.Core.HLevel.{is_prop→PathP, ×_prop}
use Rattle.std.proofs.Common.{⊎_elim, sym, ap, ◌∙◌, arith}
use Rattle.std.proofs.Math.Bridge.{le_prop}
use Rattle.std.proofs.lemmas.Bool.{both_ways, cases_Bool, not-true, cond-true, cond-false, false_from_ne_true}
use Rattle.numbers.proofs.BelowLaws.{some_none, none_at}
use Rattle.analysis.specs.declared.definitions.Definitions.{Definitions}
use Rattle.analysis.specs.Algebra.{Laws}
use Rattle.analysis.specs.DefinitionsAlgebra.{definitions_algebra, owner, kept, defined, sited, all_kept, strays, confined, spelled}
use Rattle.analysis.specs.Parties.{Set, Disjoint}
use Rattle.numbers.proofs.BitLaws.{bit_from, bits_same}

-- labels with equal numbers are equal
pub same_definitions : (x y : Definitions) → x.keep ≡ y.keep → x.gens ≡ y.gens → x ≡ y
same_definitions x y p q =
    λ i. record {
      keep = p i;
      gens = q i;
      within = is_prop→PathP (λ j. (p j < 2 ^ 64) × (q j < 2 ^ 64)) (λ j. ×_prop le_prop le_prop) x.within y.within i;
    }

-- what happens at one site: whether it is kept, and whether it is defined
abbrev pub Site : Type 0
Site = Bool × Bool

abbrev pub at : Definitions → ℕ → Site
at x b = (kept x b, defined x b)

-- labels that do the same at each site are equal
same_sites : (x y : Definitions) → ((b : ℕ) → b < 64 → at x b ≡ at y b) → x ≡ y
same_sites x y h =
    same_definitions x y
    (bits_same 64 x.keep y.keep x.within.0 y.within.0 (λ b lt. ap (λ s. s.0) (h b lt)))
    (bits_same 64 x.gens y.gens x.within.1 y.within.1 (λ b lt. ap (λ s. s.1) (h b lt)))

at_sited : (k d : ℕ → Bool) (b : ℕ) → b < 64 → at (sited k d) b ≡ (k b, d b)
at_sited k d b lt = λ i. (bit_from 64 k b lt i, bit_from 64 d b lt i)

pub is_sited : (x : Definitions) (k d : ℕ → Bool) → ((b : ℕ) → b < 64 → at x b ≡ (k b, d b)) → x ≡ sited k d
is_sited x k d h = same_sites x (sited k d) (λ b lt. h b lt ∙ sym (at_sited k d b lt))

-- the operations at one site
abbrev untouched : Site
untouched = (true, false)

abbrev then_site : Site → Site → Site
then_site s t = (s.0 && t.0, (s.1 && t.0) || t.1)

abbrev either_site : Site → Site → Site
either_site s t = (s.0 || t.0, s.1 || t.1)

-- a side of a law
infix 30 ◌then◌ ◌either◌
data Term : Type 0 where
  the : Definitions → Term
  unit : Term
  ◌then◌ : Term → Term → Term
  ◌either◌ : Term → Term → Term

-- the label that it is
abbrev label : Term → Definitions
label (the x) = x
label unit = all_kept
label (s then t) = definitions_algebra.then (label s) (label t)
label (s either t) = definitions_algebra.either (label s) (label t)

-- what it does at site b
abbrev site : Term → ℕ → Site
site (the x) b = at x b
site unit b = untouched
site (s then t) b = then_site (site s b) (site t b)
site (s either t) b = either_site (site s b) (site t b)

label_at : (t : Term) (b : ℕ) → b < 64 → at (label t) b ≡ site t b
label_at (the x) b lt = refl
label_at unit b lt = at_sited (λ _. true) (λ _. false) b lt
label_at (s then t) b lt = at_sited _ _ b lt ∙ (λ i. then_site (label_at s b lt i) (label_at t b lt i))
label_at (s either t) b lt = at_sited _ _ b lt ∙ (λ i. either_site (label_at s b lt i) (label_at t b lt i))

-- sides that do the same at each site are equal
by_sites : (s t : Term) → ((b : ℕ) → b < 64 → site s b ≡ site t b) → label s ≡ label t
by_sites s t h = same_sites (label s) (label t) (λ b lt. label_at s b lt ∙ h b lt ∙ sym (label_at t b lt))

-- whether a site strays, by whether its owner is in the set
abbrev stray : Bool → Site → Bool
stray a s = not a && (not s.0 || s.1)

stray_none : (a : Bool) (s : Site) → stray a s ≡ false → a ≡ false → s ≡ untouched
stray_none a s h out = grind arith

none_stray : (a : Bool) (s : Site) → (a ≡ false → s ≡ untouched) → stray a s ≡ false
none_stray a s h = grind arith

-- where the owner is outside the set, a label of the set leaves the site untouched
outside : (x : Definitions) (P : Set) → confined x P ≡ true → (b : ℕ) → b < 64 → P (owner b) ≡ false → at x b ≡ untouched
outside x P h b lt = stray_none (P (owner b)) (at x b) (none_at 64 (strays x P) (not-true _ h) b lt)

-- and a label that does so belongs to the set
confined_from : (t : Term) (P : Set) → ((b : ℕ) → b < 64 → P (owner b) ≡ false → site t b ≡ untouched) → confined (label t) P ≡ true
confined_from t P h = ap not (some_none 64 (strays (label t) P) (λ b lt. none_stray (P (owner b)) (at (label t) b) (λ out. label_at t b lt ∙ h b lt out)))

untouched_commutes : (s t : Site) → s ≡ untouched → then_site s t ≡ then_site t s
untouched_commutes s t e = grind arith

-- one of two disjoint sets lacks the owner, and its label leaves the site untouched
disjoint_sites : (x y : Definitions) (P Q : Set) → Disjoint P Q → confined x P ≡ true → confined y Q ≡ true → (b : ℕ) → b < 64 → then_site (at x b) (at y b) ≡ then_site (at y b) (at x b)
disjoint_sites x y P Q disjoint p q b lt =
    ⊎_elim
    (λ member. sym (untouched_commutes (at y b) (at x b) (outside y Q q b lt (false_from_ne_true (Q (owner b)) (disjoint (owner b) member)))))
    (λ out. untouched_commutes (at x b) (at y b) (outside x P p b lt out))
    (cases_Bool (P (owner b)))

pub definitions_laws : Laws definitions_algebra
definitions_laws =
    record {
      then_associative = λ x y z. by_sites ((the x then the y) then the z) (the x then (the y then the z)) (λ b lt. grind arith);
      unit_then = λ x. by_sites (unit then the x) (the x) (λ b lt. grind arith);
      then_unit = λ x. by_sites (the x then unit) (the x) (λ b lt. grind arith);
      either_associative = λ x y z. by_sites ((the x either the y) either the z) (the x either (the y either the z)) (λ b lt. grind arith);
      either_commutative = λ x y. by_sites (the x either the y) (the y either the x) (λ b lt. grind arith);
      either_idempotent = λ x. by_sites (the x either the x) (the x) (λ b lt. grind arith);
      then_either = λ x y z. by_sites (the x then (the y either the z)) ((the x then the y) either (the x then the z)) (λ b lt. grind arith);
      either_then = λ x y z. by_sites ((the x either the y) then the z) ((the x then the z) either (the y then the z)) (λ b lt. grind arith);
      unit_belongs = λ P. confined_from unit P (λ b lt out. refl);
      then_belongs = λ x y P p q. confined_from (the x then the y) P (λ b lt out i. then_site (outside x P p b lt out i) (outside y P q b lt out i));
      either_belongs = λ x y P p q. confined_from (the x either the y) P (λ b lt out i. either_site (outside x P p b lt out i) (outside y P q b lt out i));
      larger_belongs = λ x P Q larger p. confined_from (the x) Q (λ b lt out. outside x P p b lt (false_from_ne_true (P (owner b)) (λ member. both_ways (Q (owner b)) out (larger (owner b) member))));
      disjoint_commute = λ x y P Q disjoint p q. by_sites (the x then the y) (the y then the x) (disjoint_sites x y P Q disjoint p q);
      suiting_belongs = λ bytes P s. ap (λ x. confined x P) (cond-true (confined (spelled bytes) P) _ _ s) ∙ s;
      unsuiting_unit = λ bytes P s. cond-false (confined (spelled bytes) P) _ _ s;
    }
