-- The pairs of a relation of flags.
use Rattle.std.specs.Prelude.{◌≡◌, ℕ, ◌+◌, ◌*◌, ◌/◌, ◌%◌, ◌^◌, ◌<◌, Bool, true, false, not, ◌&&◌}
use mathlib.Core.HLevel.{is_prop→PathP}
use Rattle.std.proofs.Common.{⊎_elim, sym, ap, ◌∙◌, arith}
use Rattle.std.proofs.Math.Bridge.{le_prop}
use Rattle.std.proofs.lemmas.Nat.{xor_lt}
use Rattle.std.proofs.Math.Pow.{pow-lt}
use Rattle.std.proofs.lemmas.Bool.{cases_Bool, and_parts, and_from, not-true, not-false}
use Rattle.numbers.specs.Below.{some_below}
use Rattle.numbers.specs.Bits.{bit}
use Rattle.numbers.proofs.BelowLaws.{some_found, some_none, some_at, none_at}
use Rattle.numbers.proofs.BitLaws.{bit_from, from_bits_self, from_bits_same}
use Rattle.analysis.specs.declared.flags.Flags.{Flags}
use Rattle.analysis.specs.FlagsAlgebra.{may, related, through, same_flag, flipped, strays, stays_within}
use Rattle.analysis.specs.Parties.{Set}

-- relations with equal numbers are equal
pub same_flags : (x y : Flags) → x.relation ≡ y.relation → x ≡ y
same_flags x y p = λ i. record { relation = p i; within = is_prop→PathP (λ j. p j < 2 ^ 64) (λ j. le_prop) x.within y.within i }

-- relations of the same pairs are equal
pub related_same : (p q : ℕ → ℕ → Bool) → ((v w : ℕ) → v < 8 → w < 8 → p v w ≡ q v w) → related p ≡ related q
related_same p q same =
    same_flags (related p) (related q) (from_bits_same 64 (λ k. p (k / 8) (k % 8)) (λ k. q (k / 8) (k % 8)) (λ k lt. same (k / 8) (k % 8) (omega arith) (omega arith)))

-- the pairs of a relation are those that it is made of
pub may_related : (p : ℕ → ℕ → Bool) (v w : ℕ) → v < 8 → w < 8 → may (related p).relation v w ≡ p v w
may_related p v w vl wl =
    let row : (8 * v + w) / 8 ≡ v = omega arith in
    let column : (8 * v + w) % 8 ≡ w = omega arith in
    bit_from 64 (λ k. p (k / 8) (k % 8)) (8 * v + w) (omega arith) ∙ (λ i. p (row i) (column i))

pub related_self : (x : Flags) → related (may x.relation) ≡ x
related_self x =
    same_flags (related (may x.relation)) x
    (from_bits_same 64 (λ k. may x.relation (k / 8) (k % 8)) (bit x.relation)
    (λ k lt. let whole : 8 * (k / 8) + k % 8 ≡ k = omega arith in ap (bit x.relation) whole)
    ∙ from_bits_self 64 x.relation x.within)

pub through_by : (x y v u w : ℕ) → u < 8 → may x v u ≡ true → may y u w ≡ true → through x y v w ≡ true
through_by x y v u w lt p q = some_found 8 (λ t. may x v t && may y t w) u lt (and_from (may x v u) (may y u w) p q)

pub through_at : (x y v w : ℕ) → through x y v w ≡ true → (u : ℕ) × (u < 8) × (may x v u ≡ true) × (may y u w ≡ true)
through_at x y v w h =
    let found = some_at 8 (λ t. may x v t && may y t w) h in
    let parts = and_parts (may x v found.0) (may y found.0 w) found.2 in
    (found.0, found.1, parts.0, parts.1)

-- a pair that keeps flag i, and is there with flag i flipped
abbrev pub Keeps : ℕ → ℕ → ℕ → ℕ → Type 0
Keeps r i v w = (same_flag i v w ≡ true) × (may r (flipped i v) (flipped i w) ≡ true)

pub stays_at : (r : ℕ) (P : Set) → stays_within r P ≡ true → (i v w : ℕ) → i < 3 → v < 8 → w < 8 → P i ≡ false → may r v w ≡ true → Keeps r i v w
stays_at r P h i v w il vl wl out pair =
    let none = none_at 3 (λ j. not (P j) && some_below 64 (λ k. strays r j (k / 8) (k % 8))) (not-true _ h) i il in
    let right : some_below 64 (λ k. strays r i (k / 8) (k % 8)) ≡ false = second (not (P i)) _ (ap not out) none in
    let row : (8 * v + w) / 8 ≡ v = omega arith in
    let column : (8 * v + w) % 8 ≡ w = omega arith in
    let here : strays r i v w ≡ false = (λ j. strays r i (sym row j) (sym column j)) ∙ none_at 64 (λ k. strays r i (k / 8) (k % 8)) right (8 * v + w) (omega arith) in
    and_parts (same_flag i v w) (may r (flipped i v) (flipped i w)) (not-false _ (second (may r v w) _ pair here))
  where
    second : (a b : Bool) → a ≡ true → (a && b) ≡ false → b ≡ false
    second a b p q = sym (ap (λ t. t && b) p) ∙ q

pub stays_from : (r : ℕ) (P : Set) → ((i v w : ℕ) → i < 3 → v < 8 → w < 8 → P i ≡ false → may r v w ≡ true → Keeps r i v w) → stays_within r P ≡ true
stays_from r P keeps =
    ap not (some_none 3 (λ i. not (P i) && some_below 64 (λ k. strays r i (k / 8) (k % 8))) (λ i il.
    ⊎_elim
    (λ in'. ap (λ b. not b && some_below 64 (λ k. strays r i (k / 8) (k % 8))) in')
    (λ out. ap (λ b. not b && some_below 64 (λ k. strays r i (k / 8) (k % 8))) out
    ∙ some_none 64 (λ k. strays r i (k / 8) (k % 8)) (λ k kl. right i il out (k / 8) (k % 8) (omega arith) (omega arith)))
    (cases_Bool (P i))))
  where
    right : (i : ℕ) → i < 3 → P i ≡ false → (v w : ℕ) → v < 8 → w < 8 → strays r i v w ≡ false
    right i il out v w vl wl =
        ⊎_elim
        (λ pair. let k = keeps i v w il vl wl out pair in
        (λ j. pair j && not (k.0 j && k.1 j)))
        (λ none. ap (λ b. b && not (same_flag i v w && may r (flipped i v) (flipped i w))) none)
        (cases_Bool (may r v w))

pub flipped_below : (i v : ℕ) → i < 3 → v < 8 → flipped i v < 8
flipped_below i v il vl = let p : 2 ^ i < 2 ^ 3 = pow-lt il in xor_lt 3 v (2 ^ i) vl p
