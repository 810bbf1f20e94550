-- The bits of a mask, and masks of the first parties.
use Rattle.std.proofs.Common.{◌≡◌, ℕ, ◌+◌, ◌^◌, ◌<◌, ◌≤◌, Bool, true, false, cond, not, leb, ltb, refl, ⊎_elim, arith, pow_pos, pow_mono}
use Rattle.std.proofs.lemmas.Bool.{cases_Bool, cases_lt}
use Rattle.std.proofs.lemmas.Bool.Decides.{nat_tests}
use Rattle.std.specs.Int.{is_power_of_two}
use lib.Count.{ones}
use Rattle.numbers.specs.Below.{sum_below, count_below, some_below}
use Rattle.numbers.specs.Bits.{bit}
use Rattle.numbers.proofs.BelowLaws.{some_at, none_at, count_le}
use Rattle.numbers.proofs.BitLaws.{bit_above, bits_same}
use Rattle.diagram.specs.LawfulDrawn.{all_below, implies}
use Rattle.diagram.proofs.LawfulTold.{all_at, implied}
use Rattle.sheet.specs.DiagramLayer.{first_parties}

pub no_bit : (p : ℕ) → bit 0 p ≡ false
no_bit p = bit_above 0 p (pow_pos p)

-- a byte that is not 0 has a bit
pub has_bit : (m : ℕ) → m < 256 → (m ≡ 0 → ⊥) → (p : ℕ) × (bit m p ≡ true)
has_bit m small nonzero =
    ⊎_elim
    (λ some. let found = some_at 8 (bit m) some in (found.0, found.2))
    (λ none. absurd (nonzero (bits_same 8 m 0 small (omega arith) (λ k lt. grind (arith, none_at 8 (bit m) none k, no_bit k)))))
    (cases_Bool (some_below 8 (bit m)))

-- a number with a bit is not 0
pub bit_nonzero : (m p : ℕ) → bit m p ≡ true → m ≡ 0 → ⊥
bit_nonzero m p set zero = grind (arith, no_bit p)

-- a byte has eight bits
pub bit_below : (m p : ℕ) → m < 256 → bit m p ≡ true → p < 8
bit_below m p small set =
    let wide : 8 ≤ p → 2 ^ 8 ≤ 2 ^ p = λ beyond. pow_mono beyond in
    grind (arith, bit_above m p, cases_lt p 8)

-- a byte is 2^k − 1 where the number above it is a power of two
abbrev power_right : ℕ → Bool
power_right m = cond (is_power_of_two (m + 1)) (first_parties m) (not (first_parties m))

power_table : all_below 256 power_right ≡ true
unfolding some_below ones
power_table = refl

pub power_first : (m : ℕ) → m < 256 → is_power_of_two (m + 1) ≡ first_parties m
power_first m small = let right = all_at 256 power_right power_table m small in grind arith

-- a mask of the first parties has the bits below their count, and no others
abbrev counted_at : ℕ → ℕ → Bool
counted_at m p = cond (bit m p) (ltb p (count_below 8 (bit m))) (leb (count_below 8 (bit m)) p)

abbrev first_right : ℕ → Bool
first_right m = implies (first_parties m) (all_below 8 (counted_at m))

first_table : all_below 256 first_right ≡ true
unfolding some_below sum_below
first_table = refl

module _ (mask : ℕ) (small : mask < 256) (first : first_parties mask ≡ true) where
  counted : (p : ℕ) → p < 8 → counted_at mask p ≡ true
  counted = all_at 8 (counted_at mask) (implied _ _ (all_at 256 first_right first_table mask small) first)

  pub first_has : (p : ℕ) → p < count_below 8 (bit mask) → bit mask p ≡ true
  first_has p lt = grind (arith, nat_tests, counted p, count_le 8 (bit mask))

  pub first_known : (p : ℕ) → bit mask p ≡ true → p < count_below 8 (bit mask)
  first_known p set = grind (arith, nat_tests, counted p, bit_below mask p small)
