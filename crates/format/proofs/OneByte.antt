-- One changed byte breaks a right check.
use Rattle.std.proofs.Common.{◌≡◌, ℕ, zero, suc, ◌+◌, ◌*◌, ◌<◌, ◌≤◌, ◌≢◌, length, set, refl, arith, get_or-set_other, get_or-set_same}
use native.Mathlib.Nat.{eq_of_mul-eq-mul_left}
use Rattle.std.proofs.lemmas.Bool.{cases_lt, cases_order}
use Rattle.std.proofs.lemmas.Bool.Decides.{nat_tests}
use Rattle.numbers.specs.Below.{sum_below}
use Rattle.format.specs.Layout.{Bytes, byte}
use Rattle.format.specs.Changed.{OneChangedByteBreaksTheCheck}

module _ (block : Bytes) (i value : ℕ) (inside : i < length block) where
  abbrev changed : Bytes
  changed = set block i value

  there : byte changed i ≡ value
  there = get_or-set_same block i value 0 inside

  elsewhere : (k : ℕ) → k ≢ i → byte changed k ≡ byte block k
  elsewhere k ne = get_or-set_other block i k value 0 ne

  abbrev weighted : Bytes → ℕ → ℕ
  weighted bs k = (k + 1) * byte bs k

  -- a byte that is not summed leaves the sum
  sum_same : (n : ℕ) → n ≤ i → sum_below n (weighted changed) ≡ sum_below n (weighted block)
  unfolding sum_below
  sum_same zero le = refl
  sum_same (suc n) le =
      let rest = sum_same n (omega arith) in grind (arith, elsewhere n)

  -- one that is summed moves it by its weight
  sum_moves : (n : ℕ) → i < n → sum_below n (weighted changed) + (i + 1) * byte block i ≡ sum_below n (weighted block) + (i + 1) * value
  unfolding sum_below
  sum_moves zero lt = absurd (omega arith)
  sum_moves (suc n) lt =
      let same = sum_same n in
      let below = sum_moves n in
      grind (arith, there, elsewhere n, cases_order i n)

pub one_changed_byte : OneChangedByteBreaksTheCheck
one_changed_byte block i value long right inside moved =
    let within : i < length block = omega arith in
    let elsewhere = elsewhere block i value within in
    let same = sum_same block i value within 508 in
    let moves = sum_moves block i value within 508 in
    let product = eq_of_mul-eq-mul_left (i + 1) (omega arith) (byte block i) value in
    grind (arith, nat_tests, there block i value within, elsewhere 508, elsewhere 509, elsewhere 510, elsewhere 511, cases_lt i 508)
