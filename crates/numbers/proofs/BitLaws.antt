-- Laws of a number's bits.
use Rattle.std.proofs.Common.{◌≡◌, ℕ, zero, suc, ◌/◌, ◌%◌, ◌^◌, ◌<◌, Bool, true, false, ◌&&◌, ◌||◌, sym, ◌∙◌, arith}
use native.Mathlib.Nat.{two-pow-succ}
use lib.Bits.{bit_and, bit_or}
use Rattle.std.proofs.Math.Nat.{mod-lt}
use Rattle.std.proofs.lemmas.Nat.{pow_pos, div-add-mod'}
use Rattle.std.proofs.lemmas.Nat.Bits.{bit_at_and, bit_at_or, bit_at_above, bit_at_cat_low, bit_at_cat_high, bit_at-lt, same_from_bits_below}
use Rattle.std.proofs.lemmas.Bool.{cases_order}
use Rattle.std.proofs.lemmas.Bool.Decides.{nat_tests}
use Rattle.numbers.specs.Below.{sum_below}
use Rattle.numbers.specs.Bits.{bit, from_bits}

-- two tests that pass alike are equal
pub same_test : (a b : Bool) → (a ≡ true → b ≡ true) → (b ≡ true → a ≡ true) → a ≡ b
same_test a b f g = grind arith

pub bit_of_and : (a b k : ℕ) → bit (bit_and a b) k ≡ (bit a k && bit b k)
bit_of_and a b k = grind (arith, nat_tests, bit_at_and a b k, bit_at-lt a k, bit_at-lt b k)

pub bit_of_or : (a b k : ℕ) → bit (bit_or a b) k ≡ (bit a k || bit b k)
bit_of_or a b k = grind (arith, nat_tests, bit_at_or a b k, bit_at-lt a k, bit_at-lt b k)

-- bits above a number are not set
pub bit_above : (n k : ℕ) → n < 2 ^ k → bit n k ≡ false
bit_above n k lt = grind (arith, bit_at_above n k k)

-- a remainder by a power of two keeps the bits below
pub bit_mod : (x n k : ℕ) → k < n → bit (x % 2 ^ n) k ≡ bit x k
bit_mod x n k lt = grind (arith, bit_at_cat_low (x / 2 ^ n) n (x % 2 ^ n) k, div-add-mod' x (2 ^ n))

pub from_bits_lt : (n : ℕ) (p : ℕ → Bool) → from_bits n p < 2 ^ n
unfolding sum_below
from_bits_lt zero p = omega arith
from_bits_lt (suc n) p = grind (arith, from_bits_lt n p, two-pow-succ n, pow_pos n)

-- the number has the bits that it is made of
pub bit_from : (n : ℕ) (p : ℕ → Bool) (k : ℕ) → k < n → bit (from_bits n p) k ≡ p k
unfolding sum_below
bit_from zero p k lt = absurd (omega arith)
bit_from (suc n) p k lt =
    let small = from_bits_lt n p in
    grind (arith, cases_order k n, bit_from n p k, bit_at_above (from_bits n p) n n, bit_at_cat_low 1 n (from_bits n p) k, bit_at_cat_high 1 n (from_bits n p) n)

-- numbers with the same bits are equal
pub bits_same : (n x y : ℕ) → x < 2 ^ n → y < 2 ^ n → ((k : ℕ) → k < n → bit x k ≡ bit y k) → x ≡ y
bits_same n x y xl yl same = same_from_bits_below n x y xl yl (λ k lt. grind (arith, same k, bit_at-lt x k, bit_at-lt y k))

pub from_bits_self : (n x : ℕ) → x < 2 ^ n → from_bits n (bit x) ≡ x
from_bits_self n x lt = bits_same n (from_bits n (bit x)) x (from_bits_lt n (bit x)) lt (bit_from n (bit x))

pub from_bits_same : (n : ℕ) (p q : ℕ → Bool) → ((k : ℕ) → k < n → p k ≡ q k) → from_bits n p ≡ from_bits n q
from_bits_same n p q h = bits_same n (from_bits n p) (from_bits n q) (from_bits_lt n p) (from_bits_lt n q) (λ k lt. bit_from n p k lt ∙ h k lt ∙ sym (bit_from n q k lt))

-- a number's lower bits are what is left of it by a power of two
pub from_bits_mod : (n x : ℕ) → from_bits n (bit x) ≡ x % 2 ^ n
from_bits_mod n x =
    from_bits_same n (bit x) (bit (x % 2 ^ n)) (λ k lt. sym (bit_mod x n k lt))
    ∙ from_bits_self n (x % 2 ^ n) (mod-lt x (pow_pos n))
