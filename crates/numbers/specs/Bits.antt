-- A number's bits, bit 0 the least significant.
use Rattle.std.specs.Prelude.{ℕ, ◌/◌, ◌%◌, ◌^◌, Bool, cond, ◌==◌}
use Rattle.numbers.specs.Below.{sum_below}

-- bit k of n
abbrev pub bit : ℕ → ℕ → Bool
bit n k = n / 2 ^ k % 2 == 1

-- the number below 2 ^ n whose bit k is p k
abbrev pub from_bits : ℕ → (ℕ → Bool) → ℕ
from_bits n p = sum_below n (λ k. cond (p k) (2 ^ k) 0)
