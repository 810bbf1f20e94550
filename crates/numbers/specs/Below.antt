-- Sums, counts and searches over the numbers below a bound.
use Rattle.std.specs.Prelude.{ℕ, zero, suc, ◌+◌, max, Bool, false, cond, ◌||◌, List, [], ◌++◌}

-- f 0 + f 1 + … + f (n − 1)
unfoldable pub sum_below : ℕ → (ℕ → ℕ) → ℕ
sum_below zero f = 0
sum_below (suc n) f = sum_below n f + f n

-- how many numbers below n pass p
abbrev pub count_below : ℕ → (ℕ → Bool) → ℕ
count_below n p = sum_below n (λ k. cond (p k) 1 0)

-- whether some number below n passes p
unfoldable pub some_below : ℕ → (ℕ → Bool) → Bool
some_below zero p = false
some_below (suc n) p = p n || some_below n p

-- the least number below n that passes p; n where none does
unfoldable pub first_below : ℕ → (ℕ → Bool) → ℕ
first_below zero p = 0
first_below (suc n) p = cond (some_below n p) (first_below n p) (cond (p n) n (suc n))

-- the list at 0, then that at 1, and so on below n
unfoldable pub each_below : {X : Type 0} → ℕ → (ℕ → List X) → List X
each_below zero at = []
each_below (suc n) at = each_below n at ++ at n

-- the greatest f k with k below n; 0 where n is 0
unfoldable pub greatest_below : ℕ → (ℕ → ℕ) → ℕ
greatest_below zero f = 0
greatest_below (suc n) f = max (greatest_below n f) (f n)
