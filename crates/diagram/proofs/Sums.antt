-- Sums that grow.
use Rattle.std.proofs.Common.{◌≡◌, ℕ, zero, suc, ◌*◌, ◌<◌, ◌≤◌, ap, subst, ⊎_elim, suc-mul, arith}
use Rattle.std.proofs.lemmas.Bool.{cases_order}
use Rattle.numbers.specs.Below.{sum_below, greatest_below}

pub sum_le : (n : ℕ) (f g : ℕ → ℕ) → ((k : ℕ) → k < n → f k ≤ g k) → sum_below n f ≤ sum_below n g
unfolding sum_below
sum_le zero f g h = omega arith
sum_le (suc n) f g h = let rest = sum_le n f g (λ k lt. h k (omega arith)) in let here = h n (omega arith) in omega arith

-- where one summand grows, the sum does
pub sum_lt : (n : ℕ) (f g : ℕ → ℕ) → ((k : ℕ) → k < n → f k ≤ g k) → (j : ℕ) → j < n → f j < g j → sum_below n f < sum_below n g
unfolding sum_below
sum_lt zero f g h j lt grows = absurd (omega arith)
sum_lt (suc n) f g h j lt grows =
    ⊎_elim
    (λ same.
    let rest = sum_le n f g (λ k l. h k (omega arith)) in
    let here : f n < g n = subst (λ k. f k < g k) same grows in
    omega arith)
    (⊎_elim
    (λ below. let rest = sum_lt n f g (λ k l. h k (omega arith)) j below grows in let here = h n (omega arith) in omega arith)
    (λ above. absurd (omega arith)))
    (cases_order j n)

pub sum_const_le : (n m : ℕ) (f : ℕ → ℕ) → ((k : ℕ) → k < n → f k ≤ m) → sum_below n f ≤ n * m
unfolding sum_below
sum_const_le zero m f h = omega arith
sum_const_le (suc n) m f h =
    let rest = sum_const_le n m f (λ k lt. h k (omega arith)) in
    let here = h n (omega arith) in
    omega (arith, suc-mul n m)

pub greatest_at : (n : ℕ) (f : ℕ → ℕ) (k : ℕ) → k < n → f k ≤ greatest_below n f
unfolding greatest_below
greatest_at zero f k lt = absurd (omega arith)
greatest_at (suc n) f k lt =
    ⊎_elim
    (λ same. let here : f k ≡ f n = ap f same in omega arith)
    (⊎_elim (λ below. let rest = greatest_at n f k below in omega arith) (λ above. absurd (omega arith)))
    (cases_order k n)
