-- Counts and sums that are compared test by test.
use Rattle.std.proofs.Common.{◌≡◌, ℕ, zero, suc, ◌+◌, ◌*◌, ◌<◌, ◌≤◌, Bool, true, false, cond, refl, ap, ⊎_elim, suc-mul, arith}
use Rattle.std.proofs.lemmas.Bool.{both_ways, cases_Bool, cond-true, cond-false}
use Rattle.numbers.specs.Below.{sum_below, count_below}
use Rattle.diagram.proofs.Sums.{sum_le, sum_lt}

-- what counts for a test that passes is no more where it passes too
pub weight_le : (x y : Bool) (f g : ℕ) → (x ≡ true → (y ≡ true) × (f ≤ g)) → cond x f 0 ≤ cond y g 0
weight_le true true f g h = (h refl).1
weight_le true false f g h = absurd (both_ways false refl (h refl).0)
weight_le false y f g h = omega arith

pub count_le : (n : ℕ) (p q : ℕ → Bool) → ((k : ℕ) → k < n → p k ≡ true → q k ≡ true) → count_below n p ≤ count_below n q
count_le n p q h = sum_le n (λ k. cond (p k) 1 0) (λ k. cond (q k) 1 0) (λ k lt. weight_le (p k) (q k) 1 1 (λ x. (h k lt x, omega arith)))

pub count_lt : (n : ℕ) (p q : ℕ → Bool) → ((k : ℕ) → k < n → p k ≡ true → q k ≡ true) → (j : ℕ) → j < n → p j ≡ false → q j ≡ true → count_below n p < count_below n q
count_lt n p q h j lt fails passes =
    let low : cond {A = ℕ} (p j) 1 0 ≡ 0 = cond-false (p j) 1 0 fails in
    let high : cond {A = ℕ} (q j) 1 0 ≡ 1 = cond-true (q j) 1 0 passes in
    sum_lt n (λ k. cond (p k) 1 0) (λ k. cond (q k) 1 0) (λ k l. weight_le (p k) (q k) 1 1 (λ x. (h k l x, omega arith))) j lt (omega arith)

-- a sum over the numbers that pass, each no more than c
pub weighed_le : (n c : ℕ) (p : ℕ → Bool) (f : ℕ → ℕ) → ((k : ℕ) → k < n → p k ≡ true → f k ≤ c) → sum_below n (λ k. cond (p k) (f k) 0) ≤ count_below n p * c
unfolding sum_below
weighed_le zero c p f h = omega arith
weighed_le (suc n) c p f h =
    let rest = weighed_le n c p f (λ k lt. h k (omega arith)) in
    ⊎_elim
    (λ passes.
    let here = h n (omega arith) passes in
    let value : cond {A = ℕ} (p n) (f n) 0 ≡ f n = cond-true (p n) (f n) 0 passes in
    let one : cond {A = ℕ} (p n) 1 0 ≡ 1 = cond-true (p n) 1 0 passes in
    let all : (count_below n p + cond {A = ℕ} (p n) 1 0) * c ≡ suc (count_below n p) * c = ap (λ x. x * c) (omega arith) in
    omega (arith, suc-mul (count_below n p) c))
    (λ fails.
    let value : cond {A = ℕ} (p n) (f n) 0 ≡ 0 = cond-false (p n) (f n) 0 fails in
    let none : cond {A = ℕ} (p n) 1 0 ≡ 0 = cond-false (p n) 1 0 fails in
    let all : (count_below n p + cond {A = ℕ} (p n) 1 0) * c ≡ count_below n p * c = ap (λ x. x * c) (omega arith) in
    omega arith)
    (cases_Bool (p n))
