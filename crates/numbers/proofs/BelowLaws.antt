-- Laws of sums, counts and searches below a bound.
use Rattle.std.proofs.Common.{◌≡◌, ℕ, zero, suc, ◌+◌, ◌<◌, ◌≤◌, Bool, true, false, ◌||◌, refl, ap, add-one, arith}
use Rattle.std.proofs.lemmas.Bool.{false≢true, cases_lt, cases_order}
use Rattle.numbers.specs.Below.{sum_below, count_below, some_below, first_below}

pub sum_more : (n : ℕ) (f : ℕ → ℕ) → sum_below (n + 1) f ≡ sum_below n f + f n
unfolding sum_below
sum_more n f = rw add-one

pub some_more : (n : ℕ) (p : ℕ → Bool) → some_below (n + 1) p ≡ (p n || some_below n p)
unfolding some_below
some_more n p = rw add-one

pub some_found : (n : ℕ) (p : ℕ → Bool) (k : ℕ) → k < n → p k ≡ true → some_below n p ≡ true
unfolding some_below
some_found zero p k lt h = absurd (omega arith)
some_found (suc n) p k lt h = let rest = some_found n p k in grind (arith, cases_order k n)

-- searches by tests that pass alike
pub some_same : (n : ℕ) (p q : ℕ → Bool) → ((k : ℕ) → k < n → p k ≡ q k) → some_below n p ≡ some_below n q
unfolding some_below
some_same zero p q h = refl
some_same (suc n) p q h = let rest = some_same n p q (λ k lt. h k (omega arith)) in grind (arith, h n)

-- a search that has found nothing, at its start and one number further
pub none_yet : (p : ℕ → Bool) → some_below 0 p ≡ false
unfolding some_below
none_yet p = refl

pub none_more : (n : ℕ) (p : ℕ → Bool) → some_below n p ≡ false → p n ≡ false → some_below (n + 1) p ≡ false
none_more n p none here = grind (arith, some_more n p)

pub some_at : (n : ℕ) (p : ℕ → Bool) → some_below n p ≡ true → (k : ℕ) × (k < n) × (p k ≡ true)
unfolding some_below
some_at zero p h = absurd (false≢true h)
some_at (suc n) p h = let found = some_at n p in grind arith

pub some_none : (n : ℕ) (p : ℕ → Bool) → ((k : ℕ) → k < n → p k ≡ false) → some_below n p ≡ false
some_none n p h = let found = some_at n p in grind arith

pub none_at : (n : ℕ) (p : ℕ → Bool) → some_below n p ≡ false → (k : ℕ) → k < n → p k ≡ false
none_at n p h k lt = let found = some_found n p k lt in grind arith

pub count_none : (n : ℕ) (p : ℕ → Bool) → ((k : ℕ) → k < n → p k ≡ false) → count_below n p ≡ 0
unfolding sum_below
count_none zero p h = refl
count_none (suc n) p h = let rest = count_none n p (λ k lt. h k (omega arith)) in grind (arith, h n)

-- where every number from `from` on passes p, and none below, the count is what is left
pub count_from : (n : ℕ) (p : ℕ → Bool) → (from : ℕ) → ((k : ℕ) → k < from → p k ≡ false) → ((k : ℕ) → from ≤ k → k < n → p k ≡ true) → from ≤ n → count_below n p + from ≡ n
unfolding sum_below
count_from zero p from below above le = omega arith
count_from (suc n) p from below above le =
    let none = λ (lt : n < from). count_none n p (λ k l. below k (omega arith)) in
    let rest = count_from n p from below (λ k l m. above k l (omega arith)) in
    grind (arith, cases_lt n from, below n, above n)

-- what the least number that passes tells
pub record Least (n : ℕ) (p : ℕ → Bool) (least : ℕ) : Type 0 where
  pub within : least ≤ n
  pub before : (k : ℕ) → k < least → p k ≡ false
  pub passes : least < n → p least ≡ true

pub first_tells : (n : ℕ) (p : ℕ → Bool) → Least n p (first_below n p)
unfolding first_below
first_tells zero p = record { within = omega arith; before = λ k lt. absurd (omega arith); passes = λ lt. absurd (omega arith) }
first_tells (suc n) p =
    let below = first_tells n p in
    let found = some_at n p in
    let missed = λ (some : some_below n p ≡ true). below.before (some_at n p some).0 in
    record {
      within = grind (arith, below.within);
      before = λ k lt. grind (arith, below.before k, none_at n p, cases_order k n);
      passes = λ lt. grind (arith, below.passes, below.within);
    }

pub first_none : (n : ℕ) (p : ℕ → Bool) → ((k : ℕ) → k < n → p k ≡ false) → first_below n p ≡ n
first_none n p h = let t = first_tells n p in grind (arith, t.within, t.passes, h (first_below n p))

pub first_is : (n : ℕ) (p : ℕ → Bool) (k : ℕ) → k < n → p k ≡ true → ((j : ℕ) → j < k → p j ≡ false) → first_below n p ≡ k
first_is n p k lt h none = let t = first_tells n p in grind (arith, t.before k, t.passes, none (first_below n p), cases_order k (first_below n p))

pub count_le : (n : ℕ) (p : ℕ → Bool) → count_below n p ≤ n
unfolding sum_below
count_le zero p = omega arith
count_le (suc n) p = let rest = count_le n p in grind arith

-- counts grow with the bound
pub count_le_count : (n : ℕ) (p : ℕ → Bool) (k : ℕ) → k ≤ n → count_below k p ≤ count_below n p
unfolding sum_below
count_le_count zero p k le = grind arith
count_le_count (suc n) p k le = let rest = count_le_count n p k in let top = λ (all : k ≡ suc n). ap (λ j. count_below j p) all in grind (arith, cases_lt k (suc n))

-- and by one where a number passes
pub count_lt_count : (n : ℕ) (p : ℕ → Bool) (k : ℕ) → k < n → p k ≡ true → count_below k p < count_below n p
unfolding sum_below
count_lt_count n p k lt passes = let up : count_below (suc k) p ≤ count_below n p = count_le_count n p (suc k) lt in grind arith

-- numbers that pass with as many before them are the same
pub count_tells : (p : ℕ → Bool) (k l : ℕ) → p k ≡ true → p l ≡ true → count_below k p ≡ count_below l p → k ≡ l
count_tells p k l pk pl same = grind (arith, cases_order k l, count_lt_count l p k, count_lt_count k p l)

-- the i-th number that passes
pub count_at : (n : ℕ) (p : ℕ → Bool) (i : ℕ) → i < count_below n p → (k : ℕ) × (k < n) × (p k ≡ true) × (count_below k p ≡ i)
unfolding sum_below
count_at zero p i lt = absurd (omega arith)
count_at (suc n) p i lt = let found = count_at n p i in grind (arith, cases_lt i (count_below n p))
