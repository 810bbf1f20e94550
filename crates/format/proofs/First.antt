-- Laws of the first check that fails.
use Rattle.std.proofs.Common.{◌≡◌, ℕ, zero, suc, ◌+◌, ◌<◌, true, false, List, [], ◌∷◌, ◌++◌, Some, None, Option, sym, refl, ◌∙◌, add-one, arith}
use Rattle.std.proofs.lemmas.Bool.{cases_order, cond-true, cond-false}
use Rattle.format.specs.Refusals.{Refusal, Check, first_failing}
use Rattle.numbers.specs.Below.{each_below}

-- the first answer, else the second
abbrev pub or_else : Option Refusal → Option Refusal → Option Refusal
or_else None r = r
or_else (Some x) r = Some x

pub first_append : (xs ys : List Check) → first_failing (xs ++ ys) ≡ or_else (first_failing xs) (first_failing ys)
first_append [] ys = refl
first_append (c ∷ xs) ys = let rest = first_append xs ys in grind arith

pub past : (xs ys : List Check) → first_failing xs ≡ None → first_failing (xs ++ ys) ≡ first_failing ys
past xs ys none = rw (first_append, none)

pub stops : (xs ys : List Check) (r : Refusal) → first_failing xs ≡ Some r → first_failing (xs ++ ys) ≡ Some r
stops xs ys r some = rw (first_append, some)

pub each_none : (checks : ℕ → List Check) → first_failing (each_below 0 checks) ≡ None
unfolding each_below
each_none checks = refl

pub each_more : (n : ℕ) (checks : ℕ → List Check) → first_failing (each_below n checks) ≡ None → first_failing (each_below (n + 1) checks) ≡ first_failing (checks n)
unfolding each_below
each_more n checks none = rw add-one (past (each_below n checks) (checks n) none)

-- where none fails at any place, none fails
pub each_all : (n : ℕ) (checks : ℕ → List Check) → ((k : ℕ) → k < n → first_failing (checks k) ≡ None) → first_failing (each_below n checks) ≡ None
unfolding each_below
each_all zero checks none = refl
each_all (suc n) checks none = past (each_below n checks) (checks n) (each_all n checks (λ k lt. none k (omega arith))) ∙ none n (omega arith)

pub each_stops : (n : ℕ) (checks : ℕ → List Check) (i : ℕ) (r : Refusal) → i < n → first_failing (each_below i checks) ≡ None → first_failing (checks i) ≡ Some r → first_failing (each_below n checks) ≡ Some r
unfolding each_below
each_stops zero checks i r lt none some = absurd (omega arith)
each_stops (suc n) checks i r lt none some =
    let below = each_stops n checks i r in
    grind (arith, cases_order i n, past (each_below n checks) (checks n), stops (each_below n checks) (checks n) r)

-- where none fails, each one passes
pub none_first : (c : Check) (cs : List Check) → first_failing (c ∷ cs) ≡ None → (c.fails ≡ false) × (first_failing cs ≡ None)
none_first c cs none = (grind arith, grind arith)

pub none_parts : (xs ys : List Check) → first_failing (xs ++ ys) ≡ None → (first_failing xs ≡ None) × (first_failing ys ≡ None)
none_parts xs ys none = go (first_failing xs) (first_failing ys) (sym (first_append xs ys) ∙ none)
  where
    go : (a b : Option Refusal) → or_else a b ≡ None → (a ≡ None) × (b ≡ None)
    go None b e = (refl, e)
    go (Some x) b e = cc

pub each_at : (n : ℕ) (checks : ℕ → List Check) (i : ℕ) → i < n → first_failing (each_below n checks) ≡ None → first_failing (checks i) ≡ None
unfolding each_below
each_at zero checks i lt none = absurd (omega arith)
each_at (suc n) checks i lt none =
    let parts = none_parts (each_below n checks) (checks n) none in
    let below = each_at n checks i in
    grind (arith, cases_order i n)

-- where one check is made at each place
module _ (check : ℕ → Check) where
  abbrev pub one_each : ℕ → List Check
  one_each n = each_below n (λ k. check k ∷ [])

  pub one_more : (n : ℕ) → first_failing (one_each n) ≡ None → (check n).fails ≡ false → first_failing (one_each (n + 1)) ≡ None
  one_more n none passes = each_more n (λ k. check k ∷ []) none ∙ cond-false (check n).fails (Some (check n).answers) None passes

  pub one_stops : (n i : ℕ) → i < n → first_failing (one_each i) ≡ None → (check i).fails ≡ true → first_failing (one_each n) ≡ Some (check i).answers
  one_stops n i lt none fails = each_stops n (λ k. check k ∷ []) i (check i).answers lt none (cond-true (check i).fails (Some (check i).answers) None fails)

  pub one_passes : (n : ℕ) → first_failing (one_each n) ≡ None → (k : ℕ) → k < n → (check k).fails ≡ false
  one_passes n none k lt = (none_first (check k) [] (each_at n (λ j. check j ∷ []) k lt none)).0
