-- What a list holds.
use Rattle.std.proofs.Common.{◌≡◌, ℕ, zero, suc, ◌<◌, ◌⊎◌, List, [], ◌∷◌, ◌++◌, map, refl, ap, subst, inl, inr, ⊎_elim, arith}
use Rattle.std.proofs.ByRecursion.{has_append_left, has_append_right}
use Rattle.std.proofs.lemmas.Bool.{cases_order}
use Rattle.std.specs.List.{ContainsAt as Has}
use Rattle.numbers.specs.Below.{each_below}

pub has_none : {X : Type 0} {x : X} → Has [] x → ⊥
has_none h = let lt = h.1 in omega arith

pub has_here : {X : Type 0} (x : X) (xs : List X) → Has (x ∷ xs) x
has_here x xs = (0, omega arith, λ d. refl)

pub has_there : {X : Type 0} (y x : X) (xs : List X) → Has xs x → Has (y ∷ xs) x
has_there y x xs h = (suc h.0, let lt = h.1 in omega arith, h.2)

pub has_cons : {X : Type 0} (y x : X) (xs : List X) → Has (y ∷ xs) x → (y ≡ x) ⊎ Has xs x
has_cons y x xs (zero, lt, at) = inl (at y)
has_cons y x xs (suc k, lt, at) = inr (k, omega arith, at)

pub has_append : {X : Type 0} (xs ys : List X) (x : X) → Has (xs ++ ys) x → Has xs x ⊎ Has ys x
has_append [] ys x h = inr h
has_append (y ∷ xs) ys x h =
    ⊎_elim
    (λ same. inl (0, omega arith, λ d. same))
    (λ rest. ⊎_elim (λ left. inl (has_there y x xs left)) (λ right. inr right) (has_append xs ys x rest))
    (has_cons y x (xs ++ ys) h)

pub has_each : {X : Type 0} (n : ℕ) (at : ℕ → List X) (k : ℕ) (x : X) → k < n → Has (at k) x → Has (each_below n at) x
unfolding each_below
has_each zero at k x lt h = absurd (omega arith)
has_each {X} (suc n) at k x lt h =
    ⊎_elim
    (λ same. has_append_right (each_below n at) (at n) x (moved same))
    (⊎_elim (λ below. has_append_left (each_below n at) (at n) x (has_each n at k x below h)) (λ above. absurd (omega arith)))
    (cases_order k n)
  where
    moved : k ≡ n → Has (at n) x
    moved same = subst (λ j. Has (at j) x) same h

pub has_each_at : {X : Type 0} (n : ℕ) (at : ℕ → List X) (x : X) → Has (each_below n at) x → (k : ℕ) × (k < n) × Has (at k) x
unfolding each_below
has_each_at zero at x h = absurd (has_none h)
has_each_at (suc n) at x h =
    ⊎_elim
    (λ before. let found = has_each_at n at x before in (found.0, let lt = found.1 in omega arith, found.2))
    (λ here. (n, omega arith, here))
    (has_append (each_below n at) (at n) x h)

pub has_map : {X Y : Type 0} (f : X → Y) (xs : List X) (x : X) → Has xs x → Has (map f xs) (f x)
has_map f [] x h = absurd (has_none h)
has_map f (y ∷ xs) x h =
    ⊎_elim
    (λ same. (0, omega arith, λ d. ap f same))
    (λ rest. has_there (f y) (f x) (map f xs) (has_map f xs x rest))
    (has_cons y x xs h)

pub has_map_at : {X Y : Type 0} (f : X → Y) (xs : List X) (y : Y) → Has (map f xs) y → (x : X) × Has xs x × (f x ≡ y)
has_map_at f [] y h = absurd (has_none h)
has_map_at f (x ∷ xs) y h =
    ⊎_elim
    (λ same. (x, has_here x xs, same))
    (λ rest. let found = has_map_at f xs y rest in (found.0, has_there x found.0 xs found.1, found.2))
    (has_cons (f x) y (map f xs) h)
