-- What iterators answer, as searches and sums below n.
use Rattle.std.proofs.Common.{◌≡◌, ℕ, zero, suc, ◌*◌, ◌%◌, ◌^◌, ◌<◌, ◌≤◌, Bool, true, false, not, List, [], ◌∷◌, ◌++◌, refl, ap, ◌∙◌, arith}
use native.Mathlib.Numerals.{unary_clauses}
use lib.Bits.{bit_or, or_shifted_r}
use denote.Param.Members.{Mut}
use Rattle.std.specs.Bool.{MatchBool}
use Rattle.std.specs.Fn.{Called}
use Rattle.std.specs.Iterator.{ChecksAny, ChecksAll}
use Rattle.std.specs.List.{list_any, list_all, range_with_len, filter, fold}
use Rattle.std.specs.declared.ops.Range.{Range}
use Rattle.std.proofs.iter.Rest.{range_with_len_last}
use Rattle.std.proofs.iter.Yields.{nat_range_steps}
use Rattle.std.proofs.lemmas.Iterator.{YieldsList-from_range}
use Rattle.std.proofs.lemmas.Iterator.Search.{any_from_yields_List, all_from_yields_List}
use Rattle.std.proofs.lemmas.List.Elements.{filter-append}
use Rattle.std.proofs.lemmas.List.Folds.{list_any-append}
use Rattle.std.proofs.lemmas.Nat.{one_shl}
use Rattle.std.proofs.lemmas.Grind.{common_steps}
use Rattle.numbers.specs.Below.{sum_below, some_below}
use Rattle.numbers.specs.Bits.{from_bits}
use Rattle.numbers.proofs.BelowLaws.{some_found, some_none}
use Rattle.numbers.proofs.BitLaws.{from_bits_lt}

range_more : (n : ℕ) → range_with_len 0 (suc n) ≡ range_with_len 0 n ++ n ∷ []
range_more n = simp unary_clauses at (range_with_len_last 0 (suc n) (omega arith))

any_range : (n : ℕ) (p : ℕ → Bool) → list_any p (range_with_len 0 n) ≡ some_below n p
unfolding some_below
any_range zero p = refl
any_range (suc n) p = ap (list_any p) (range_more n) ∙ (let rest = any_range n p in grind (arith, list_any-append p (range_with_len 0 n) (n ∷ [])))

all_none : (p : ℕ → Bool) (xs : List ℕ) → list_all (λ k. not (p k)) xs ≡ not (list_any p xs)
all_none p [] = refl
all_none p (x ∷ xs) = let rest = all_none p xs in grind arith

module _ {F : Type 0} {g : Mut F (ℕ × Unit {0}) Bool} {s : Range ℕ} (u : Range ℕ) (f : F) (r : Bool) (n : ℕ) (p : ℕ → Bool) where
  -- `any` over `0..n` finds whether some number passes p
  pub some_from_any : s ≡ record { start = 0; end = n } → ChecksAny nat_range_steps g s f r u → ((k : ℕ) (b : Bool) (q : F) → Called g f (k, tt) b q → (q ≡ f) × (b ≡ p k)) → r ≡ some_below n p
  some_from_any whole ran call = any_from_yields_List p u f r ran (YieldsList-from_range 0 n n whole (omega arith)) call ∙ any_range n p

  -- and `all` whether none does
  pub none_from_all : s ≡ record { start = 0; end = n } → ChecksAll nat_range_steps g s f r u → ((k : ℕ) (b : Bool) (q : F) → Called g f (k, tt) b q → (q ≡ f) × (b ≡ not (p k))) → r ≡ not (some_below n p)
  none_from_all whole ran call = all_from_yields_List (λ k. not (p k)) u f r ran (YieldsList-from_range 0 n n whole (omega arith)) call ∙ all_none p (range_with_len 0 n) ∙ ap not (any_range n p)

-- sets bit k of r
abbrev pub with_bit : ℕ → ℕ → ℕ
with_bit r k = bit_or r (1 * 2 ^ k % 2 ^ 64)

-- setting each bit that passes p makes the number of those bits
pub bits_set : (n : ℕ) (p : ℕ → Bool) → n ≤ 64 → fold with_bit 0 (filter p (range_with_len 0 n)) ≡ from_bits n p
unfolding sum_below
bits_set zero p le = refl
bits_set (suc n) p le =
    let rest = bits_set n p (omega arith) in
    let small = from_bits_lt n p in
    ap (λ xs. fold with_bit 0 (filter p xs)) (range_more n)
    ∙ grind (arith, common_steps, filter-append p (range_with_len 0 n) (n ∷ []), one_shl n 64, or_shifted_r 1 n (from_bits n p))

-- what `all` answers over a list of n, as a search below n
pub all_tells : (n : ℕ) (p : ℕ → Bool) (r : Bool) → MatchBool r ((k : ℕ) → k < n → p k ≡ false) ((k : ℕ) × (k < n) × (p k ≡ true)) → r ≡ not (some_below n p)
all_tells n p true none = grind (arith, some_none n p none)
all_tells n p false some = grind (arith, some_found n p some.0 some.1 some.2)
