-- Party sets.
use Rattle.std.specs.Prelude.{◌≡◌, ℕ, Bool, true, ◌≢◌}
use Rattle.numbers.specs.Bits.{bit}
use Rattle.analysis.specs.declared.parties.Parties.{Parties}

-- a set of parties: whether each is in it
abbrev pub Set : Type 0
Set = ℕ → Bool

-- the parties of a mask: bit p stands for party p
abbrev pub members : Parties → Set
members parties p = bit parties.mask p

infix 50 ◌⊆◌
-- P lies in Q
abbrev pub ◌⊆◌ : Set → Set → Type 0
P ⊆ Q = (p : ℕ) → P p ≡ true → Q p ≡ true

-- no party is in both
abbrev pub Disjoint : Set → Set → Type 0
Disjoint P Q = (p : ℕ) → P p ≡ true → Q p ≢ true
