-- What a kind of label is: operations on values, and the laws that they keep.
use Rattle.std.specs.Prelude.{◌≡◌, ℕ, Bool, true, false}
use Rattle.format.specs.Layout.{Bytes}
use Rattle.analysis.specs.Parties.{Set, ◌⊆◌, Disjoint}

-- the operations of a kind of label, on the values that its labels mean
pub record Algebra (V : Type 0) : Type 0 where
  -- the value that changes nothing
  pub unit : V
  -- x then y: what x does, followed by what y does
  pub then : V → V → V
  -- x either y: what either may do
  pub either : V → V → V
  -- whether a value concerns no party outside the set
  pub belongs : V → Set → Bool
  -- whether 32 label bytes suit the set
  pub suits : Bytes → Set → Bool
  -- the value that they make for it
  pub make : Bytes → Set → V
  -- the two numbers of 64 bits that a value is told as
  pub tell : V → ℕ × ℕ

-- the laws, which each kind has to show
pub record Laws {V : Type 0} (a : Algebra V) : Type 0 where
  -- "then" is associative
  pub then_associative : (x y z : V) → a.then (a.then x y) z ≡ a.then x (a.then y z)
  -- the unit changes nothing ahead of a value
  pub unit_then : (x : V) → a.then a.unit x ≡ x
  -- nor behind it
  pub then_unit : (x : V) → a.then x a.unit ≡ x
  -- "either" is associative
  pub either_associative : (x y z : V) → a.either (a.either x y) z ≡ a.either x (a.either y z)
  -- commutative
  pub either_commutative : (x y : V) → a.either x y ≡ a.either y x
  -- and idempotent
  pub either_idempotent : (x : V) → a.either x x ≡ x
  -- "then" distributes over "either" from the left
  pub then_either : (x y z : V) → a.then x (a.either y z) ≡ a.either (a.then x y) (a.then x z)
  -- and from the right
  pub either_then : (x y z : V) → a.then (a.either x y) z ≡ a.either (a.then x z) (a.then y z)
  -- the unit belongs to every set
  pub unit_belongs : (P : Set) → a.belongs a.unit P ≡ true
  -- values of a set stay in it under "then"
  pub then_belongs : (x y : V) (P : Set) → a.belongs x P ≡ true → a.belongs y P ≡ true → a.belongs (a.then x y) P ≡ true
  -- and under "either"
  pub either_belongs : (x y : V) (P : Set) → a.belongs x P ≡ true → a.belongs y P ≡ true → a.belongs (a.either x y) P ≡ true
  -- and belong to every larger set
  pub larger_belongs : (x : V) (P Q : Set) → P ⊆ Q → a.belongs x P ≡ true → a.belongs x Q ≡ true
  -- values of disjoint sets give the same under "then" in both orders
  pub disjoint_commute : (x y : V) (P Q : Set) → Disjoint P Q → a.belongs x P ≡ true → a.belongs y Q ≡ true → a.then x y ≡ a.then y x
  -- bytes that suit a set make a value that belongs to it
  pub suiting_belongs : (bytes : Bytes) (P : Set) → a.suits bytes P ≡ true → a.belongs (a.make bytes P) P ≡ true
  -- bytes that do not suit make the unit
  pub unsuiting_unit : (bytes : Bytes) (P : Set) → a.suits bytes P ≡ false → a.make bytes P ≡ a.unit
