-- Flags: relations over the eight values of three flags.
use Rattle.std.specs.Prelude.{ℕ, ◌+◌, ◌*◌, ◌/◌, ◌%◌, ◌^◌, Bool, cond, not, ◌&&◌, ◌||◌, ◌==◌, bit_xor, nat_eq}
use Rattle.std.proofs.Common.{mod-lt, pow_pos}
use Rattle.numbers.specs.Below.{some_below}
use Rattle.analysis.specs.Algebra.{Algebra}
use Rattle.numbers.specs.Bits.{bit, from_bits}
use Rattle.analysis.specs.LabelBytes.{number64, relation_in}
use Rattle.analysis.specs.Parties.{Set}
use Rattle.analysis.specs.declared.flags.Flags.{Flags}
use Rattle.numbers.proofs.BitLaws.{from_bits_lt}

-- whether v may become w
abbrev pub may : ℕ → ℕ → ℕ → Bool
may relation v w = bit relation (8 * v + w)

-- the relation in which v may become w where p v w
abbrev pub related : (ℕ → ℕ → Bool) → Flags
related p = record { relation = from_bits 64 (λ k. p (k / 8) (k % 8)); within = from_bits_lt 64 (λ k. p (k / 8) (k % 8)) }

-- whether x takes v to some u that y takes to w
abbrev pub through : ℕ → ℕ → ℕ → ℕ → Bool
through x y v w = some_below 8 (λ u. may x v u && may y u w)

-- whether flag i has one value in v and in w
abbrev pub same_flag : ℕ → ℕ → ℕ → Bool
same_flag i v w = v / 2 ^ i % 2 == w / 2 ^ i % 2

-- v with flag i flipped
abbrev pub flipped : ℕ → ℕ → ℕ
flipped i v = bit_xor v (2 ^ i)

-- whether v may become w, but this changes flag i, or flag i flipped on both sides is no pair
abbrev pub strays : ℕ → ℕ → ℕ → ℕ → Bool
strays relation i v w = may relation v w && not (same_flag i v w && may relation (flipped i v) (flipped i w))

-- whether no pair strays at a flag of a party outside the set
abbrev pub stays_within : ℕ → Set → Bool
stays_within relation P = not (some_below 3 (λ i. not (P i) && some_below 64 (λ k. strays relation i (k / 8) (k % 8))))

-- the operations: relational composition and union
abbrev pub flags_algebra : Algebra Flags
flags_algebra =
    record {
      unit = related (λ v w. nat_eq v w);
      then = λ x y. related (through x.relation y.relation);
      either = λ x y. related (λ v w. may x.relation v w || may y.relation v w);
      belongs = λ x P. stays_within x.relation P;
      suits = λ bytes P. stays_within (relation_in bytes) P;
      make = λ bytes P.
          cond (stays_within (relation_in bytes) P)
          (record { relation = relation_in bytes; within = mod-lt (number64 bytes 8) (pow_pos 64) })
          (related (λ v w. nat_eq v w));
      tell = λ x. (x.relation, 0);
    }
