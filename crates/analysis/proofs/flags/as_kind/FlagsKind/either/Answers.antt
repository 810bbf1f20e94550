use Rattle.std.proofs.Common.{◌≡◌, ◌+◌, ◌*◌, ◌/◌, ◌%◌, ◌||◌, sym, ap, ◌∙◌, arith}
use lib.Bits.{bit_or, or_lt}
use Rattle.numbers.specs.Bits.{bit}
use Rattle.numbers.proofs.BitLaws.{bit_of_or, from_bits_self, from_bits_same}
use Rattle.analysis.specs.FlagsAlgebra.{may}
use Rattle.analysis.specs.FlagPairs.{same_flags}
use Rattle.analysis.proofs.flags.as_kind.FlagsKind.either.Goals as goal

pub invariant_of-result : goal.invariant_of-result
invariant_of-result c = record { within = or_lt 64 _ _ c.args.self.now.within c.args.other.now.within }

pub returns : goal.returns
returns c =
    let x = c.args.self.now.relation in
    let y = c.args.other.now.relation in
    same_flags _ _
    (sym (from_bits_self 64 (bit_or x y) (or_lt 64 x y c.args.self.now.within c.args.other.now.within))
    ∙ from_bits_same 64 (bit (bit_or x y)) (λ k. may x (k / 8) (k % 8) || may y (k / 8) (k % 8))
    (λ k lt. let whole : 8 * (k / 8) + k % 8 ≡ k = omega arith in bit_of_or x y k ∙ ap (λ n. bit x n || bit y n) (sym whole)))
