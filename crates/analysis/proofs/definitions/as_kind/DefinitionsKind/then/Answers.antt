use Rattle.std.proofs.Common.{◌∙◌, ℕ, ◌^◌, ◌<◌, ◌||◌, ap, arith}
use lib.Bits.{bit_and, bit_or}
use Rattle.std.proofs.lemmas.Nat.{and_le_l, or_lt}
use Rattle.numbers.proofs.BitLaws.{bit_of_and, bit_of_or}
use Rattle.analysis.specs.DefinitionsAlgebra.{defined}
use Rattle.analysis.specs.DefinitionsLaws.{is_sited}
use Rattle.analysis.proofs.definitions.as_kind.DefinitionsKind.then.Goals as goal

or_within : (a b : ℕ) → a < 2 ^ 64 → b < 2 ^ 64 → bit_or a b < 2 ^ 64
or_within a b = or_lt 64 a b

-- whichever halves they are, each is within
pub invariant_of-result : goal.invariant_of-result
invariant_of-result c =
    let x = c.args.self.now in
    let y = c.args.other.now in
    record { within = (grind (arith, and_le_l, x.within, y.within), grind (arith, and_le_l, or_within, x.within, y.within)) }

pub returns : goal.returns
returns c =
    let x = c.args.self.now in
    let y = c.args.other.now in
    is_sited _ _ _ (λ b lt i. (bit_of_and x.keep y.keep b i, (bit_of_or (bit_and x.gens y.keep) y.gens b ∙ ap (λ a. a || defined y b) (bit_of_and x.gens y.keep b)) i))
