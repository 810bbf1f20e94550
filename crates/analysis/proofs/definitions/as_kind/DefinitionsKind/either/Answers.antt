use Rattle.std.proofs.lemmas.Nat.{or_lt}
use Rattle.numbers.proofs.BitLaws.{bit_of_or}
use Rattle.analysis.specs.DefinitionsLaws.{is_sited}
use Rattle.analysis.proofs.definitions.as_kind.DefinitionsKind.either.Goals as goal

pub invariant_of-result : goal.invariant_of-result
invariant_of-result c =
    let x = c.args.self.now in
    let y = c.args.other.now in
    record { within = (or_lt 64 _ _ x.within.0 y.within.0, or_lt 64 _ _ x.within.1 y.within.1) }

pub returns : goal.returns
returns c =
    let x = c.args.self.now in
    let y = c.args.other.now in
    is_sited _ _ _ (λ b lt i. (bit_of_or x.keep y.keep b i, bit_of_or x.gens y.gens b i))
