use Rattle.std.proofs.Common.{◌^◌, ◌≤◌, sym, ◌∙◌, arith, pow_mono}
use Rattle.std.proofs.lemmas.Bool.{le-ltb}
use Rattle.numbers.proofs.BitLaws.{bit_above}
use Rattle.analysis.proofs.parties.Parties.has.Goals as goal

pub returns-else-party-lt8 : goal.returns-else-party-lt8
returns-else-party-lt8 c =
    let wide : 2 ^ 8 ≤ 2 ^ c.args.party = pow_mono c.if-party-lt8.false in
    le-ltb c.args.party 8 c.if-party-lt8.false ∙ sym (bit_above c.args.self.mask c.args.party (omega arith))
