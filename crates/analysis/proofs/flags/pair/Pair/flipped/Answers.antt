use Rattle.std.proofs.Common.{ℕ, ◌*◌, ◌%◌, ◌^◌, ◌<◌, sym, subst, arith}
use lib.Bits.{bit_xor}
use Rattle.std.proofs.lemmas.Nat.{one_shl}
use Rattle.analysis.specs.FlagPairs.{flipped_below}
use Rattle.analysis.proofs.flags.pair.Pair.flipped.Goals as goal

turned_below : (i v : ℕ) → i < 3 → v < 8 → bit_xor v (1 * 2 ^ i % 2 ^ 8) < 8
turned_below i v il vl = subst (λ n. bit_xor v n < 8) (sym (one_shl i 8 (omega arith))) (flipped_below i v il vl)

pub invariant_of-result : goal.invariant_of-result
invariant_of-result c =
    let flag = c.args.flag in
    let pair = c.args.self in
    record { within = (turned_below flag.number pair.from flag.within pair.within.0, turned_below flag.number pair.to flag.within pair.within.1) }
