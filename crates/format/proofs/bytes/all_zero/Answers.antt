use Rattle.std.proofs.Common.{not, eqb, length, get_or, rules}
use Rattle.std.proofs.iter.runs.Made.{chains}
use Rattle.numbers.proofs.RangeLaws.{all_tells}
use Rattle.format.proofs.bytes.all_zero.Goals as goal

pub returns : goal.returns
returns c = let xs = c.args.part.now in all_tells (length xs) (λ k. not (eqb (get_or xs k 0) 0)) c.all.result (search (rules, chains))
