use Rattle.std.proofs.Common.{rules}
use Rattle.std.proofs.iter.runs.Made.{chains}
use Rattle.format.specs.Layout.{byte}
use Rattle.format.specs.Checks.{wrong_name_byte}
use Rattle.numbers.proofs.RangeLaws.{all_tells}
use Rattle.format.proofs.records.text_right.Goals as goal

pub returns : goal.returns
returns c = all_tells 13 (λ i. wrong_name_byte c.args.len i (byte c.args.text.now i)) c.all.result (search (rules, chains))
