use Rattle.std.proofs.Common.{rules, refl}
use borrow.Author.Tests.{tests}
use Rattle.numbers.proofs.RangeLaws.{some_from_any}
use Rattle.analysis.proofs.flags.Flags.concerns.Goals as goal

pub returns : goal.returns
returns c = some_from_any _ _ _ _ _ refl c.any.ensures.ran (λ k b q h. (search (rules, tests), search (rules, tests)))
