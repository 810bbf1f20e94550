use Rattle.std.proofs.Common.{rules, refl}
use borrow.Author.Tests.{tests}
use Rattle.numbers.proofs.RangeLaws.{none_from_all}
use Rattle.analysis.proofs.definitions.Definitions.confined.Goals as goal

pub returns : goal.returns
returns c = none_from_all _ _ _ _ _ refl c.all.ensures.ran (λ k b q h. (search (rules, tests), search (rules, tests)))
