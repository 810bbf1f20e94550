use Rattle.std.proofs.Common.{refl, rules}
use borrow.Author.Tests.{tests}
use Rattle.numbers.proofs.RangeLaws.{none_from_all}
use Rattle.sheet.proofs.sets.lies_within.Goals as goal

pub returns : goal.returns
returns c = none_from_all _ _ _ _ _ refl c.all.ensures.ran (λ p b q h. (search (rules, tests), search (rules, tests)))
