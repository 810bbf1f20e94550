use Rattle.std.proofs.Common.{rules, ◌/◌, ◌%◌, refl, ◌∙◌, Bool, ℕ, arith}
use borrow.Author.Tests.{tests}
use Rattle.std.proofs.lemmas.Iterator.{YieldsList-from_range}
use Rattle.std.proofs.lemmas.Iterator.Consumers.{fold_from_yields_List, YieldsList-from_filter}
use Rattle.numbers.proofs.RangeLaws.{with_bit, bits_set}
use Rattle.analysis.specs.FlagPairs.{same_flags}
use Rattle.analysis.specs.FlagsAlgebra.{through}
use Rattle.analysis.proofs.flags.as_kind.FlagsKind.then.Goals as goal

pub returns : goal.returns
returns c =
    let p : ℕ → Bool = λ k. through c.args.self.now.relation c.args.other.now.relation (k / 8) (k % 8) in
    same_flags _ _
    (fold_from_yields_List _ with_bit 0 _ c.fold-relation.ensures.ran
    (YieldsList-from_filter _ p (YieldsList-from_range 0 64 64 (cc) refl) c.filter.ensures.closure (λ x b q k. search (rules, tests)))
    (λ r x b q k. search (rules, tests))
    ∙ bits_set 64 p (omega arith))
