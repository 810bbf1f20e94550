use Rattle.std.proofs.Common.{◌<◌, ◌≤◌, ◌^◌, take, length, ◌∙◌, List, ℕ, ap, refl, arith, rules}
use Rattle.std.specs.List.{enumerate_from}
use Rattle.std.proofs.lemmas.List.{length-take}
use Rattle.std.proofs.lemmas.Iterator.{YieldsList-from_slice, YieldsList-from_map}
use Rattle.std.proofs.lemmas.Iterator.Consumers.{YieldsList-at, YieldsList-from_enumerate, sum_by_from_yields_List, fits_by_from_yields_list}
use borrow.Author.Tests.{tests}
use Rattle.format.specs.Layout.{Bytes, byte}
use Rattle.format.proofs.Weighted.{weighted, chain_adds, byte_taken, few_weigh}
use Rattle.format.proofs.blocks.weighted_sum.Goals as goal

abbrev placed : Bytes → List (ℕ × ℕ)
placed block = enumerate_from 0 (take 508 block)

-- however many bytes are summed, up to 508
pub sum-requires-clause-fits : goal.sum-requires-clause-fits
sum-requires-clause-fits c =
    let summed = c.iter.result.rest.now in
    let short : length summed ≤ 508 = omega (arith, ap length c.iter.ensures.rest, length-take {A = ℕ}) in
    let small : (i : ℕ) → byte summed i < 256 = λ i. omega (arith, ap (λ bs. byte bs i) c.iter.ensures.rest, byte_taken, c.fits-block i) in
    fits_by_from_yields_list weighted (enumerate_from 0 summed) c.map.result (2 ^ 32)
    (YieldsList-from_map _ weighted
    (YieldsList-at c.map.ensures.source (YieldsList-from_enumerate (YieldsList-at c.enumerate.ensures.source (YieldsList-from_slice summed refl)) c.enumerate.ensures.count))
    c.map.ensures.closure (λ x r q k. search (rules, tests)))
    (few_weigh summed short small)

pub returns : goal.returns
returns c =
    let block = c.args.block.now in
    sum_by_from_yields_List weighted (placed block) c.map.result c.sum.result c.sum.ensures.ran
    (YieldsList-from_map _ weighted
    (YieldsList-at c.map.ensures.source (YieldsList-from_enumerate (YieldsList-at c.enumerate.ensures.source (YieldsList-from_slice (take 508 block) c.iter.ensures.rest)) c.enumerate.ensures.count))
    c.map.ensures.closure (λ x r q k. search (rules, tests)))
    ∙ chain_adds block 508 (omega arith)
