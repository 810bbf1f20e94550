use Rattle.std.proofs.Common.{◌/◌, ◌<◌, [], length, refl, ap, arith}
use Rattle.format.specs.Layout.{block_count}
use Rattle.format.proofs.RecordsIn.{block_in, record_in, records_more}
use Rattle.format.proofs.reader.ReaderIterator.next.Goals as goal

pub returns-clause-read : goal.returns-clause-read
returns-clause-read c =
    let file = c.args.self.now.file.now in
    let place = c.args.self.now.place in
    let found = c.in_ok-block.ensures.lookup.3 in
    let inside : place / 9 < block_count file = omega (arith, found.0, c.as_chunks.ensures.front_len) in
    let block = found.1 [] in
    (omega (arith, inside), refl, grind (arith, block_in file (place / 9), record_in file place inside c.in_ok-block.block.now))

pub returns-clause-steps : goal.returns-clause-steps
returns-clause-steps c =
    let read = returns-clause-read c in
    let file = c.args.self.now.file.now in
    let place = c.args.self.now.place in
    grind (arith, records_more file place)

pub returns-clause-goes : goal.returns-clause-goes
returns-clause-goes c = let steps = ap length (returns-clause-steps c) in omega arith
