use Rattle.std.proofs.Common.{drop, ◌∙◌, arith}
use Rattle.std.proofs.lemmas.List.{take-take}
use Rattle.sheet.proofs.records.label_bytes.Goals as goal

pub returns : goal.returns
returns c = let chunk = rw c.unwrap.ensures at c.first_chunk.ensures.cases in chunk.same ∙ take-take 32 46 (drop 10 c.args.rec.now) (omega arith)
