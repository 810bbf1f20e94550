use Rattle.std.proofs.Common.{◌≡◌, None}
use Rattle.numbers.specs.Below.{each_below}
use Rattle.format.specs.Refusals.{first_failing}
use Rattle.format.specs.Checks.{block_checks_at}
use Rattle.format.proofs.blocks.check_blocks.Given as goal

abbrev pub invariant-loop-position : goal.invariant-loop-position
invariant-loop-position l = first_failing (each_below l.position (block_checks_at l.file)) ≡ None
