-- The bounds that a file's records keep, by the counts that were made of them.
use Rattle.std.proofs.Common.{◌+◌, ◌≤◌, sym, subst}
use Rattle.format.specs.Layout.{Bytes, record_count}
use Rattle.format.specs.declared.records.Contents.{Contents}
use Rattle.format.proofs.InOrder.{in_order}
use Rattle.sheet.specs.Recorded.{Recorded}

pub record Bounds (file : Bytes) (contents : Contents) : Type 0 where
  pub few_steps : contents.steps ≤ 32
  pub few_outcomes : contents.outcomes ≤ 128
  pub within : contents.steps + contents.outcomes ≤ record_count file

pub bounds : (file : Bytes) (contents : Contents) → Recorded file contents → Bounds file contents
bounds file contents recorded =
    let order = in_order file recorded.passes in
    subst (Bounds file) (sym recorded.counted) (record { few_steps = order.few_steps; few_outcomes = order.few_outcomes; within = order.within })
