-- Runs are bounded.
use Rattle.std.proofs.Common.{ℕ, ◌+◌, ◌*◌, ◌≤◌, List, length, arith}
use Rattle.diagram.specs.Diagrams.{Diagram, Lawful}
use Rattle.diagram.specs.Runs.{Marking, first, Waits, Run, stop, go}
use Rattle.diagram.specs.Progress.{greatest_rank, RunsAreBounded}
use Rattle.diagram.proofs.Sums.{sum_const_le, greatest_at}
use Rattle.diagram.proofs.Taking.{taking_keeps_markings_lawful, height, height_rises}

module _ (rank : ℕ → ℕ) (D : Diagram) (lawful : Lawful rank D) where
  pub first_waits : Waits D first
  first_waits p lt = (lawful.start_inner.0, lawful.start_full p lt)

  pub run_waits : {M X : Marking} {rs : List ℕ} → Waits D M → Run D M rs X → Waits D X
  run_waits waits stop = waits
  run_waits {M} waits (go {r = r} can rest) = run_waits (taking_keeps_markings_lawful rank D lawful M r waits can) rest

  -- each row taken raises the height by one at least
  pub run_rises : {M X : Marking} {rs : List ℕ} → Run D M rs X → length rs + height rank D M ≤ height rank D X
  run_rises stop = omega arith
  run_rises {M} (go {r = r} can rest) = let up = height_rises rank D lawful M r can in let on = run_rises rest in omega arith

  -- and no lawful marking is higher than the parties times the greatest rank
  pub height_bounded : (X : Marking) → Waits D X → height rank D X ≤ D.parties * greatest_rank rank D
  height_bounded X waits =
      sum_const_le D.parties (greatest_rank rank D) (λ p. rank (X p))
      (λ p lt. greatest_at (D.end + 1) rank (X p) (let low = lawful.step_numbered (X p) (waits p lt).0 in omega arith))

pub runs_are_bounded : RunsAreBounded
runs_are_bounded rank D lawful rs X run =
    let up = run_rises rank D lawful run in
    let top = height_bounded rank D lawful X (run_waits rank D lawful (first_waits rank D lawful) run) in
    omega arith
