-- Runs go on lawfully, and not for ever.
use Rattle.std.specs.Prelude.{ℕ, ◌+◌, ◌*◌, ◌≤◌, List, length}
use Rattle.numbers.specs.Below.{greatest_below}
use Rattle.diagram.specs.Diagrams.{Diagram, Lawful}
use Rattle.diagram.specs.Runs.{Marking, first, Waits, Can, take_row, Run}

-- Taking a row keeps a marking lawful: each party still waits at a standing step that has it.
abbrev pub TakingKeepsMarkingsLawful : Type 0
TakingKeepsMarkingsLawful =
    (rank : ℕ → ℕ) (D : Diagram) → Lawful rank D → (M : Marking) (r : ℕ) → Waits D M → Can D M r → Waits D (take_row D M r)

-- the greatest rank of a step number
abbrev pub greatest_rank : (ℕ → ℕ) → Diagram → ℕ
greatest_rank rank D = greatest_below (D.end + 1) rank

-- Ranks rise along a run, so no run is longer than the parties times the greatest rank.
abbrev pub RunsAreBounded : Type 0
RunsAreBounded =
    (rank : ℕ → ℕ) (D : Diagram) → Lawful rank D → (rs : List ℕ) (X : Marking) → Run D first rs X → length rs ≤ D.parties * greatest_rank rank D
