-- What walking a diagram tells.
use Rattle.std.specs.Prelude.{ℕ, List, Decides}
use Rattle.diagram.specs.Diagrams.{Diagram, Lawful}
use Rattle.diagram.specs.RunLabels.{ListsComplete}
use Rattle.diagram.specs.Runs.{Complete, Sound}
use Rattle.diagram.specs.Walks.{complete_runs, is_complete, is_sound}

-- For every lawful diagram there is a list of exactly its complete runs.
abbrev pub CompleteRunsAreListed : Type 0
CompleteRunsAreListed = (rank : ℕ → ℕ) (D : Diagram) → Lawful rank D → ListsComplete D (complete_runs rank D)

-- Whether a lawful diagram is sound is decided by walking its markings.
abbrev pub SoundnessIsDecided : Type 0
SoundnessIsDecided = (rank : ℕ → ℕ) (D : Diagram) → Lawful rank D → Decides (is_sound rank D) (Sound D)

-- Whether a list of rows is a complete run is decided by taking them.
abbrev pub CompletenessIsDecided : Type 0
CompletenessIsDecided = (rank : ℕ → ℕ) (D : Diagram) → Lawful rank D → (rs : List ℕ) → Decides (is_complete D rs) (Complete D rs)
