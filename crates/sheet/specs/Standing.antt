-- What stands on a sheet.
use Rattle.std.specs.Prelude.{◌≡◌, ℕ, Bool, ◌⊎◌, List, [], map, length, take, replicate, None, Option, ◌==◌}
use Rattle.analysis.specs.declared.parties.Parties.{Parties}
use Rattle.diagram.specs.Diagrams.{Diagram, Lawful}
use Rattle.diagram.specs.Worked.{number}
use Rattle.diagram.specs.Drawn.{drawn}
use Rattle.diagram.specs.declared.rows.Row.{Row}
use Rattle.sheet.specs.declared.steps.Steps.{Steps}
use Rattle.sheet.specs.declared.table.Table.{Table}

-- the steps up to the end by their masks, 0 for one that was struck, and the table of rows
pub record Standing : Type 0 where
  pub masks : List ℕ
  pub rows : List (Option Row)

-- the masks of the steps below the count
abbrev pub masks_of : Steps → List ℕ
masks_of steps = take steps.count (map (λ (parties : Parties). parties.mask) steps.parties)

-- what steps and a table of rows hold
abbrev pub standing_in : Steps → Table → Standing
standing_in steps table = record { masks = masks_of steps; rows = table.rows }

-- no step, and all 256 rows free
abbrev pub nothing : Standing
nothing = record { masks = []; rows = replicate 256 None }

-- whether there is no step
abbrev pub is_empty : Standing → Bool
is_empty s = length s.masks == 0

-- the diagram that stands
abbrev pub diagram_in : Standing → Diagram
diagram_in s = drawn s.masks s.rows

-- A sheet is empty or holds a lawful diagram.
abbrev pub EmptyOrLawful : Standing → Type 0
EmptyOrLawful s = ∥ (s ≡ nothing) ⊎ Lawful number (diagram_in s) ∥₁
