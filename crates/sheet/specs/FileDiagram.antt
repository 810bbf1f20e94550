-- What a setup file means: the diagram and the labels in its bytes.
use Rattle.std.specs.Prelude.{ℕ, ◌+◌, cond, map, Some, None, Option, nat_lt}
use Rattle.std.specs.List.{range_with_len}
use Rattle.analysis.specs.Algebra.{Algebra}
use Rattle.analysis.specs.Parties.{Set}
use Rattle.diagram.specs.Diagrams.{Diagram}
use Rattle.diagram.specs.declared.rows.Row.{Row}
use Rattle.format.specs.Checks.{contents_of}
use Rattle.format.specs.Layout.{Bytes, part, record_of, step_of, mask_of}
use Rattle.sheet.specs.Standing.{Standing, diagram_in}

-- how many steps the file records
abbrev pub steps_in : Bytes → ℕ
steps_in file = (contents_of file).steps

-- and how many outcomes
abbrev pub outcomes_in : Bytes → ℕ
outcomes_in file = (contents_of file).outcomes

-- the mask of step n, which is record n
abbrev pub mask_at : Bytes → ℕ → ℕ
mask_at file n = mask_of (record_of file n)

-- the record of outcome r: the outcomes come behind the steps
abbrev pub outcome_at : Bytes → ℕ → Bytes
outcome_at file r = record_of file (steps_in file + r)

-- an outcome's row: its step, and the destinations of parties 0 to 7 in bytes 2 to 9
abbrev pub row_in : Bytes → Row
row_in rec = record { step = step_of rec; to = part rec 2 8 }

-- an outcome's label bytes, 10 to 41
abbrev pub label_bytes : Bytes → Bytes
label_bytes rec = part rec 10 32

-- row r: outcome r, or free
abbrev pub row_at : Bytes → ℕ → Option Row
row_at file r = cond (nat_lt r (outcomes_in file)) (Some (row_in (outcome_at file r))) None

-- the steps by their masks, and outcomes 0, 1, … as the first of 256 rows
abbrev pub file_standing : Bytes → Standing
file_standing file = record { masks = map (mask_at file) (range_with_len 0 (steps_in file)); rows = map (row_at file) (range_with_len 0 256) }

-- the diagram that the file means
abbrev pub file_diagram : Bytes → Diagram
file_diagram file = diagram_in (file_standing file)

-- the parties of outcome r's step
abbrev pub parties_at : Bytes → ℕ → Set
parties_at file r = (file_diagram file).part (step_of (outcome_at file r))

-- the label that outcome r's bytes make for these
abbrev pub file_label : {V : Type 0} → Algebra V → Bytes → ℕ → V
file_label a file r = a.make (label_bytes (outcome_at file r)) (parties_at file r)
