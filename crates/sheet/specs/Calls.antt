-- What load and label answer and leave. Both calls are yet to come, and no contract names what is only for them.
use Rattle.std.specs.Prelude.{◌≡◌, ℕ, Bool, cond, not, ◌||◌, List, [], ◌∷◌, ◌++◌, is_some, Some, None, Option, nat_le, nat_lt, slice_index_or}
use Rattle.analysis.specs.Algebra.{Algebra}
use Rattle.format.specs.Layout.{Bytes}
use Rattle.format.specs.Refusals.{Check, call_check}
use Rattle.sheet.specs.DiagramLayer.{diagram_layer}
use Rattle.sheet.specs.FileDiagram.{outcomes_in, file_standing, file_label}
use Rattle.sheet.specs.Labelled.{Written}
use Rattle.sheet.specs.Standing.{Standing, standing_in, is_empty}
use Rattle.sheet.specs.declared.sheet.Sheet.{Sheet}

-- what stands on a sheet
abbrev pub standing : Sheet → Standing
standing sheet = standing_in sheet.steps sheet.table

-- 14: the shelf has fewer than 256 places
abbrev pub short_shelf : ℕ → Bool
short_shelf places = nat_lt places 256

-- 16: the row is beyond 255, or free
abbrev pub no_row : Standing → ℕ → Bool
no_row s row = nat_le 256 row || not (is_some (slice_index_or s.rows row None))

-- the checks of load
abbrev pub load_checks : {V : Type 0} → Algebra V → Bytes → ℕ → List Check
load_checks a file places = diagram_layer a file ++ call_check 14 (short_shelf places) ∷ []

-- the checks of label
abbrev pub label_call_checks : Standing → ℕ → ℕ → List Check
label_call_checks s places row = call_check 14 (short_shelf places) ∷ call_check 15 (is_empty s) ∷ call_check 16 (no_row s row) ∷ []

-- the labels that load writes: one for each of the file's outcomes, at its row
abbrev pub file_labels : {V : Type 0} → Algebra V → Bytes → ℕ → Option V
file_labels a file r = cond (nat_lt r (outcomes_in file)) (Some (file_label a file r)) None

-- What load leaves: the file's diagram on the sheet, and its labels on the shelf.
pub record Loaded {K V : Type 0} (value : K → V) (a : Algebra V) (file : Bytes) (sheet : Sheet) (before after : List K) : Type 0 where
  pub sheet_holds : standing sheet ≡ file_standing file
  pub shelf_holds : Written value (file_labels a file) before after
