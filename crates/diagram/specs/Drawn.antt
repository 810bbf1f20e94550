-- A diagram given by its steps' masks and its table of rows.
use Rattle.std.specs.Prelude.{ℕ, ◌-◌, not, List, length, is_some, Some, None, Option, ◌==◌, slice_index, slice_index_or}
use Rattle.numbers.specs.Below.{count_below}
use Rattle.numbers.specs.Bits.{bit}
use Rattle.diagram.specs.Diagrams.{Diagram}
use Rattle.diagram.specs.declared.rows.Row.{Row}

-- the step of a row; of a free one it does not matter
abbrev pub step_of : Option Row → ℕ
step_of None = 0
step_of (Some row) = row.step

-- where a row sends a party
abbrev pub goal_of : Option Row → ℕ → ℕ
goal_of None p = 255
goal_of (Some row) p = slice_index_or row.to p 255

-- the diagram: a mask of 0 is of a step that does not stand, and the start's mask has all parties
abbrev pub drawn : List ℕ → List (Option Row) → Diagram
drawn masks rows =
    record {
      parties = count_below 8 (bit (slice_index masks 0));
      end = length masks - 1;
      stands = λ n. not (slice_index masks n == 0);
      part = λ n p. bit (slice_index masks n) p;
      size = length rows;
      used = λ r. is_some (slice_index_or rows r None);
      step = λ r. step_of (slice_index_or rows r None);
      to = λ r p. goal_of (slice_index_or rows r None) p;
    }
