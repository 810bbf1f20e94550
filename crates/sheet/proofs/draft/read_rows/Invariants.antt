use Rattle.std.proofs.Common.{◌≡◌, ℕ, ◌<◌, cond, ltb, length, get_or, Some, None}
use Rattle.sheet.specs.FileDiagram.{row_in, outcome_at}
use Rattle.sheet.proofs.draft.read_rows.Given as goal

-- the rows that are read, and the others still free
abbrev pub invariant-loop-r : goal.invariant-loop-r
invariant-loop-r l =
    (goal.iterator-loop-r).can_next l.r-iterator
    × (goal.iterator-loop-r).is_finite l.r-iterator
    × ((k : ℕ) → k < 256 → get_or l.table.rows k None ≡ cond (ltb k (length l.yielded)) (Some (row_in (outcome_at l.recorded.file.now k))) None)
