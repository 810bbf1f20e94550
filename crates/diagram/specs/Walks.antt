-- Walking a diagram: the same words, computed.
use Rattle.std.specs.Prelude.{ℕ, zero, suc, ◌+◌, ◌*◌, Bool, true, false, not, ◌&&◌, List, [], ◌∷◌, map, ◌==◌}
use Rattle.numbers.specs.Below.{some_below, each_below}
use Rattle.diagram.specs.Diagrams.{Diagram}
use Rattle.diagram.specs.Progress.{greatest_rank}
use Rattle.diagram.specs.Runs.{Marking, first, take_row}

-- whether all parties wait at the end
abbrev pub at_end : Diagram → Marking → Bool
at_end D M = not (some_below D.parties (λ p. not (M p == D.end)))

-- whether step n stands and is not the end
abbrev pub inner : Diagram → ℕ → Bool
inner D n = D.stands n && not (n == D.end)

-- whether step n is enabled
abbrev pub enabled : Diagram → Marking → ℕ → Bool
enabled D M n = inner D n && not (some_below D.parties (λ p. D.part n p && not (M p == n)))

-- whether row r can be taken
abbrev pub can_take : Diagram → Marking → ℕ → Bool
can_take D M r = D.used r && enabled D M (D.step r)

-- the runs from M that end with all parties at the end, none longer than the number
unfoldable pub complete_from : Diagram → ℕ → Marking → List (List ℕ)
complete_from D zero M = elim (at_end D M) [ true ↦ [] ∷ [] | false ↦ [] ]
complete_from D (suc n) M =
    elim (at_end D M) [
      | true ↦ [] ∷ []
      | false ↦ each_below D.size (λ r. elim (can_take D M r) [ true ↦ map (λ rs. r ∷ rs) (complete_from D n (take_row D M r)) | false ↦ [] ])
    ]

-- whether some run from M, none longer than the number, leads to a marking that passes the test
unfoldable pub reaches : Diagram → (Marking → Bool) → ℕ → Marking → Bool
reaches D test zero M = test M
reaches D test (suc n) M =
    elim (test M) [
      | true ↦ true
      | false ↦ some_below D.size (λ r. elim (can_take D M r) [ true ↦ reaches D test n (take_row D M r) | false ↦ false ])
    ]

-- no run is longer than this
abbrev pub longest : (ℕ → ℕ) → Diagram → ℕ
longest rank D = D.parties * greatest_rank rank D

-- the complete runs
abbrev pub complete_runs : (ℕ → ℕ) → Diagram → List (List ℕ)
complete_runs rank D = complete_from D (longest rank D) first

-- whether each step but the end is enabled after some run, and no run leads to where no run goes on to the end
abbrev pub is_sound : (ℕ → ℕ) → Diagram → Bool
is_sound rank D =
    not (some_below (D.end + 1) (λ n. inner D n && not (reaches D (λ M. enabled D M n) (longest rank D) first)))
    && not (reaches D (λ M. not (reaches D (at_end D) (longest rank D) M)) (longest rank D) first)

-- whether the rows can be taken in turn from M, and all parties then wait at the end
abbrev pub is_complete_from : Diagram → Marking → List ℕ → Bool
is_complete_from D M [] = at_end D M
is_complete_from D M (r ∷ rs) = can_take D M r && is_complete_from D (take_row D M r) rs

-- whether a list of rows is a complete run
abbrev pub is_complete : Diagram → List ℕ → Bool
is_complete D rs = is_complete_from D first rs
