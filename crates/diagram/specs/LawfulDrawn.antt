-- When a diagram given by masks and rows is lawful, computed.
use Rattle.std.specs.Prelude.{◌≡◌, ℕ, ◌+◌, ◌<◌, Bool, true, cond, not, ◌&&◌, List, Option, nat_lt, slice_index}
use Rattle.numbers.specs.Below.{some_below}
use Rattle.diagram.specs.Diagrams.{Diagram, Lawful}
use Rattle.diagram.specs.Drawn.{drawn}
use Rattle.diagram.specs.Moves.{outcome_of}
use Rattle.diagram.specs.Walks.{inner}
use Rattle.diagram.specs.declared.rows.Row.{Row}

-- all numbers below n pass p
abbrev pub all_below : ℕ → (ℕ → Bool) → Bool
all_below n p = not (some_below n (λ k. not (p k)))

-- where the first test passes, so does the second
abbrev pub implies : Bool → Bool → Bool
implies a b = cond a b true

-- the start and the end have all parties, and the start is not the end
abbrev pub ends_right : Diagram → Bool
ends_right D = inner D 0 && (D.stands D.end && all_below D.parties (λ p. D.part 0 p && D.part D.end p))

-- step n has a party if it stands, and none beyond the known ones; it has a row unless it is the end
abbrev pub step_right : Diagram → ℕ → Bool
step_right D n =
    implies (D.stands n) (not (all_below D.parties (λ p. not (D.part n p))))
    && (all_below 8 (λ p. implies (D.part n p) (nat_lt p D.parties))
    && implies (inner D n) (some_below D.size (outcome_of D n)))

-- row r, if in use, is of an inner step, and sends each of its parties to a standing step that has it and a greater rank
abbrev pub row_right : (ℕ → ℕ) → Diagram → ℕ → Bool
row_right rank D r =
    implies (D.used r)
    (inner D (D.step r)
    && all_below D.parties (λ p. implies (D.part (D.step r) p) (D.stands (D.to r p) && (D.part (D.to r p) p && nat_lt (rank (D.step r)) (rank (D.to r p))))))

-- the diagram is lawful
abbrev pub is_lawful : (ℕ → ℕ) → Diagram → Bool
is_lawful rank D = ends_right D && (all_below (D.end + 1) (step_right D) && all_below D.size (row_right rank D))

-- What the test passes is lawful, where masks have eight bits.
abbrev pub LawfulnessIsTold : Type 0
LawfulnessIsTold =
    (rank : ℕ → ℕ) (masks : List ℕ) (rows : List (Option Row))
    → ((n : ℕ) → slice_index masks n < 256) → is_lawful rank (drawn masks rows) ≡ true → Lawful rank (drawn masks rows)
