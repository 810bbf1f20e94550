-- Deterministic negotiation diagrams.
use Rattle.std.specs.Prelude.{◌≡◌, ℕ, ◌<◌, ◌≤◌, Bool, true, ◌≢◌}

-- A diagram: who takes part in which step, and where each row sends each party of its step. A row is one outcome.
pub record Diagram : Type 0 where
  -- how many parties there are; they are the numbers below it
  pub parties : ℕ
  -- the end, the greatest number of a step; the start is 0
  pub end : ℕ
  -- whether a step stands
  pub stands : ℕ → Bool
  -- whether a party takes part in a step
  pub part : ℕ → ℕ → Bool
  -- how many rows the table has
  pub size : ℕ
  -- whether a row is in use
  pub used : ℕ → Bool
  -- the step that a row belongs to
  pub step : ℕ → ℕ
  -- where a row sends a party of its step
  pub to : ℕ → ℕ → ℕ

-- step n stands and is not the end
abbrev pub Inner : Diagram → ℕ → Type 0
Inner D n = (D.stands n ≡ true) × (n ≢ D.end)

-- What every diagram has to keep, for a rank that rises along every row.
pub record Lawful (rank : ℕ → ℕ) (D : Diagram) : Type 0 where
  -- the start stands, is not the end, and has all parties
  pub start_inner : Inner D 0
  pub start_full : (p : ℕ) → p < D.parties → D.part 0 p ≡ true
  -- the end stands and has all parties
  pub end_stands : D.stands D.end ≡ true
  pub end_full : (p : ℕ) → p < D.parties → D.part D.end p ≡ true
  -- a step that stands has a number up to the end's
  pub step_numbered : (n : ℕ) → D.stands n ≡ true → n ≤ D.end
  -- and a party
  pub step_peopled : (n : ℕ) → D.stands n ≡ true → (p : ℕ) × (D.part n p ≡ true)
  -- who takes part is a party
  pub part_known : (n p : ℕ) → D.part n p ≡ true → p < D.parties
  -- a row in use is of the table, and its step is not the end
  pub row_placed : (r : ℕ) → D.used r ≡ true → r < D.size
  pub row_inner : (r : ℕ) → D.used r ≡ true → Inner D (D.step r)
  -- it sends each party of its step to a standing step that has the party and a greater rank
  pub row_stands : (r p : ℕ) → D.used r ≡ true → D.part (D.step r) p ≡ true → D.stands (D.to r p) ≡ true
  pub row_has : (r p : ℕ) → D.used r ≡ true → D.part (D.step r) p ≡ true → D.part (D.to r p) p ≡ true
  pub row_rises : (r p : ℕ) → D.used r ≡ true → D.part (D.step r) p ≡ true → rank (D.step r) < rank (D.to r p)
  -- every standing step but the end has a row
  pub step_led : (n : ℕ) → Inner D n → (r : ℕ) × (D.used r ≡ true) × (D.step r ≡ n)
