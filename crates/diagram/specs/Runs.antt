-- Markings, runs and soundness.
use Rattle.std.specs.Prelude.{◌≡◌, ℕ, ◌<◌, true, cond, List, [], ◌∷◌}
use Rattle.diagram.specs.Diagrams.{Diagram, Inner}

-- the step at which each party waits
abbrev pub Marking : Type 0
Marking = ℕ → ℕ

-- at first all wait at the start
abbrev pub first : Marking
first p = 0

-- each party waits at a standing step that has it
abbrev pub Waits : Diagram → Marking → Type 0
Waits D M = (p : ℕ) → p < D.parties → (D.stands (M p) ≡ true) × (D.part (M p) p ≡ true)

-- all wait at the end
abbrev pub AtEnd : Diagram → Marking → Type 0
AtEnd D M = (p : ℕ) → p < D.parties → M p ≡ D.end

-- a standing step other than the end is enabled when all its parties wait at it
abbrev pub Enabled : Diagram → Marking → ℕ → Type 0
Enabled D M n = Inner D n × ((p : ℕ) → D.part n p ≡ true → M p ≡ n)

-- a row can be taken when it is in use and its step is enabled
abbrev pub Can : Diagram → Marking → ℕ → Type 0
Can D M r = (D.used r ≡ true) × Enabled D M (D.step r)

-- taking it moves the parties of its step to their destinations; others stay
abbrev pub take_row : Diagram → Marking → ℕ → Marking
take_row D M r p = cond (D.part (D.step r) p) (D.to r p) (M p)

-- a run: rows taken in turn from one marking, and the marking that they lead to
pub data Run (D : Diagram) : Marking → List ℕ → Marking → Type 0 where
  stop : {M : Marking} → Run D M [] M
  go : {M : Marking} {r : ℕ} {rs : List ℕ} {X : Marking} → Can D M r → Run D (take_row D M r) rs X → Run D M (r ∷ rs) X

-- some run leads from one marking to the other
abbrev pub Leads : Diagram → Marking → Marking → Type 0
Leads D M X = (rs : List ℕ) × Run D M rs X

-- a run from the first marking is complete when all then wait at the end
abbrev pub Complete : Diagram → List ℕ → Type 0
Complete D rs = (X : Marking) × Run D first rs X × AtEnd D X

-- Sound: every step but the end is enabled after some run, and every run can be prolonged to a complete one.
pub record Sound (D : Diagram) : Type 0 where
  pub no_dead_step : (n : ℕ) → Inner D n → (X : Marking) × Leads D first X × Enabled D X n
  pub never_stalls : (X : Marking) → Leads D first X → (Y : Marking) × Leads D X Y × AtEnd D Y
