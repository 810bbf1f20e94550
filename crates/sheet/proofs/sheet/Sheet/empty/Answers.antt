use Rattle.std.proofs.Common.{◌≡◌, inl}
use Rattle.sheet.specs.Standing.{nothing, standing_in}
use Rattle.sheet.proofs.sheet.Sheet.empty.Goals as goal
use Rattle.sheet.proofs.sheet.Sheet.empty.Goals.{After-free}

none_stands : (c : After-free) → standing_in c.none.result c.free.result ≡ nothing
none_stands c = λ i. record { masks = c.none.ensures i; rows = c.free.ensures i }

pub invariant_of-result : goal.invariant_of-result
invariant_of-result c = record { lawful = ∣ inl (none_stands (goal.at.invariant_of-result c).After-free) ∣₁ }

pub returns : goal.returns
returns c = none_stands (goal.at.returns c).After-free
