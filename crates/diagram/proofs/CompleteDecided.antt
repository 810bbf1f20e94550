-- Whether a run is complete is decided by taking its rows.
use Rattle.std.proofs.Common.{◌≡◌, ℕ, true, List, [], ◌∷◌}
use Rattle.std.proofs.lemmas.Bool.{and_parts, and_from}
use Rattle.diagram.specs.Decided.{CompletenessIsDecided}
use Rattle.diagram.specs.Diagrams.{Diagram, Lawful}
use Rattle.diagram.specs.Runs.{Marking, first, AtEnd, take_row, Run, stop, go}
use Rattle.diagram.specs.Walks.{can_take, is_complete_from}
use Rattle.diagram.proofs.Tests.{at_end_tells, at_end_from, can_tells, can_from}

module _ (rank : ℕ → ℕ) (D : Diagram) (lawful : Lawful rank D) where
  tells : (M : Marking) (rs : List ℕ) → is_complete_from D M rs ≡ true → (X : Marking) × Run D M rs X × AtEnd D X
  tells M [] h = (M, stop, at_end_tells D M h)
  tells M (r ∷ rs) h =
      let parts = and_parts (can_take D M r) (is_complete_from D (take_row D M r) rs) h in
      let rest = tells (take_row D M r) rs parts.1 in
      (rest.0, go (can_tells D M rank lawful r parts.0) rest.1, rest.2)

  from : {M X : Marking} {rs : List ℕ} → Run D M rs X → AtEnd D X → is_complete_from D M rs ≡ true
  from {M} stop ends = at_end_from D M ends
  from {M} (go {r = r} {rs = rs} can rest) ends = and_from (can_take D M r) (is_complete_from D (take_row D M r) rs) (can_from D M rank lawful r can) (from rest ends)

pub completeness_is_decided : CompletenessIsDecided
completeness_is_decided rank D lawful rs = (tells rank D lawful first rs, λ complete. from rank D lawful complete.1 complete.2)
