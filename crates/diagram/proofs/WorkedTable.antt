-- The worked table, computed.
use Rattle.std.proofs.Common.{◌≡◌, ℕ, zero, suc, ◌<◌, false, List, [], ◌∷◌, get_or, refl, arith}
use Rattle.std.proofs.lemmas.Bool.{both_ways}
use Rattle.std.specs.List.{AllByRecursion as All}
use Rattle.numbers.specs.Below.{sum_below, some_below, first_below, each_below, greatest_below}
use Rattle.diagram.specs.Diagrams.{Diagram, Lawful}
use Rattle.diagram.specs.Runs.{Sound}
use Rattle.diagram.specs.Walks.{complete_from, reaches, is_sound}
use Rattle.diagram.specs.Worked.{WorkedTable, number, masks_a, rows_a, diagram_a, masks_b, rows_b, diagram_b, masks_c, rows_c, diagram_c, least_moves}
use Rattle.diagram.proofs.LawfulTold.{lawfulness_is_told}
use Rattle.diagram.proofs.SoundDecided.{soundness_is_decided}

-- masks of eight bits, also beyond the last
few : (masks : List ℕ) → All (λ m. m < 256) masks → (n : ℕ) → get_or masks n 0 < 256
few [] h n = omega arith
few (m ∷ masks) h zero = h.0
few (m ∷ masks) h (suc n) = few masks h.1 n

a_is_lawful : Lawful number diagram_a
unfolding sum_below some_below
a_is_lawful = lawfulness_is_told number masks_a rows_a (few masks_a (omega arith, (omega arith, (omega arith, (omega arith, tt))))) refl

b_is_lawful : Lawful number diagram_b
unfolding sum_below some_below
b_is_lawful = lawfulness_is_told number masks_b rows_b (few masks_b (omega arith, (omega arith, (omega arith, (omega arith, tt))))) refl

c_is_lawful : Lawful number diagram_c
unfolding sum_below some_below
c_is_lawful = lawfulness_is_told number masks_c rows_c (few masks_c (omega arith, (omega arith, (omega arith, tt)))) refl

-- what the walk denies does not hold
denied : (D : Diagram) → Lawful number D → is_sound number D ≡ false → Sound D → ⊥
denied D lawful h sound = both_ways (is_sound number D) h ((soundness_is_decided number D lawful).1 sound)

pub worked_table : WorkedTable
unfolding sum_below some_below first_below each_below greatest_below complete_from reaches least_moves
worked_table =
    record {
      a_lawful = a_is_lawful;
      b_lawful = b_is_lawful;
      c_lawful = c_is_lawful;
      a_sound = (soundness_is_decided number diagram_a a_is_lawful).0 refl;
      a_runs = refl;
      a_cost = refl;
      a_moves = refl;
      a_no_merge = refl;
      a_differ = refl;
      a_no_shortcut = refl;
      a_no_target = refl;
      a_shortcut = refl;
      b_unsound = denied diagram_b b_is_lawful refl;
      b_moves = refl;
      b_still = refl;
      c_unsound = denied diagram_c c_is_lawful refl;
      c_moves = refl;
      c_never_stalls = refl;
      d_sound = refl;
      d_kept = refl;
      d_struck_too_early = refl;
      e_run = refl;
      e_kept = refl;
      e_wrong_way_round = refl;
    }
