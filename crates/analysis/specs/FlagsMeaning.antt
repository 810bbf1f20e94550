-- What composition of flags means, and a worked one.
use Rattle.std.specs.Prelude.{◌≡◌, ℕ, ◌<◌}
use Rattle.analysis.specs.declared.flags.Flags.{Flags}
use Rattle.analysis.specs.FlagsAlgebra.{may, related, through, flags_algebra}

-- The relation of a composition is the composition of the relations: v may become w where some u lies between.
abbrev pub CompositionIsRelational : Type 0
CompositionIsRelational =
    (x y : Flags) (v w : ℕ) → v < 8 → w < 8 → may (flags_algebra.then x y).relation v w ≡ through x.relation y.relation v w

-- A relation of party 0's flag and one of party 1's compose to the same in either order.
abbrev pub WorkedComposition : Type 0
WorkedComposition =
    ((related (through 0x8080202008080202 0x8040804008040804)).relation ≡ 0x8080808008080808)
    × ((related (through 0x8040804008040804 0x8080202008080202)).relation ≡ 0x8080808008080808)
