-- The alarm keeps the laws.
use Rattle.std.specs.Prelude.{◌≡◌, Bool, true, false, ◌||◌, refl}
use Rattle.std.proofs.Math.Bool.{or_assoc, or_comm, or_self, or-false}
use Rattle.std.proofs.lemmas.Bool.{true≢false}
use Rattle.analysis.specs.Algebra.{Laws}
use Rattle.alarm.specs.AlarmAlgebra.{alarm_algebra}

from_left : (x y z : Bool) → (x || (y || z)) ≡ ((x || y) || (x || z))
from_left true y z = refl
from_left false y z = refl

from_right : (x y z : Bool) → ((x || y) || z) ≡ ((x || z) || (y || z))
from_right true y z = refl
from_right false true true = refl
from_right false true false = refl
from_right false false true = refl
from_right false false false = refl

pub alarm_laws : Laws alarm_algebra
alarm_laws =
    record {
      then_associative = or_assoc;
      unit_then = λ x. refl;
      then_unit = or-false;
      either_associative = or_assoc;
      either_commutative = or_comm;
      either_idempotent = or_self;
      then_either = from_left;
      either_then = from_right;
      unit_belongs = λ P. refl;
      then_belongs = λ x y P p q. refl;
      either_belongs = λ x y P p q. refl;
      larger_belongs = λ x P Q l p. refl;
      disjoint_commute = λ x y P Q d p q. or_comm x y;
      suiting_belongs = λ bytes P s. refl;
      unsuiting_unit = λ bytes P s. absurd (true≢false s);
    }
