-- Whether a run may sound the alarm.
use Rattle.std.specs.Prelude.{Bool, true, false, cond, ◌||◌, nat_lt}
use Rattle.analysis.specs.Algebra.{Algebra}
use Rattle.analysis.specs.LabelBytes.{most_in}

-- the operations: an alarm may sound where any part of the run may sound it
abbrev pub alarm_algebra : Algebra Bool
alarm_algebra =
    record {
      unit = false;
      then = λ x y. x || y;
      either = λ x y. x || y;
      belongs = λ x P. true;
      suits = λ bytes P. true;
      make = λ bytes P. nat_lt 1000 (most_in bytes);
      tell = λ x. cond x (1, 0) (0, 0);
    }
