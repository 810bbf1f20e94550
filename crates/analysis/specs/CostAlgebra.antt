-- Cost: the least and the most charge, in microampere-hours.
use Rattle.std.specs.Prelude.{ℕ, ◌+◌, min, max, Bool, true, cond, ◌&&◌, nat_le}
use Rattle.std.proofs.Math.Nat.{min-le_right}
use Rattle.format.specs.Layout.{Bytes}
use Rattle.analysis.specs.Algebra.{Algebra}
use Rattle.analysis.specs.LabelBytes.{least_in, most_in}
use Rattle.analysis.specs.declared.cost.Cost.{Cost}

-- both halves, each stopping at 1,000,000
abbrev pub capped : ℕ → ℕ → Cost
capped least most = record { least = min least 1000000; most = min most 1000000; within = (min-le_right least 1000000, min-le_right most 1000000) }

-- least ≤ most ≤ 1,000,000
abbrev pub suitable : Bytes → Bool
suitable bytes = nat_le (least_in bytes) (most_in bytes) && nat_le (most_in bytes) 1000000

-- the operations: halves are added and stop at the limit; either is the wider of two ranges
abbrev pub cost_algebra : Algebra Cost
cost_algebra =
    record {
      unit = capped 0 0;
      then = λ x y. capped (x.least + y.least) (x.most + y.most);
      either = λ x y. capped (min x.least y.least) (max x.most y.most);
      belongs = λ x P. true;
      suits = λ bytes P. suitable bytes;
      make = λ bytes P. cond (suitable bytes) (capped (least_in bytes) (most_in bytes)) (capped 0 0);
      tell = λ x. (x.least, x.most);
    }
