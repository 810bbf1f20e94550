-- Cost keeps the laws.
use Rattle.std.specs.Prelude.{◌≡◌, ◌≤◌, refl}
use mathlib.Core.HLevel.{is_prop→PathP, ×_prop}
use Rattle.std.proofs.Common.{arith}
use Rattle.std.proofs.Math.Bridge.{le_prop}
use Rattle.std.proofs.lemmas.Bool.{cond-false}
use Rattle.analysis.specs.declared.cost.Cost.{Cost}
use Rattle.analysis.specs.Algebra.{Laws}
use Rattle.analysis.specs.CostAlgebra.{cost_algebra, suitable}

-- costs with equal halves are equal
pub same_cost : (x y : Cost) → x.least ≡ y.least → x.most ≡ y.most → x ≡ y
same_cost x y p q =
    λ i. record {
      least = p i;
      most = q i;
      within = is_prop→PathP (λ j. (p j ≤ 1000000) × (q j ≤ 1000000)) (λ j. ×_prop le_prop le_prop) x.within y.within i;
    }

pub cost_laws : Laws cost_algebra
cost_laws =
    record {
      then_associative = λ x y z. same_cost _ _ (omega arith) (omega arith);
      unit_then = λ x. same_cost _ _ (omega arith) (omega arith);
      then_unit = λ x. same_cost _ _ (omega arith) (omega arith);
      either_associative = λ x y z. same_cost _ _ (grind arith) (grind arith);
      either_commutative = λ x y. same_cost _ _ (omega arith) (omega arith);
      either_idempotent = λ x. same_cost _ _ (omega arith) (omega arith);
      then_either = λ x y z. same_cost _ _ (omega arith) (omega arith);
      either_then = λ x y z. same_cost _ _ (omega arith) (omega arith);
      unit_belongs = λ P. refl;
      then_belongs = λ x y P p q. refl;
      either_belongs = λ x y P p q. refl;
      larger_belongs = λ x P Q l p. refl;
      disjoint_commute = λ x y P Q d p q. same_cost _ _ (omega arith) (omega arith);
      suiting_belongs = λ bytes P s. refl;
      unsuiting_unit = λ bytes P s. cond-false (suitable bytes) _ _ s;
    }
