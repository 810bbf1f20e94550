-- Taking one row.
use Rattle.std.proofs.Common.{◌≡◌, ℕ, ◌<◌, ◌≤◌, true, false, sym, ap, subst, ⊎_elim, arith}
use Rattle.std.proofs.lemmas.Bool.{cases_Bool, cond-true, cond-false}
use Rattle.numbers.specs.Below.{sum_below}
use Rattle.diagram.specs.Diagrams.{Diagram, Lawful}
use Rattle.diagram.specs.Runs.{Marking, Can, take_row}
use Rattle.diagram.specs.Progress.{TakingKeepsMarkingsLawful}
use Rattle.diagram.proofs.Sums.{sum_lt}

-- where a party of the row's step goes, and where another stays
pub moved : (D : Diagram) (M : Marking) (r p : ℕ) → D.part (D.step r) p ≡ true → take_row D M r p ≡ D.to r p
moved D M r p h = cond-true (D.part (D.step r) p) (D.to r p) (M p) h

pub stayed : (D : Diagram) (M : Marking) (r p : ℕ) → D.part (D.step r) p ≡ false → take_row D M r p ≡ M p
stayed D M r p h = cond-false (D.part (D.step r) p) (D.to r p) (M p) h

pub taking_keeps_markings_lawful : TakingKeepsMarkingsLawful
taking_keeps_markings_lawful rank D lawful M r waits can p lt =
    ⊎_elim
    (λ in'. subst (λ n. (D.stands n ≡ true) × (D.part n p ≡ true)) (sym (moved D M r p in')) (lawful.row_stands r p can.0 in', lawful.row_has r p can.0 in'))
    (λ out. subst (λ n. (D.stands n ≡ true) × (D.part n p ≡ true)) (sym (stayed D M r p out)) (waits p lt))
    (cases_Bool (D.part (D.step r) p))

-- the ranks at which the parties wait, summed
abbrev pub height : (ℕ → ℕ) → Diagram → Marking → ℕ
height rank D M = sum_below D.parties (λ p. rank (M p))

-- no rank falls
pub rank_keeps : (rank : ℕ → ℕ) (D : Diagram) → Lawful rank D → (M : Marking) (r : ℕ) → Can D M r → (p : ℕ) → rank (M p) ≤ rank (take_row D M r p)
rank_keeps rank D lawful M r can p =
    ⊎_elim
    (λ in'.
    let was : rank (M p) ≡ rank (D.step r) = ap rank (can.1.1 p in') in
    let is : rank (take_row D M r p) ≡ rank (D.to r p) = ap rank (moved D M r p in') in
    omega (arith, was, is, lawful.row_rises r p can.0 in'))
    (λ out. let is : rank (take_row D M r p) ≡ rank (M p) = ap rank (stayed D M r p out) in omega arith)
    (cases_Bool (D.part (D.step r) p))

-- and some rank rises
pub height_rises : (rank : ℕ → ℕ) (D : Diagram) → Lawful rank D → (M : Marking) (r : ℕ) → Can D M r → height rank D M < height rank D (take_row D M r)
height_rises rank D lawful M r can =
    let someone = lawful.step_peopled (D.step r) can.1.0.0 in
    let p = someone.0 in
    let was : rank (M p) ≡ rank (D.step r) = ap rank (can.1.1 p someone.1) in
    let is : rank (take_row D M r p) ≡ rank (D.to r p) = ap rank (moved D M r p someone.1) in
    sum_lt D.parties (λ q. rank (M q)) (λ q. rank (take_row D M r q)) (λ q lt. rank_keeps rank D lawful M r can q) p (lawful.part_known (D.step r) p someone.1)
    (omega (arith, was, is, lawful.row_rises r p can.0 someone.1))
