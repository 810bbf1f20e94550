-- A list of exactly the complete runs.
use Rattle.std.proofs.Common.{◌≡◌, ℕ, zero, suc, ◌≤◌, true, false, List, [], ◌∷◌, map, length, sym, ap, subst, ⊎_elim, arith}
use Rattle.std.proofs.lemmas.Bool.{cases_Bool}
use Rattle.std.specs.List.{ContainsAt as Has}
use Rattle.numbers.specs.Below.{each_below}
use Rattle.diagram.specs.Decided.{CompleteRunsAreListed}
use Rattle.diagram.specs.Diagrams.{Diagram, Lawful}
use Rattle.diagram.specs.Runs.{Marking, first, AtEnd, take_row, Run, stop, go}
use Rattle.diagram.specs.Walks.{at_end, can_take, complete_from, longest}
use Rattle.diagram.proofs.Bounds.{runs_are_bounded}
use Rattle.diagram.proofs.Members.{has_none, has_here, has_cons, has_each, has_each_at, has_map, has_map_at}
use Rattle.diagram.proofs.Tests.{at_end_tells, at_end_from, can_tells, can_from, end_is_still}

module _ (rank : ℕ → ℕ) (D : Diagram) (lawful : Lawful rank D) where
  -- the runs that begin with row r
  abbrev by_row : ℕ → Marking → ℕ → List (List ℕ)
  by_row n M r = elim (can_take D M r) [ true ↦ map (λ rs. r ∷ rs) (complete_from D n (take_row D M r)) | false ↦ [] ]

  at_once : (n : ℕ) (M : Marking) → at_end D M ≡ true → complete_from D n M ≡ [] ∷ []
  unfolding complete_from
  at_once zero M h = ap (λ b. elim b as (λ _. List (List ℕ)) [ true ↦ [] ∷ [] | false ↦ [] ]) h
  at_once (suc n) M h = ap (λ b. elim b as (λ _. List (List ℕ)) [ true ↦ [] ∷ [] | false ↦ each_below D.size (by_row n M) ]) h

  later : (n : ℕ) (M : Marking) → at_end D M ≡ false → complete_from D (suc n) M ≡ each_below D.size (by_row n M)
  unfolding complete_from
  later n M h = ap (λ b. elim b as (λ _. List (List ℕ)) [ true ↦ [] ∷ [] | false ↦ each_below D.size (by_row n M) ]) h

  never : (M : Marking) → at_end D M ≡ false → complete_from D 0 M ≡ []
  unfolding complete_from
  never M h = ap (λ b. elim b as (λ _. List (List ℕ)) [ true ↦ [] ∷ [] | false ↦ [] ]) h

  by_row_can : (n : ℕ) (M : Marking) (r : ℕ) → can_take D M r ≡ true → by_row n M r ≡ map (λ rs. r ∷ rs) (complete_from D n (take_row D M r))
  by_row_can n M r h = ap (λ b. elim b as (λ _. List (List ℕ)) [ true ↦ map (λ rs. r ∷ rs) (complete_from D n (take_row D M r)) | false ↦ [] ]) h

  by_row_cannot : (n : ℕ) (M : Marking) (r : ℕ) → can_take D M r ≡ false → by_row n M r ≡ []
  by_row_cannot n M r h = ap (λ b. elim b as (λ _. List (List ℕ)) [ true ↦ map (λ rs. r ∷ rs) (complete_from D n (take_row D M r)) | false ↦ [] ]) h

  done : (n : ℕ) (M : Marking) (rs : List ℕ) → at_end D M ≡ true → Has (complete_from D n M) rs → (X : Marking) × Run D M rs X × AtEnd D X
  done n M rs ends h =
      ⊎_elim
      (λ same. (M, subst (λ l. Run D M l M) same stop, at_end_tells D M ends))
      (λ rest. absurd (has_none rest))
      (has_cons [] rs [] (subst (λ l. Has l rs) (at_once n M ends) h))

  -- what is listed is a run to the end
  pub listed_run : (n : ℕ) (M : Marking) (rs : List ℕ) → Has (complete_from D n M) rs → (X : Marking) × Run D M rs X × AtEnd D X
  listed_run zero M rs h =
      ⊎_elim (λ ends. done 0 M rs ends h) (λ goes. absurd (has_none (subst (λ l. Has l rs) (never M goes) h))) (cases_Bool (at_end D M))
  listed_run (suc n) M rs h =
      ⊎_elim
      (λ ends. done (suc n) M rs ends h)
      (λ goes.
      let found = has_each_at D.size (by_row n M) rs (subst (λ l. Has l rs) (later n M goes) h) in
      let r = found.0 in
      ⊎_elim
      (λ can.
      let tail = has_map_at (λ ss. r ∷ ss) (complete_from D n (take_row D M r)) rs (subst (λ l. Has l rs) (by_row_can n M r can) found.2) in
      let rest = listed_run n (take_row D M r) tail.0 tail.1 in
      (rest.0, subst (λ l. Run D M l rest.0) tail.2 (go (can_tells D M rank lawful r can) rest.1), rest.2))
      (λ cannot. absurd (has_none (subst (λ l. Has l rs) (by_row_cannot n M r cannot) found.2)))
      (cases_Bool (can_take D M r)))
      (cases_Bool (at_end D M))

  -- and a run to the end that is not too long is listed
  pub run_listed : {M X : Marking} {rs : List ℕ} → (n : ℕ) → Run D M rs X → AtEnd D X → length rs ≤ n → Has (complete_from D n M) rs
  run_listed {M} n stop ends le = subst (λ l. Has l []) (sym (at_once n M (at_end_from D M ends))) (has_here [] [])
  run_listed zero (go can rest) ends le = absurd (omega arith)
  run_listed {M} (suc n) (go {r = r} {rs = rs} can rest) ends le =
      ⊎_elim
      (λ still. absurd (end_is_still D M rank lawful (at_end_tells D M still) r can))
      (λ goes.
      subst (λ l. Has l (r ∷ rs)) (sym (later n M goes))
      (has_each D.size (by_row n M) r (r ∷ rs) (lawful.row_placed r can.0)
      (subst (λ l. Has l (r ∷ rs)) (sym (by_row_can n M r (can_from D M rank lawful r can)))
      (has_map (λ ss. r ∷ ss) (complete_from D n (take_row D M r)) rs (run_listed n rest ends (omega arith))))))
      (cases_Bool (at_end D M))

pub complete_runs_are_listed : CompleteRunsAreListed
complete_runs_are_listed rank D lawful =
    record {
      all_there = λ rs complete. run_listed rank D lawful (longest rank D) complete.1 complete.2 (runs_are_bounded rank D lawful rs complete.0 complete.1);
      none_else = λ rs listed. listed_run rank D lawful (longest rank D) first rs listed;
    }
