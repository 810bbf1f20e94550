-- In a sound diagram the lowest place of a reached marking is enabled.
use Rattle.std.proofs.Common.{◌≡◌, ℕ, zero, suc, ◌<◌, ◌≤◌, Bool, true, ◌&&◌, ltb, ◌⊎◌, List, sym, refl, ap, ◌∙◌, subst, inl, inr, ⊎_elim, arith}
use Rattle.std.proofs.lemmas.Bool.{both_ways, cases_Bool, cases_eq, cases_lt, and_parts, lt-ltb, ltb-true}
use Rattle.numbers.specs.Below.{some_below}
use Rattle.numbers.proofs.BelowLaws.{some_at, none_at}
use Rattle.diagram.specs.Diagrams.{Diagram, Lawful}
use Rattle.diagram.specs.Runs.{Marking, first, Waits, AtEnd, Enabled, take_row, Run, stop, go, Leads, Sound}
use Rattle.diagram.proofs.Bounds.{first_waits, run_waits}
use Rattle.diagram.proofs.Pulling.{leaves}
use Rattle.diagram.proofs.ShortcutKept.{fired_enabled}
use Rattle.diagram.proofs.Taking.{moved, stayed}
use Rattle.diagram.proofs.Tests.{second_fails}

-- a number that passes, with the least value of those that do
pub record Min (n : ℕ) (test : ℕ → Bool) (f : ℕ → ℕ) : Type 0 where
  pub at : ℕ
  pub within : at < n
  pub passes : test at ≡ true
  pub least : (i : ℕ) → i < n → test i ≡ true → f at ≤ f i

-- a number has the least value, or there is one with a lesser
least_or_less : (n : ℕ) (test : ℕ → Bool) (f : ℕ → ℕ) (j : ℕ) → j < n → test j ≡ true → Min n test f ⊎ ((i : ℕ) × (i < n) × (test i ≡ true) × (f i < f j))
least_or_less n test f j lt h =
    ⊎_elim
    (λ some.
    let found = some_at n (λ i. test i && ltb (f i) (f j)) some in
    let parts = and_parts (test found.0) (ltb (f found.0) (f j)) found.2 in
    inr (found.0, found.1, parts.0, ltb-true _ _ parts.1))
    (λ none.
    inl (record {
      at = j;
      within = lt;
      passes = h;
      least = λ i l t.
          ⊎_elim
          (λ less. absurd (both_ways (ltb (f i) (f j)) (second_fails (test i) (ltb (f i) (f j)) t (none_at n (λ k. test k && ltb (f k) (f j)) none i l)) (lt-ltb _ _ less)))
          (λ ge. ge)
          (cases_lt (f i) (f j));
    }))
    (cases_Bool (some_below n (λ i. test i && ltb (f i) (f j))))

-- so one with the least is found
pub min : (b n : ℕ) (test : ℕ → Bool) (f : ℕ → ℕ) (j : ℕ) → f j ≤ b → j < n → test j ≡ true → Min n test f
min zero n test f j le lt h = ⊎_elim (λ here. here) (λ less. let l = less.3 in absurd (omega arith)) (least_or_less n test f j lt h)
min (suc b) n test f j le lt h =
    ⊎_elim (λ here. here) (λ less. min b n test f less.0 (let l = less.3 in omega arith) less.1 less.2) (least_or_less n test f j lt h)

module _ (rank : ℕ → ℕ) (D : Diagram) (lawful : Lawful rank D) where
  -- along a run a party stays, or rises in rank
  pub ranks_rise : {M X : Marking} {rs : List ℕ} → Run D M rs X → (p : ℕ) → (M p ≡ X p) ⊎ (rank (M p) < rank (X p))
  ranks_rise stop p = inl refl
  ranks_rise {M} {X} (go {r = t} can rest) p =
      ⊎_elim
      (λ in'.
      let up = lawful.row_rises t p can.0 in' in
      let at : rank (M p) ≡ rank (D.step t) = ap rank (can.1.1 p in') in
      let went : rank (take_row D M t p) ≡ rank (D.to t p) = ap rank (moved D M t p in') in
      inr (⊎_elim (λ same. let e : rank (take_row D M t p) ≡ rank (X p) = ap rank same in omega arith) (λ more. omega arith) (ranks_rise rest p)))
      (λ out.
      let stays = stayed D M t p out in
      ⊎_elim (λ same. inl (sym stays ∙ same)) (λ more. inr (subst (λ n. rank n < rank (X p)) stays more)) (ranks_rise rest p))
      (cases_Bool (D.part (D.step t) p))

  -- no reached place lies below the start
  pub start_lowest : (M : Marking) → Leads D first M → (p : ℕ) → rank 0 ≤ rank (M p)
  start_lowest M reached p = ⊎_elim (λ same. let e : rank 0 ≡ rank (M p) = ap rank same in omega arith) (λ up. omega arith) (ranks_rise reached.1 p)

  module _ (sound : Sound D) (M : Marking) (reached : Leads D first M) where
    pub waits : Waits D M
    waits = run_waits rank D lawful (first_waits rank D lawful) reached.1

    -- who does not wait at the end waits below it
    pub below_end : (p : ℕ) → p < D.parties → (M p ≡ D.end → ⊥) → rank (M p) < rank D.end
    below_end p lt ne =
        let on = sound.never_stalls M reached in
        ⊎_elim
        (λ same. absurd (ne (same ∙ on.2 p lt)))
        (λ up. subst (λ n. rank (M p) < rank n) (on.2 p lt) up)
        (ranks_rise on.1.1 p)

    pub lowest : (p : ℕ) → p < D.parties → (M p ≡ D.end → ⊥) → ((q : ℕ) → q < D.parties → rank (M p) ≤ rank (M q)) → Enabled D M (M p)
    lowest p lt ne low =
        let on = sound.never_stalls M reached in
        let fires = leaves D on.1.1 (M p) p refl (λ e. ne (sym e ∙ on.2 p lt)) in
        let z = fired_enabled D (M p) on.1.1 fires in (
          ((waits p lt).0, ne),
          λ q in'.
              let le = low q (lawful.part_known (M p) q in') in
              let at : rank (z.0 q) ≡ rank (M p) = ap rank (z.2.1 q in') in
              ⊎_elim (λ same. same ∙ z.2.1 q in') (λ up. absurd (omega arith)) (ranks_rise z.1.1 q),
        )

    -- where the end is lowest, all wait there
    pub end_lowest : ((q : ℕ) → q < D.parties → rank D.end ≤ rank (M q)) → AtEnd D M
    end_lowest low q lt =
        ⊎_elim (λ same. same) (λ ne. let up = below_end q lt ne in let le = low q lt in absurd (omega arith)) (cases_eq (M q) D.end)
