-- Soundness is decided by walking.
use Rattle.std.proofs.Common.{◌≡◌, ℕ, zero, suc, ◌+◌, ◌≤◌, Bool, true, false, not, ◌&&◌, List, [], ◌∷◌, length, sym, ap, ◌∙◌, ⊎_elim, arith}
use Rattle.std.proofs.lemmas.Bool.{both_ways, cases_Bool, and_parts, and_from, not-true, not-false}
use Rattle.numbers.specs.Below.{some_below}
use Rattle.numbers.proofs.BelowLaws.{some_found, some_none, some_at, none_at}
use Rattle.diagram.specs.Decided.{SoundnessIsDecided}
use Rattle.diagram.specs.Diagrams.{Diagram, Lawful}
use Rattle.diagram.specs.Runs.{Marking, first, Waits, take_row, Run, stop, go, Leads, Sound}
use Rattle.diagram.specs.Walks.{at_end, inner, enabled, can_take, reaches, longest, is_sound}
use Rattle.diagram.proofs.Bounds.{first_waits, run_waits, run_rises, height_bounded}
use Rattle.diagram.proofs.Tests.{second_fails, at_end_tells, at_end_from, inner_tells, inner_from, enabled_tells, enabled_from, can_tells, can_from}

module _ (rank : ℕ → ℕ) (D : Diagram) (lawful : Lawful rank D) where
  -- a run from a lawful marking is no longer than the longest
  pub short : {M X : Marking} {rs : List ℕ} → Waits D M → Run D M rs X → length rs ≤ longest rank D
  short {X = X} waits run = let up = run_rises rank D lawful run in let top = height_bounded rank D lawful X (run_waits rank D lawful waits run) in omega arith

  module _ (test : Marking → Bool) where
    abbrev by_row : ℕ → Marking → ℕ → Bool
    by_row n M r = elim (can_take D M r) [ true ↦ reaches D test n (take_row D M r) | false ↦ false ]

    here : (n : ℕ) (M : Marking) → test M ≡ true → reaches D test n M ≡ true
    unfolding reaches
    here zero M h = h
    here (suc n) M h = ap (λ b. elim b as (λ _. Bool) [ true ↦ true | false ↦ some_below D.size (by_row n M) ]) h

    further : (n : ℕ) (M : Marking) → test M ≡ false → reaches D test (suc n) M ≡ some_below D.size (by_row n M)
    unfolding reaches
    further n M h = ap (λ b. elim b as (λ _. Bool) [ true ↦ true | false ↦ some_below D.size (by_row n M) ]) h

    by_row_can : (n : ℕ) (M : Marking) (r : ℕ) → can_take D M r ≡ true → by_row n M r ≡ reaches D test n (take_row D M r)
    by_row_can n M r h = ap (λ b. elim b as (λ _. Bool) [ true ↦ reaches D test n (take_row D M r) | false ↦ false ]) h

    by_row_cannot : (n : ℕ) (M : Marking) (r : ℕ) → can_take D M r ≡ false → by_row n M r ≡ false
    by_row_cannot n M r h = ap (λ b. elim b as (λ _. Bool) [ true ↦ reaches D test n (take_row D M r) | false ↦ false ]) h

    pub reached : (n : ℕ) (M : Marking) → reaches D test n M ≡ true → (X : Marking) × Leads D M X × (test X ≡ true)
    unfolding reaches
    reached zero M h = (M, ([], stop), h)
    reached (suc n) M h =
        ⊎_elim
        (λ now. (M, ([], stop), now))
        (λ later.
        let found = some_at D.size (by_row n M) (sym (further n M later) ∙ h) in
        let r = found.0 in
        ⊎_elim
        (λ can.
        let rest = reached n (take_row D M r) (sym (by_row_can n M r can) ∙ found.2) in
        (rest.0, (r ∷ rest.1.0, go (can_tells D M rank lawful r can) rest.1.1), rest.2))
        (λ cannot. absurd (both_ways (by_row n M r) (by_row_cannot n M r cannot) found.2))
        (cases_Bool (can_take D M r)))
        (cases_Bool (test M))

    pub reaching : {M X : Marking} {rs : List ℕ} → (n : ℕ) → Run D M rs X → test X ≡ true → length rs ≤ n → reaches D test n M ≡ true
    reaching {M} n stop h le = here n M h
    reaching zero (go can rest) h le = absurd (omega arith)
    reaching {M} (suc n) (go {r = r} can rest) h le =
        ⊎_elim
        (λ now. here (suc n) M now)
        (λ later.
        further n M later
        ∙ some_found D.size (by_row n M) r (lawful.row_placed r can.0) (by_row_can n M r (can_from D M rank lawful r can) ∙ reaching n rest h (omega arith)))
        (cases_Bool (test M))

  abbrev stalls : Marking → Bool
  stalls M = not (reaches D (at_end D) (longest rank D) M)

  sound_tells : is_sound rank D ≡ true → Sound D
  sound_tells h =
      let parts = and_parts
      (not (some_below (D.end + 1) (λ n. inner D n && not (reaches D (λ M. enabled D M n) (longest rank D) first))))
      (not (reaches D stalls (longest rank D) first)) h in
      record {
        no_dead_step = λ n in'.
            let bound = lawful.step_numbered n in'.0 in
            let dead = none_at (D.end + 1) (λ m. inner D m && not (reaches D (λ M. enabled D M m) (longest rank D) first)) (not-true _ parts.0) n (omega arith) in
            let found = reached (λ M. enabled D M n) (longest rank D) first (not-false _ (second_fails (inner D n) (not (reaches D (λ M. enabled D M n) (longest rank D) first)) (inner_from D first n in') dead)) in
            (found.0, found.1, enabled_tells D found.0 rank lawful n found.2);
        never_stalls = λ X leads.
            ⊎_elim
            (λ goes. let found = reached (at_end D) (longest rank D) X goes in (found.0, found.1, at_end_tells D found.0 found.2))
            (λ stuck.
            absurd (both_ways (reaches D stalls (longest rank D) first) (not-true _ parts.1)
            (reaching stalls (longest rank D) leads.1 (ap not stuck) (short (first_waits rank D lawful) leads.1))))
            (cases_Bool (reaches D (at_end D) (longest rank D) X));
      }

  sound_from : Sound D → is_sound rank D ≡ true
  sound_from sound =
      and_from
      (not (some_below (D.end + 1) (λ n. inner D n && not (reaches D (λ M. enabled D M n) (longest rank D) first))))
      (not (reaches D stalls (longest rank D) first))
      (ap not (some_none (D.end + 1) (λ n. inner D n && not (reaches D (λ M. enabled D M n) (longest rank D) first)) (λ n lt.
      ⊎_elim
      (λ in'.
      let found = sound.no_dead_step n (inner_tells D first n in') in
      let test : Marking → Bool = λ M. enabled D M n in
      ap (λ b. b && not (reaches D test (longest rank D) first)) in'
      ∙ ap not (reaching test (longest rank D) found.1.1 (enabled_from D found.0 rank lawful n found.2) (short (first_waits rank D lawful) found.1.1)))
      (λ out. ap (λ b. b && not (reaches D (λ M. enabled D M n) (longest rank D) first)) out)
      (cases_Bool (inner D n)))))
      (⊎_elim
      (λ stuck.
      let found = reached stalls (longest rank D) first stuck in
      let on = sound.never_stalls found.0 found.1 in
      let goes = reaching (at_end D) (longest rank D) on.1.1 (at_end_from D on.0 on.2) (short (run_waits rank D lawful (first_waits rank D lawful) found.1.1) on.1.1) in
      absurd (both_ways (stalls found.0) (ap not goes) found.2))
      (λ free. ap not free)
      (cases_Bool (reaches D stalls (longest rank D) first)))

pub soundness_is_decided : SoundnessIsDecided
soundness_is_decided rank D lawful = (sound_tells rank D lawful, sound_from rank D lawful)
