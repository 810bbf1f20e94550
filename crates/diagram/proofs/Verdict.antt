-- Where nothing is left to take, one row is all that stands exactly when the diagram is sound.
use Rattle.std.proofs.Common.{◌≡◌, ℕ, zero, suc, ◌+◌, ◌<◌, ◌≤◌, true, ◌⊎◌, List, [], ◌∷◌, sym, refl, ap, ◌∙◌, subst, inl, inr, ⊎_elim, arith}
use Rattle.std.proofs.lemmas.Bool.{cases_eq}
use Rattle.diagram.specs.Diagrams.{Diagram, Inner, Lawful}
use Rattle.diagram.specs.Moves.{NothingLeft}
use Rattle.diagram.specs.Progress.{greatest_rank}
use Rattle.diagram.specs.Reducing.{OneRowLeft, TheVerdictIsRight}
use Rattle.diagram.specs.Runs.{Marking, first, AtEnd, Enabled, Can, take_row, Run, stop, go, Leads, Sound}
use Rattle.diagram.proofs.Leftover.{no_merge, no_shortcut}
use Rattle.diagram.proofs.Lowest.{min, start_lowest, lowest, end_lowest}
use Rattle.diagram.proofs.ShortcutKept.{joined}
use Rattle.diagram.proofs.Taking.{moved}
use Rattle.diagram.proofs.Tests.{end_is_still}
use Rattle.diagram.proofs.Twins.{Two, Full, all_full, rank_bounded}

module _ (rank : ℕ → ℕ) (D : Diagram) (lawful : Lawful rank D) where
  -- where all wait at the end nothing happens
  pub still : {M X : Marking} {rs : List ℕ} → AtEnd D M → Run D M rs X → AtEnd D X
  still ends stop = ends
  still {M} ends (go {r = t} can rest) = absurd (end_is_still D M rank lawful ends t can)

  -- all rows of the start send all to the end
  abbrev Straight : Type 0
  Straight = (t : ℕ) → D.used t ≡ true → D.step t ≡ 0 → (p : ℕ) → p < D.parties → D.to t p ≡ D.end

  -- then a run takes none or one of them
  none_or_one : Straight → {X : Marking} {rs : List ℕ} → Run D first rs X → (first ≡ X) ⊎ AtEnd D X
  none_or_one straight stop = inl refl
  none_or_one straight (go {r = t} can rest) =
      let someone = lawful.step_peopled (D.step t) can.1.0.0 in
      let of' : D.step t ≡ 0 = sym (can.1.1 someone.0 someone.1) in
      inr (still (λ p lt. moved D first t p (ap (λ k. D.part k p) of' ∙ lawful.start_full p lt) ∙ straight t can.0 of' p lt) rest)

  pub one_is_sound : OneRowLeft D → Sound D
  one_is_sound one =
      let r = one.row in
      let can : Can D first r = (one.in_use, subst (Enabled D first) (sym one.from_start) (lawful.start_inner, λ p in'. refl)) in
      let straight : Straight = λ t use' of' p lt. ap (λ k. D.to k p) (one.no_other_row t use') ∙ one.to_end p lt in
      record {
        no_dead_step = λ n in'. (first, ([], stop), subst (Enabled D first) (sym (one.no_other_step n in')) (lawful.start_inner, λ p in''. refl));
        never_stalls = λ X leads.
            ⊎_elim
            (λ same. (
              take_row D first r,
              subst (λ M. Leads D M (take_row D first r)) same (r ∷ [], go can stop),
              λ p lt. moved D first r p (ap (λ k. D.part k p) one.from_start ∙ lawful.start_full p lt) ∙ one.to_end p lt,
            ))
            (λ ends. (X, ([], stop), ends))
            (none_or_one straight leads.1);
      }

  module _ (nothing : NothingLeft D) (sound : Sound D) where
    full : (n : ℕ) → Two D n → Full D n
    full n two = all_full rank D lawful sound (no_shortcut rank D lawful nothing) (no_merge rank D lawful nothing) (greatest_rank rank D) n (omega arith) two

    -- a row of a full step sends all to the end, or leads to a full step with two outcomes
    Sends : ℕ → ℕ → Type 0
    Sends n r = ((p : ℕ) → p < D.parties → D.to r p ≡ D.end) ⊎ ((m : ℕ) × Two D m × Full D m × (rank n < rank m))

    sends : (n : ℕ) → Inner D n → Full D n → (r : ℕ) → D.used r ≡ true → D.step r ≡ n → Sends n r
    unfolding Sends
    sends n in_n all r use' of' =
        let alive = sound.no_dead_step n in_n in
        let X = alive.0 in
        let can : Can D X r = (use', subst (Enabled D X) (sym of') alive.2) in
        let M : Marking = take_row D X r in
        let reached : Leads D first M = joined D alive.1 (r ∷ [], go can stop) in
        let in_r : (p : ℕ) → p < D.parties → D.part (D.step r) p ≡ true = λ p lt. ap (λ k. D.part k p) of' ∙ all p lt in
        let goes : (p : ℕ) → p < D.parties → M p ≡ D.to r p = λ p lt. moved D X r p (in_r p lt) in
        let someone = lawful.step_peopled n in_n.0 in
        let s_lt = lawful.part_known n someone.0 someone.1 in
        let w = min (rank (M someone.0)) D.parties (λ k. true) (λ k. rank (M k)) someone.0 (omega arith) s_lt refl in
        let p = w.at in
        let low : (q : ℕ) → q < D.parties → rank (M p) ≤ rank (M q) = λ q lt. w.least q lt refl in
        ⊎_elim
        (λ ends.
        let at = end_lowest rank D lawful sound M reached (λ q lt. subst (λ k. rank k ≤ rank (M q)) ends (low q lt)) in
        inl (λ q lt. sym (goes q lt) ∙ at q lt))
        (λ ne.
        let on = lowest rank D lawful sound M reached p w.within ne low in
        let up = lawful.row_rises r p use' (in_r p w.within) in
        let e : rank (M p) ≡ rank (D.to r p) = ap rank (goes p w.within) in
        let f : rank (D.step r) ≡ rank n = ap rank of' in
        let above : rank n < rank (M p) = omega arith in
        let start_below : rank 0 ≤ rank n = subst (λ k. rank 0 ≤ rank k) (alive.2.1 someone.0 someone.1) (start_lowest rank D lawful X alive.1 someone.0) in
        let two = no_shortcut rank D lawful nothing r (M p) use' on.0 (λ z. let g : rank (M p) ≡ rank 0 = ap rank z in absurd (omega arith))
        (λ k in'. in_r k (lawful.part_known (M p) k in'))
        (λ k in'. sym (goes k (lawful.part_known (M p) k in')) ∙ on.1 k in') in
        inr (M p, two, full (M p) two, above))
        (cases_eq (M p) D.end)

    -- two rows of one step that send all to the end would merge
    two_to_end : (m : ℕ) (two : Two D m) → ((r : ℕ) → D.used r ≡ true → D.step r ≡ m → (p : ℕ) → p < D.parties → D.to r p ≡ D.end) → ⊥
    two_to_end m two ends =
        no_merge rank D lawful nothing two.one two.other two.one_used two.other_used two.differ (two.one_of ∙ sym two.other_of)
        (λ p in'.
        let lt = lawful.part_known (D.step two.one) p in' in
        ends two.one two.one_used two.one_of p lt ∙ sym (ends two.other two.other_used two.other_of p lt))

    inner_of : (m : ℕ) → Two D m → Inner D m
    inner_of m two = subst (Inner D) two.one_of (lawful.row_inner two.one two.one_used)

    all_to_end : (d n : ℕ) → greatest_rank rank D ≤ d + rank n → Inner D n → Full D n → (r : ℕ) → D.used r ≡ true → D.step r ≡ n → (p : ℕ) → p < D.parties → D.to r p ≡ D.end
    unfolding Sends
    all_to_end zero n le in_n all r use' of' =
        ⊎_elim
        (λ ends. ends)
        (λ more.
        let up = more.3 in
        let b = rank_bounded rank D lawful sound (no_shortcut rank D lawful nothing) more.0 more.1 in
        absurd (omega arith))
        (sends n in_n all r use' of')
    all_to_end (suc d) n le in_n all r use' of' =
        ⊎_elim
        (λ ends. ends)
        (λ more.
        let up = more.3 in
        absurd (two_to_end more.0 more.1 (all_to_end d more.0 (omega arith) (inner_of more.0 more.1) more.2)))
        (sends n in_n all r use' of')

    straight : Straight
    straight t use' of' = all_to_end (greatest_rank rank D) 0 (omega arith) lawful.start_inner lawful.start_full t use' of'

    only_start : (n : ℕ) → Inner D n → n ≡ 0
    only_start n in_n =
        let alive = sound.no_dead_step n in_n in
        let someone = lawful.step_peopled n in_n.0 in
        let p = someone.0 in
        let at = alive.2.1 p someone.1 in
        ⊎_elim
        (λ same. sym at ∙ sym (ap (λ M. M p) same))
        (λ ends. absurd (in_n.1 (sym at ∙ ends p (lawful.part_known n p someone.1))))
        (none_or_one straight alive.1.1)

    sound_is_one : OneRowLeft D
    sound_is_one =
        let led = lawful.step_led 0 lawful.start_inner in
        let r = led.0 in
        record {
          row = r;
          in_use = led.1;
          from_start = led.2;
          to_end = straight r led.1 led.2;
          no_other_row = λ t use'.
              let of' = only_start (D.step t) (lawful.row_inner t use') in
              ⊎_elim
              (λ same. same)
              (λ ne. absurd (no_merge rank D lawful nothing t r use' led.1 ne (of' ∙ sym led.2) (λ p in'.
              let lt = lawful.part_known (D.step t) p in' in
              straight t use' of' p lt ∙ sym (straight r led.1 led.2 p lt))))
              (cases_eq t r);
          no_other_step = only_start;
        }

pub the_verdict_is_right : TheVerdictIsRight
the_verdict_is_right rank D lawful nothing = (sound_is_one rank D lawful nothing, one_is_sound rank D lawful)
