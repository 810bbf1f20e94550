-- Where nothing is left to take, a step with two outcomes has all parties.
use Rattle.std.proofs.Common.{◌≡◌, ℕ, zero, suc, ◌+◌, ◌*◌, ◌<◌, ◌≤◌, Bool, true, false, not, ◌&&◌, ◌||◌, eqb, ◌⊎◌, [], ◌∷◌, sym, refl, ap, ◌∙◌, subst, inl, inr, ⊎_elim, arith}
use Rattle.std.proofs.lemmas.Bool.{both_ways, cases_Bool, cases_eq, cases_lt, and_parts, or_left, or_right, or_cases, not-true, not-false, eqb-false, ne_eqb}
use Rattle.numbers.specs.Below.{some_below}
use Rattle.numbers.proofs.BelowLaws.{some_at, none_at}
use Rattle.diagram.specs.Diagrams.{Diagram, Inner, Lawful}
use Rattle.diagram.specs.Progress.{greatest_rank}
use Rattle.diagram.specs.Runs.{Marking, first, Enabled, Can, take_row, stop, go, Leads, Sound}
use Rattle.diagram.specs.Walks.{enabled}
use Rattle.diagram.proofs.Bounds.{height_bounded}
use Rattle.diagram.proofs.Lowest.{min, start_lowest, waits, below_end, lowest, end_lowest}
use Rattle.diagram.proofs.Pulling.{apart, waiting_on}
use Rattle.diagram.proofs.ShortcutKept.{joined}
use Rattle.diagram.proofs.Sums.{greatest_at}
use Rattle.diagram.proofs.Taking.{moved, stayed, height, height_rises}
use Rattle.diagram.proofs.Tests.{second_fails, enabled_tells, enabled_from}

-- two outcomes of a step
pub record Two (D : Diagram) (n : ℕ) : Type 0 where
  pub one : ℕ
  pub other : ℕ
  pub one_used : D.used one ≡ true
  pub other_used : D.used other ≡ true
  pub one_of : D.step one ≡ n
  pub other_of : D.step other ≡ n
  pub differ : one ≡ other → ⊥

-- a step has all parties
abbrev pub Full : Diagram → ℕ → Type 0
Full D n = (p : ℕ) → p < D.parties → D.part n p ≡ true

-- no two rows of one step have equal destinations
abbrev pub NoMerge : Diagram → Type 0
NoMerge D = (i j : ℕ) → D.used i ≡ true → D.used j ≡ true → (i ≡ j → ⊥) → D.step i ≡ D.step j → ((p : ℕ) → D.part (D.step i) p ≡ true → D.to i p ≡ D.to j p) → ⊥

-- a step that some row unconditionally enables has two outcomes
abbrev pub NoShortcut : Diagram → Type 0
NoShortcut D =
    (r m : ℕ) → D.used r ≡ true → Inner D m → (m ≡ 0 → ⊥)
    → ((p : ℕ) → D.part m p ≡ true → D.part (D.step r) p ≡ true) → ((p : ℕ) → D.part m p ≡ true → D.to r p ≡ m) → Two D m

module _ (rank : ℕ → ℕ) (D : Diagram) (lawful : Lawful rank D) (sound : Sound D) (no_shortcut : NoShortcut D) where
  abbrev top : ℕ
  top = D.parties * greatest_rank rank D

  reach : (M : Marking) (t : ℕ) → Leads D first M → Can D M t → Leads D first (take_row D M t)
  reach M t leads can = joined D leads (t ∷ [], go can stop)

  not_above : (M : Marking) → Leads D first M → height rank D M ≤ top
  not_above M reached = height_bounded rank D lawful M (waits rank D lawful sound M reached)

  -- a place above a reached one is not the start
  not_start : (n m : ℕ) → rank 0 ≤ rank n → rank n < rank m → m ≡ 0 → ⊥
  not_start n m le lt same = let e : rank m ≡ rank 0 = ap rank same in absurd (omega arith)

  -- a reached marking at which n is enabled and no other step
  record Quiet (n : ℕ) : Type 0 where
    at : Marking
    reached : Leads D first at
    on : Enabled D at n
    alone : (s : ℕ) → Enabled D at s → s ≡ n

  module _ (n : ℕ) where
    abbrev other_on : Marking → ℕ → Bool
    other_on M s = not (eqb s n) && enabled D M s

    -- there is no other, or firing it leads on
    alone_or_on : (M : Marking) → Leads D first M → Enabled D M n → Quiet n ⊎ ((t : ℕ) × Can D M t × Enabled D (take_row D M t) n)
    alone_or_on M reached on =
        ⊎_elim
        (λ some.
        let found = some_at (D.end + 1) (other_on M) some in
        let s = found.0 in
        let parts = and_parts (not (eqb s n)) (enabled D M s) found.2 in
        let ne = eqb-false s n (not-true _ parts.0) in
        let on_s = enabled_tells D M rank lawful s parts.1 in
        let led = lawful.step_led s on_s.0 in
        let can : Can D M led.0 = (led.1, subst (Enabled D M) (sym led.2) on_s) in
        inr (led.0, can, (on.0, waiting_on D M n led.0 on.1 (λ p in'. ap (λ k. D.part k p) led.2 ∙ apart D M n s (λ e. ne (sym e)) on.1 on_s.1 p in'))))
        (λ none.
        inl (record {
          at = M;
          reached = reached;
          on = on;
          alone = λ s en.
              ⊎_elim
              (λ same. same)
              (λ ne.
              let low = lawful.step_numbered s en.0.0 in
              absurd (both_ways (enabled D M s)
              (second_fails (not (eqb s n)) (enabled D M s) (ap not (ne_eqb s n ne)) (none_at (D.end + 1) (other_on M) none s (omega arith)))
              (enabled_from D M rank lawful s en)))
              (cases_eq s n);
        }))
        (cases_Bool (some_below (D.end + 1) (other_on M)))

    quiet : (fuel : ℕ) (M : Marking) → Leads D first M → Enabled D M n → top ≤ fuel + height rank D M → Quiet n
    quiet zero M reached on le =
        ⊎_elim
        (λ q. q)
        (λ more. let up = height_rises rank D lawful M more.0 more.1 in let bound = not_above _ (reach M more.0 reached more.1) in absurd (omega arith))
        (alone_or_on M reached on)
    quiet (suc fuel) M reached on le =
        ⊎_elim
        (λ q. q)
        (λ more. let up = height_rises rank D lawful M more.0 more.1 in quiet fuel (take_row D M more.0) (reach M more.0 reached more.1) more.2 (omega arith))
        (alone_or_on M reached on)

    -- then all others wait above n
    above : (q : Quiet n) (p : ℕ) → p < D.parties → D.part n p ≡ false → rank n < rank (q.at p)
    above q p lt out =
        ⊎_elim
        (λ up. up)
        (λ ge.
        let M = q.at in
        let someone = lawful.step_peopled n q.on.0.0 in
        let s = someone.0 in
        let s_known = lawful.part_known n s someone.1 in
        let at_n : M s ≡ n = q.on.1 s someone.1 in
        let low_n : rank n < rank D.end = subst (λ k. rank k < rank D.end) at_n (below_end rank D lawful sound M q.reached s s_known (λ e. q.on.0.1 (sym at_n ∙ e))) in
        let m = min (rank (M p)) D.parties (λ k. true) (λ k. rank (M k)) p (omega arith) lt refl in
        let m_low = m.least p lt refl in
        let m_on = lowest rank D lawful sound M q.reached m.at m.within (λ e. let r : rank (M m.at) ≡ rank D.end = ap rank e in absurd (omega arith)) (λ k l. m.least k l refl) in
        let m_n : rank (M m.at) ≡ rank n = ap rank (q.alone (M m.at) m_on) in
        let p_on = lowest rank D lawful sound M q.reached p lt (λ e. let r : rank (M p) ≡ rank D.end = ap rank e in absurd (omega arith)) (λ k l. let h = m.least k l refl in omega arith) in
        let p_n = q.alone (M p) p_on in
        absurd (both_ways (D.part n p) out (subst (λ k. D.part k p ≡ true) p_n (waits rank D lawful sound M q.reached p lt).1)))
        (cases_lt (rank n) (rank (q.at p)))

  module _ (n : ℕ) (start_below : rank 0 ≤ rank n) (higher : (k : ℕ) → rank n < rank k → Two D k → Full D k) where
    -- a marking after row r of n and more, in which all parties outside a set are still where r sent them
    record Side (r : ℕ) (A : ℕ → Bool) (M : Marking) : Type 0 where
      reached : Leads D first M
      row_used : D.used r ≡ true
      row_of : D.step r ≡ n
      outside : (q : ℕ) → q < D.parties → D.part n q ≡ false → A q ≡ true
      own : (q : ℕ) → q < D.parties → A q ≡ false → M q ≡ D.to r q
      high : (q : ℕ) → q < D.parties → rank n < rank (M q)

    -- the lowest place of the set is the lowest of all
    set_lowest : (r : ℕ) (A : ℕ → Bool) (M : Marking) → Side r A M → (p : ℕ) → p < D.parties → A p ≡ true → ((q : ℕ) → q < D.parties → A q ≡ true → rank (M p) ≤ rank (M q))
        → (q : ℕ) → q < D.parties → rank (M p) ≤ rank (M q)
    set_lowest r A M side p lt in_A low q q_lt =
        let m = min (rank (M q)) D.parties (λ k. true) (λ k. rank (M k)) q (omega arith) q_lt refl in
        let m_low = m.least q q_lt refl in
        ⊎_elim
        (λ less. absurd (lower m.at m.within (λ k l. m.least k l refl) less))
        (λ ge. omega arith)
        (cases_lt (rank (M m.at)) (rank (M p)))
      where
        lower : (s : ℕ) → s < D.parties → ((k : ℕ) → k < D.parties → rank (M s) ≤ rank (M k)) → rank (M s) < rank (M p) → ⊥
        lower s s_lt s_low less =
            let not_end : M s ≡ D.end → ⊥ = λ e.
            let es : rank (M s) ≡ rank D.end = ap rank e in
            ⊎_elim
            (λ same. let ep : rank (M p) ≡ rank D.end = ap rank same in absurd (omega arith))
            (λ ne. let up = below_end rank D lawful sound M side.reached p lt ne in absurd (omega arith))
            (cases_eq (M p) D.end) in
            let on = lowest rank D lawful sound M side.reached s s_lt not_end s_low in
            let out_A : (k : ℕ) → D.part (M s) k ≡ true → A k ≡ false = λ k in'.
            ⊎_elim
            (λ yes. let le = low k (lawful.part_known (M s) k in') yes in let e : rank (M k) ≡ rank (M s) = ap rank (on.1 k in') in absurd (omega arith))
            (λ no. no)
            (cases_Bool (A k)) in
            let in_n : (k : ℕ) → D.part (M s) k ≡ true → D.part n k ≡ true = λ k in'.
            ⊎_elim
            (λ yes. yes)
            (λ no. absurd (both_ways (A k) (out_A k in') (side.outside k (lawful.part_known (M s) k in') no)))
            (cases_Bool (D.part n k)) in
            let two = no_shortcut r (M s) side.row_used on.0 (not_start n (M s) start_below (side.high s s_lt))
            (λ k in'. ap (λ x. D.part x k) side.row_of ∙ in_n k in')
            (λ k in'. sym (side.own k (lawful.part_known (M s) k in') (out_A k in')) ∙ on.1 k in') in
            let all = higher (M s) (side.high s s_lt) two in
            let e : rank (M p) ≡ rank (M s) = ap rank (on.1 p (all p lt)) in
            absurd (omega arith)

    -- firing a row keeps a side, with the row's parties in the set
    side_on : (r : ℕ) (A : ℕ → Bool) (M : Marking) (t : ℕ) → Side r A M → Can D M t → rank n < rank (D.step t) → Side r (λ q. A q || D.part (D.step t) q) (take_row D M t)
    side_on r A M t side can up =
        record {
          reached = reach M t side.reached can;
          row_used = side.row_used;
          row_of = side.row_of;
          outside = λ q lt out. or_left (A q) (D.part (D.step t) q) (side.outside q lt out);
          own = λ q lt no.
              ⊎_elim
              (λ yes. absurd (both_ways (A q || D.part (D.step t) q) no (or_left (A q) (D.part (D.step t) q) yes)))
              (λ out_A.
              ⊎_elim
              (λ yes. absurd (both_ways (A q || D.part (D.step t) q) no (or_right (A q) (D.part (D.step t) q) yes)))
              (λ out. stayed D M t q out ∙ side.own q lt out_A)
              (cases_Bool (D.part (D.step t) q)))
              (cases_Bool (A q));
          high = λ q lt.
              ⊎_elim
              (λ in'.
              let more = lawful.row_rises t q can.0 in' in
              let e : rank (take_row D M t q) ≡ rank (D.to t q) = ap rank (moved D M t q in') in
              omega arith)
              (λ out. subst (λ k. rank n < rank k) (sym (stayed D M t q out)) (side.high q lt))
              (cases_Bool (D.part (D.step t) q));
        }

    module _ (r s : ℕ) where
      -- two sides of n, by rows r and s, that agree on the set
      record Twins (A : ℕ → Bool) (M N : Marking) : Type 0 where
        left : Side r A M
        right : Side s A N
        someone : ℕ
        known : someone < D.parties
        is_in : A someone ≡ true
        agrees : (q : ℕ) → q < D.parties → A q ≡ true → M q ≡ N q
        alike : (q : ℕ) → q < D.parties → A q ≡ true → D.part n q ≡ true → D.to r q ≡ D.to s q

      abbrev Alike : Type 0
      Alike = (q : ℕ) → D.part n q ≡ true → D.to r q ≡ D.to s q

      -- all wait at the end, or the lowest place of the set can be fired on both sides
      done_or_on : (A : ℕ → Bool) (M N : Marking) → Twins A M N → Alike ⊎ ((t : ℕ) × Can D M t × Twins (λ q. A q || D.part (D.step t) q) (take_row D M t) (take_row D N t))
      done_or_on A M N tw =
          let w = min (rank (M tw.someone)) D.parties A (λ k. rank (M k)) tw.someone (omega arith) tw.known tw.is_in in
          let p = w.at in
          let same : M p ≡ N p = tw.agrees p w.within w.passes in
          let left_low = set_lowest r A M tw.left p w.within w.passes w.least in
          let right_low = set_lowest s A N tw.right p w.within w.passes (λ q lt in_A.
          let le = w.least q lt in_A in
          let ep : rank (M p) ≡ rank (N p) = ap rank same in
          let eq : rank (M q) ≡ rank (N q) = ap rank (tw.agrees q lt in_A) in
          omega arith) in
          ⊎_elim
          (λ ends.
          let left_ends = end_lowest rank D lawful sound M tw.left.reached (λ q lt. subst (λ k. rank k ≤ rank (M q)) ends (left_low q lt)) in
          let right_ends = end_lowest rank D lawful sound N tw.right.reached (λ q lt. subst (λ k. rank k ≤ rank (N q)) (sym same ∙ ends) (right_low q lt)) in
          inl (λ q in'.
          let lt = lawful.part_known n q in' in
          ⊎_elim
          (λ yes. tw.alike q lt yes in')
          (λ no. sym (tw.left.own q lt no) ∙ left_ends q lt ∙ sym (right_ends q lt) ∙ tw.right.own q lt no)
          (cases_Bool (A q))))
          (λ ne.
          let on_left = lowest rank D lawful sound M tw.left.reached p w.within ne left_low in
          let on_right : Enabled D N (M p) = subst (Enabled D N) (sym same) (lowest rank D lawful sound N tw.right.reached p w.within (λ e. ne (same ∙ e)) right_low) in
          let led = lawful.step_led (M p) on_left.0 in
          let t = led.0 in
          let can_left : Can D M t = (led.1, subst (Enabled D M) (sym led.2) on_left) in
          let can_right : Can D N t = (led.1, subst (Enabled D N) (sym led.2) on_right) in
          let up : rank n < rank (D.step t) = subst (λ k. rank n < rank k) (sym led.2) (tw.left.high p w.within) in
          inr (
            t,
            can_left,
            record {
              left = side_on r A M t tw.left can_left up;
              right = side_on s A N t tw.right can_right up;
              someone = tw.someone;
              known = tw.known;
              is_in = or_left (A tw.someone) (D.part (D.step t) tw.someone) tw.is_in;
              agrees = λ q lt yes.
                  ⊎_elim
                  (λ in'. moved D M t q in' ∙ sym (moved D N t q in'))
                  (λ out.
                  stayed D M t q out
                  ∙ ⊎_elim (λ in_A. tw.agrees q lt in_A) (λ in'. absurd (both_ways (D.part (D.step t) q) out in')) (or_cases (A q) (D.part (D.step t) q) yes)
                  ∙ sym (stayed D N t q out))
                  (cases_Bool (D.part (D.step t) q));
              alike = λ q lt yes in_n.
                  ⊎_elim
                  (λ in_A. tw.alike q lt in_A in_n)
                  (λ out_A.
                  let in' : D.part (D.step t) q ≡ true = ⊎_elim (λ in_A. absurd (both_ways (A q) out_A in_A)) (λ x. x) (or_cases (A q) (D.part (D.step t) q) yes) in
                  sym (tw.left.own q lt out_A) ∙ can_left.1.1 q in' ∙ sym (can_right.1.1 q in') ∙ tw.right.own q lt out_A)
                  (cases_Bool (A q));
            },
          ))
          (cases_eq (M p) D.end)

      twins_alike : (fuel : ℕ) (A : ℕ → Bool) (M N : Marking) → Twins A M N → top ≤ fuel + height rank D M → Alike
      twins_alike zero A M N tw le =
          ⊎_elim
          (λ done. done)
          (λ more. let up = height_rises rank D lawful M more.0 more.1 in let bound = not_above _ (reach M more.0 tw.left.reached more.1) in absurd (omega arith))
          (done_or_on A M N tw)
      twins_alike (suc fuel) A M N tw le =
          ⊎_elim
          (λ done. done)
          (λ more. let up = height_rises rank D lawful M more.0 more.1 in twins_alike fuel _ _ _ more.2 (omega arith))
          (done_or_on A M N tw)

    -- the side right after a row of n
    first_side : (q : Quiet n) (r : ℕ) → D.used r ≡ true → D.step r ≡ n → Side r (λ p. not (D.part n p)) (take_row D q.at r)
    first_side q r use' of' =
        let can : Can D q.at r = (use', subst (Enabled D q.at) (sym of') q.on) in
        let in_r : (p : ℕ) → D.part n p ≡ true → D.part (D.step r) p ≡ true = λ p in'. ap (λ k. D.part k p) of' ∙ in' in
        let out_r : (p : ℕ) → D.part n p ≡ false → D.part (D.step r) p ≡ false = λ p out. ap (λ k. D.part k p) of' ∙ out in
        record {
          reached = reach q.at r q.reached can;
          row_used = use';
          row_of = of';
          outside = λ p lt out. ap not out;
          own = λ p lt no. moved D q.at r p (in_r p (not-false _ no));
          high = λ p lt.
              ⊎_elim
              (λ in'.
              let more = lawful.row_rises r p use' (in_r p in') in
              let e : rank (take_row D q.at r p) ≡ rank (D.to r p) = ap rank (moved D q.at r p (in_r p in')) in
              let f : rank (D.step r) ≡ rank n = ap rank of' in
              omega arith)
              (λ out. subst (λ k. rank n < rank k) (sym (stayed D q.at r p (out_r p out))) (above n q p lt out))
              (cases_Bool (D.part n p));
        }

    -- two rows of a quiet step that lacks a party have equal destinations
    rows_alike : Quiet n → (two : Two D n) (p : ℕ) → p < D.parties → D.part n p ≡ false → Alike two.one two.other
    rows_alike q two p lt out =
        let r = two.one in
        let s = two.other in
        twins_alike r s top (λ k. not (D.part n k)) (take_row D q.at r) (take_row D q.at s)
        (record {
          left = first_side q r two.one_used two.one_of;
          right = first_side q s two.other_used two.other_of;
          someone = p;
          known = lt;
          is_in = ap not out;
          agrees = λ k l yes.
              let no = not-true _ yes in
              stayed D q.at r k (ap (λ x. D.part x k) two.one_of ∙ no) ∙ sym (stayed D q.at s k (ap (λ x. D.part x k) two.other_of ∙ no));
          alike = λ k l yes in'. absurd (both_ways (D.part n k) (not-true _ yes) in');
        })
        (omega arith)

  full_at : NoMerge D → (n : ℕ) → ((k : ℕ) → rank n < rank k → Two D k → Full D k) → Two D n → Full D n
  full_at no_merge n higher two p lt =
      ⊎_elim
      (λ yes. yes)
      (λ out.
      let inner = subst (Inner D) two.one_of (lawful.row_inner two.one two.one_used) in
      let alive = sound.no_dead_step n inner in
      let q = quiet n top alive.0 alive.1 alive.2 (omega arith) in
      let someone = lawful.step_peopled n inner.0 in
      let start_below : rank 0 ≤ rank n = subst (λ k. rank 0 ≤ rank k) (alive.2.1 someone.0 someone.1) (start_lowest rank D lawful alive.0 alive.1 someone.0) in
      let alike = rows_alike n start_below higher q two p lt out in
      absurd (no_merge two.one two.other two.one_used two.other_used two.differ (two.one_of ∙ sym two.other_of)
      (λ k in'. alike k (ap (λ x. D.part x k) (sym two.one_of) ∙ in'))))
      (cases_Bool (D.part n p))

  pub rank_bounded : (k : ℕ) → Two D k → rank k ≤ greatest_rank rank D
  rank_bounded k two =
      let inner = subst (Inner D) two.one_of (lawful.row_inner two.one two.one_used) in
      let low = lawful.step_numbered k inner.0 in
      greatest_at (D.end + 1) rank k (omega arith)

  -- so a step with two outcomes has all parties
  pub all_full : NoMerge D → (d n : ℕ) → greatest_rank rank D ≤ d + rank n → Two D n → Full D n
  all_full no_merge zero n le two = full_at no_merge n (λ k up two_k. let b = rank_bounded k two_k in absurd (omega arith)) two
  all_full no_merge (suc d) n le two = full_at no_merge n (λ k up two_k. all_full no_merge d k (omega arith) two_k) two
