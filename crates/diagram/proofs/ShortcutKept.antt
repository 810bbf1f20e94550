-- A shortcut that may be taken keeps the meaning.
use Rattle.std.proofs.Common.{◌≡◌, ℕ, true, false, ◌&&◌, eqb, List, [], ◌∷◌, ◌++◌, length, sym, refl, ap, ◌∙◌, subst, ⊎_elim, arith}
use Rattle.std.proofs.lemmas.Bool.{cases_Bool, cases_eq, and_parts, eqb-true, cond-true, cond-false}
use Rattle.numbers.specs.Below.{some_below}
use Rattle.numbers.proofs.BelowLaws.{some_at}
use Rattle.analysis.specs.Algebra.{Algebra, Laws}
use Rattle.diagram.specs.Diagrams.{Diagram, Inner, Lawful}
use Rattle.diagram.specs.Meaning.{LabelsBelong, MeansTheSame, Kept, ShortcuttingKeepsTheMeaning}
use Rattle.diagram.specs.Moves.{leads_to, struck, after_shortcut, label_after_shortcut}
use Rattle.diagram.specs.RunLabels.{run_label, joined_from, ListsComplete}
use Rattle.diagram.specs.Runs.{Marking, first, AtEnd, Enabled, take_row, Run, stop, go, Leads, Complete}
use Rattle.diagram.proofs.FollowUps.{Takeable, takeable, D'}
use Rattle.diagram.proofs.Joins.{Below, below_both, least, held_below}
use Rattle.diagram.proofs.Members.{has_here, has_there}
use Rattle.diagram.proofs.Pulling.{Fires, fires_none, fires_cases, leaves}
use Rattle.diagram.proofs.Shortcutting.{run_append, waiting, expand, contract}
use Rattle.diagram.proofs.ShortcutTail.{with_tail}
use Rattle.diagram.proofs.ShortcutLawful.{step_not_target, with_lawful, with_labels}
use Rattle.diagram.proofs.Striking as strike
use Rattle.diagram.proofs.Taking.{moved}

-- a step is enabled after some run
abbrev Alive : Diagram → ℕ → Type 0
Alive D n = (X : Marking) × Leads D first X × Enabled D X n

-- every run can be prolonged to a complete one
abbrev GoesOn : Diagram → Type 0
GoesOn D = (X : Marking) → Leads D first X → (Y : Marking) × Leads D X Y × AtEnd D Y

pub joined : (D : Diagram) {M X Y : Marking} → Leads D M X → Leads D X Y → Leads D M Y
joined D one two = (one.0 ++ two.0, run_append D one.1 two.1)

-- a step that a run fires was enabled on the way
pub fired_enabled : (D : Diagram) (m : ℕ) {M X : Marking} {rs : List ℕ} → Run D M rs X → Fires D m rs → (Z : Marking) × Leads D M Z × Enabled D Z m
fired_enabled D m stop f = absurd (fires_none D m f)
fired_enabled D m {M} (go {r = t} can rest) f =
    ⊎_elim
    (λ same. (M, ([], stop), subst (Enabled D M) same can.1))
    (λ more. let on = fired_enabled D m rest more in (on.0, (t ∷ on.1.0, go can on.1.1), on.2))
    (fires_cases D m f)

module _ (rank : ℕ → ℕ) (D : Diagram) (lawful : Lawful rank D) (r m : ℕ) (may : Takeable D r m) {V : Type 0} (a : Algebra V) (laws : Laws a) (label : ℕ → V) (belong : LabelsBelong a D label) where
  abbrev E : Diagram
  E = D' rank D lawful r m may

  abbrev label' : ℕ → V
  label' = label_after_shortcut a D label r m

  told_before : {M X : Marking} → Leads E M X → Leads D M X
  told_before l = let e = expand rank D lawful r m may a laws label belong l.1 in (e.0, e.1)

  goes_forth : GoesOn D → GoesOn E
  goes_forth on X leads =
      let found = on X (told_before leads) in
      let c = contract rank D lawful r m may a laws label belong (length found.1.0) (omega arith) found.1.1 found.2 in
      (found.0, (c.0, c.1), found.2)

  goes_back : GoesOn E → GoesOn D
  goes_back on X leads =
      let tail = with_tail rank D lawful r m may a laws label belong (length leads.0) (omega arith) leads.1 in
      let found = on tail.end tail.told in
      (found.0, joined D tail.on (told_before found.1), found.2)

  alive_forth : (n : ℕ) → (n ≡ m → ⊥) → Alive D n → Alive E n
  alive_forth n ne alive =
      let tail = with_tail rank D lawful r m may a laws label belong (length alive.1.0) (omega arith) alive.1.1 in
      (tail.end, tail.told, tail.keeps n ne alive.2)

  alive_back : (n : ℕ) → Alive E n → Alive D n
  alive_back n alive = (alive.0, told_before alive.1, alive.2)

  -- the target is enabled right after r
  target_alive : Alive D (D.step r) → Alive D m
  target_alive alive = (
    take_row D alive.0 r,
    joined D alive.1 (r ∷ [], go (may.row_used, alive.2) stop),
    (may.target_inner, waiting rank D lawful r m may a laws label belong alive.0 r refl),
  )

  complete_forth : (rs : List ℕ) → Complete D rs → (ss : List ℕ) × Complete E ss × (run_label a label' ss ≡ run_label a label rs)
  complete_forth rs c =
      let told = contract rank D lawful r m may a laws label belong (length rs) (omega arith) c.1 c.2 in
      (told.0, (c.0, told.1, c.2), told.2)

  complete_back : (rs : List ℕ) → Complete E rs → (ss : List ℕ) × Complete D ss × (run_label a label ss ≡ run_label a label' rs)
  complete_back rs c =
      let told = expand rank D lawful r m may a laws label belong c.1 in
      (told.0, (c.0, told.1, c.2), told.2)

  module _ (rs ss : List ℕ) (runs others : List (List ℕ)) (here : ListsComplete D (rs ∷ runs)) (there : ListsComplete E (ss ∷ others)) where
    abbrev J : V
    J = joined_from a label (run_label a label rs) runs

    abbrev J' : V
    J' = joined_from a label' (run_label a label' ss) others

    old_below : (ts : List ℕ) → Complete D ts → Below a laws (run_label a label ts) J'
    old_below ts c =
        let told = complete_forth ts c in
        subst (λ x. Below a laws x J') told.2 (held_below a laws label' ss others told.0 (there.all_there told.0 told.1))

    new_below : (ts : List ℕ) → Complete E ts → Below a laws (run_label a label' ts) J
    new_below ts c =
        let told = complete_back ts c in
        subst (λ x. Below a laws x J) told.2 (held_below a laws label rs runs told.0 (here.all_there told.0 told.1))

    same_join : J ≡ J'
    same_join =
        below_both a laws J J'
        (least a laws label (run_label a label rs) J' runs (old_below rs (here.none_else rs (has_here rs runs))) (λ ts h. old_below ts (here.none_else ts (has_there rs ts runs h))))
        (least a laws label' (run_label a label' ss) J others (new_below ss (there.none_else ss (has_here ss others))) (λ ts h. new_below ts (there.none_else ts (has_there ss ts others h))))

  -- a row that still leads a party to the target
  record Led : Type 0 where
    row : ℕ
    party : ℕ
    used : E.used row ≡ true
    has : E.part (E.step row) party ≡ true
    goes : E.to row party ≡ m

  led_by : leads_to E m ≡ true → Led
  led_by h =
      let rows = some_at E.size (λ t. E.used t && some_below E.parties (λ p. E.part (E.step t) p && eqb (E.to t p) m)) h in
      let t = rows.0 in
      let use' = and_parts (E.used t) (some_below E.parties (λ p. E.part (E.step t) p && eqb (E.to t p) m)) rows.2 in
      let some = some_at E.parties (λ p. E.part (E.step t) p && eqb (E.to t p) m) use'.1 in
      let p = some.0 in
      let both = and_parts (E.part (E.step t) p) (eqb (E.to t p) m) some.2 in
      record { row = t; party = p; used = use'.0; has = both.0; goes = eqb-true _ m both.1 }

  -- its step lies below the target, so it is another one
  led_other : (l : Led) → E.step l.row ≡ m → ⊥
  led_other l same =
      let up = (with_lawful rank D lawful r m may).row_rises l.row l.party l.used l.has in
      let s : rank (E.step l.row) ≡ rank m = ap rank same in
      let g : rank (E.to l.row l.party) ≡ rank m = ap rank l.goes in
      absurd (omega arith)

  -- where a row still leads to the target, it is enabled after some run
  target_stays : GoesOn E → ((n : ℕ) → Inner E n → (n ≡ m → ⊥) → Alive E n) → Led → Alive E m
  target_stays on others l =
      let t = l.row in
      let alive = others (E.step t) ((with_lawful rank D lawful r m may).row_inner t l.used) (led_other l) in
      let X = take_row E alive.0 t in
      let reached = joined E alive.1 (t ∷ [], go (l.used, alive.2) stop) in
      let found = on X reached in
      let known = lawful.part_known (E.step t) l.party l.has in
      let fires = leaves E found.1.1 m l.party (moved E alive.0 t l.party l.has ∙ l.goes) (λ e. may.target_inner.1 (sym e ∙ found.2 l.party known)) in
      let then' = fired_enabled E m found.1.1 fires in
      (then'.0, joined E reached then'.1, then'.2)

  kept_standing : leads_to E m ≡ true → MeansTheSame a D label E label'
  kept_standing h =
      record {
        soundness_kept = λ sound.
            let on = goes_forth sound.never_stalls in
            let others : (n : ℕ) → Inner E n → (n ≡ m → ⊥) → Alive E n = λ n in' ne. alive_forth n ne (sound.no_dead_step n in') in
            record {
              no_dead_step = λ n in'. ⊎_elim (λ same. subst (Alive E) (sym same) (target_stays on others (led_by h))) (others n in') (cases_eq n m);
              never_stalls = on;
            };
        soundness_back = λ sound. record { no_dead_step = λ n in'. alive_back n (sound.no_dead_step n in'); never_stalls = goes_back sound.never_stalls };
        completion_kept = λ c. let told = complete_forth c.0 c.1 in (told.0, told.1);
        completion_back = λ c. let told = complete_back c.0 c.1 in (told.0, told.1);
        join_kept = same_join;
      }

  module _ (quiet : leads_to E m ≡ false) where
    abbrev S : Diagram
    S = struck E m

    abbrev lawful_E : Lawful rank E
    lawful_E = with_lawful rank D lawful r m may

    strike_forth : {X : Marking} → Leads E first X → Leads S first X
    strike_forth l = (l.0, strike.forth rank E lawful_E m may.target_inner may.not_start quiet (strike.first_avoids rank E lawful_E m may.target_inner may.not_start quiet) l.1)

    strike_back : {M X : Marking} → Leads S M X → Leads E M X
    strike_back l = (l.0, strike.back rank E lawful_E m may.target_inner may.not_start quiet l.1)

    goes_struck : GoesOn E → GoesOn S
    goes_struck on X leads =
        let before = strike_back leads in
        let found = on X before in
        let avoids = strike.run_avoids rank E lawful_E m may.target_inner may.not_start quiet (strike.first_avoids rank E lawful_E m may.target_inner may.not_start quiet) before.1 in
        (found.0, (found.1.0, strike.forth rank E lawful_E m may.target_inner may.not_start quiet avoids found.1.1), found.2)

    goes_unstruck : GoesOn S → GoesOn E
    goes_unstruck on X leads = let found = on X (strike_forth leads) in (found.0, strike_back found.1, found.2)

    alive_struck : (n : ℕ) → (n ≡ m → ⊥) → Alive E n → Alive S n
    alive_struck n ne alive = (alive.0, strike_forth alive.1, strike.enabled_still rank E lawful_E m may.target_inner may.not_start quiet alive.0 n ne alive.2)

    alive_unstruck : (n : ℕ) → Alive S n → Alive E n
    alive_unstruck n alive = (alive.0, strike_back alive.1, strike.enabled_was rank E lawful_E m may.target_inner may.not_start quiet alive.0 n alive.2)

    complete_struck : (rs : List ℕ) → Complete E rs → Complete S rs
    unfolding strike_forth
    complete_struck rs c = (c.0, (strike_forth (rs, c.1)).1, c.2)

    complete_unstruck : (rs : List ℕ) → Complete S rs → Complete E rs
    unfolding strike_back
    complete_unstruck rs c = (c.0, (strike_back (rs, c.1)).1, c.2)

    lists_unstruck : (runs : List (List ℕ)) → ListsComplete S runs → ListsComplete E runs
    lists_unstruck runs lists =
        record {
          all_there = λ rs c. lists.all_there rs (complete_struck rs c);
          none_else = λ rs h. complete_unstruck rs (lists.none_else rs h);
        }

    kept_struck : MeansTheSame a D label S label'
    kept_struck =
        record {
          soundness_kept = λ sound.
              record {
                no_dead_step = λ n in'.
                    let was = strike.inner_was rank E lawful_E m may.target_inner may.not_start quiet n in' in
                    alive_struck n was.1 (alive_forth n was.1 (sound.no_dead_step n was.0));
                never_stalls = goes_struck (goes_forth sound.never_stalls);
              };
          soundness_back = λ sound.
              let others : (n : ℕ) → Inner D n → (n ≡ m → ⊥) → Alive D n =
              λ n in' ne. alive_back n (alive_unstruck n (sound.no_dead_step n (strike.inner_still rank E lawful_E m may.target_inner may.not_start quiet n in' ne))) in
              record {
                no_dead_step = λ n in'.
                    ⊎_elim
                    (λ same. subst (Alive D) (sym same) (target_alive (others (D.step r) (lawful.row_inner r may.row_used) (step_not_target rank D lawful r m may))))
                    (others n in')
                    (cases_eq n m);
                never_stalls = goes_back (goes_unstruck sound.never_stalls);
              };
          completion_kept = λ c. let told = complete_forth c.0 c.1 in (told.0, complete_struck told.0 told.1);
          completion_back = λ c. let told = complete_back c.0 (complete_unstruck c.0 c.1) in (told.0, told.1);
          join_kept = λ rs ss runs others here there. same_join rs ss runs others here (lists_unstruck (ss ∷ others) there);
        }

  kept : Kept a rank D label (after_shortcut D r m) label'
  kept =
      ⊎_elim
      (λ yes.
      subst (λ F. Kept a rank D label F label') (sym (cond-true (leads_to E m) E (struck E m) yes))
      (record { still_lawful = with_lawful rank D lawful r m may; still_belong = with_labels rank D lawful r m may a laws label belong; same_meaning = kept_standing yes }))
      (λ no.
      let stands = with_lawful rank D lawful r m may in
      subst (λ F. Kept a rank D label F label') (sym (cond-false (leads_to E m) E (struck E m) no))
      (record {
        still_lawful = strike.struck_lawful rank E stands m may.target_inner may.not_start no;
        still_belong = strike.struck_labels rank E stands m may.target_inner may.not_start no a label' (with_labels rank D lawful r m may a laws label belong);
        same_meaning = kept_struck no;
      }))
      (cases_Bool (leads_to E m))

pub shortcutting_keeps_the_meaning : {V : Type 0} (a : Algebra V) → Laws a → ShortcuttingKeepsTheMeaning a
shortcutting_keeps_the_meaning a laws rank D label r m lawful belong h = kept rank D lawful r m (takeable rank D lawful r m h) a laws label belong
