-- Any run, told with follow-ups and a tail.
use Rattle.std.proofs.Common.{◌≡◌, ℕ, zero, suc, ◌≤◌, List, [], ◌∷◌, length, sym, ap, ◌∙◌, subst, ⊎_elim, arith, length-append}
use Rattle.std.proofs.lemmas.Bool.{cases_eq}
use Rattle.analysis.specs.Algebra.{Algebra, Laws}
use Rattle.diagram.specs.Diagrams.{Diagram, Lawful}
use Rattle.diagram.specs.Meaning.{LabelsBelong}
use Rattle.diagram.specs.Runs.{Marking, Enabled, Can, Run, stop, go, Leads}
use Rattle.diagram.proofs.FollowUps.{Takeable}
use Rattle.diagram.proofs.Pulling.{Waiting, fires_or_not, apart, waiting_on, leaves, first_can, after_first, pull}
use Rattle.diagram.proofs.Shortcutting.{run_append, fires_last, after, waiting, old_first, new_first}

module _ (rank : ℕ → ℕ) (D : Diagram) (lawful : Lawful rank D) (r m : ℕ) (may : Takeable D r m) {V : Type 0} (a : Algebra V) (laws : Laws a) (label : ℕ → V) (belong : LabelsBelong a D label) where
  abbrev D'' : Diagram
  D'' = after rank D lawful r m may a laws label belong

  -- from M the follow-ups lead to some Y, and the run's own end leads there too; other steps enabled there stay so
  pub record Tail (M X : Marking) : Type 0 where
    pub end : Marking
    pub told : Leads D'' M end
    pub on : Leads D X end
    pub keeps : (s : ℕ) → (s ≡ m → ⊥) → Enabled D X s → Enabled D end s

  pub with_tail : (n : ℕ) → {M X : Marking} {rs : List ℕ} → length rs ≤ n → Run D M rs X → Tail M X
  with_tail n {M} le stop = record { end = M; told = ([], stop); on = ([], stop); keeps = λ s ne en. en }
  with_tail zero le (go can rest) = absurd (omega arith)
  with_tail (suc n) {M} {X} le (go {r = t} {rs = rs} can rest) =
      ⊎_elim
      (λ same.
      let w = waiting rank D lawful r m may a laws label belong M t same in
      ⊎_elim
      (λ fires.
      let pulled = pull a laws D label belong m may.target_inner rest w fires in
      let more = with_tail n (let s = pulled.shorter in omega arith) (after_first D pulled.run) in
      let first' = new_first rank D lawful r m may a laws label belong M more.end t pulled.row more.told.0 same can (first_can D pulled.run).0 pulled.of_step more.told.1 in
      record { end = more.end; told = (first'.0 ∷ more.told.0, first'.1); on = more.on; keeps = more.keeps })
      (λ quiet.
      let still : Waiting D m X = λ p in'. ⊎_elim (λ e. e) (λ gone. absurd (quiet (leaves D rest m p (w p in') gone))) (cases_eq (X p) m) in
      let led = lawful.step_led m may.target_inner in
      let q = led.0 in
      let can_q : Can D X q = (led.1, subst (Enabled D X) (sym led.2) (may.target_inner, still)) in
      let longer = run_append D rest (go can_q stop) in
      let pulled = pull a laws D label belong m may.target_inner longer w (fires_last D m rs q led.2) in
      let more = with_tail n (let s = pulled.shorter in let l = length-append rs (q ∷ []) in omega arith) (after_first D pulled.run) in
      let first' = new_first rank D lawful r m may a laws label belong M more.end t pulled.row more.told.0 same can (first_can D pulled.run).0 pulled.of_step more.told.1 in
      record {
        end = more.end;
        told = (first'.0 ∷ more.told.0, first'.1);
        on = (q ∷ more.on.0, go can_q more.on.1);
        keeps = λ s ne en.
            more.keeps s ne (en.0, waiting_on D X s q en.1 (λ p in'. ap (λ k. D.part k p) led.2 ∙ apart D X s m ne en.1 still p in'));
      })
      (fires_or_not D m rs))
      (λ ne.
      let more = with_tail n (omega arith) rest in
      record { end = more.end; told = (t ∷ more.told.0, old_first rank D lawful r m may a laws label belong M more.end t more.told.0 ne can more.told.1); on = more.on; keeps = more.keeps })
      (cases_eq t r)
