-- Runs before a shortcut and with its follow-ups: each can be told as the other.
use Rattle.std.proofs.Common.{◌≡◌, ℕ, zero, suc, ◌≤◌, Bool, true, false, List, [], ◌∷◌, ◌++◌, length, sym, refl, ap, ◌∙◌, subst, ⊎_elim, arith}
use Rattle.std.proofs.lemmas.Bool.{cases_Bool, cases_eq, or_left, or_right, cond-true, cond-false}
use Rattle.analysis.specs.Algebra.{Algebra, Laws}
use Rattle.diagram.specs.Diagrams.{Diagram, Lawful}
use Rattle.diagram.specs.Meaning.{LabelsBelong}
use Rattle.diagram.specs.Moves.{followed, label_after_shortcut}
use Rattle.diagram.specs.RunLabels.{run_label}
use Rattle.diagram.specs.Runs.{Marking, AtEnd, Enabled, Can, take_row, Run, stop, go}
use Rattle.diagram.proofs.FollowUps.{Takeable, D', takes, follows, place, takes_not, was_used, step_new, step_old, taking_new, taking_old}
use Rattle.diagram.proofs.LabelOrder.{label_first}
use Rattle.diagram.proofs.Pulling.{Waiting, Fires, now, later, leaves, first_can, after_first, pull}
use Rattle.diagram.proofs.Taking.{moved}

pub run_append : (D : Diagram) {M X Y : Marking} {rs ss : List ℕ} → Run D M rs X → Run D X ss Y → Run D M (rs ++ ss) Y
run_append D stop more = more
run_append D (go can rest) more = go can (run_append D rest more)

pub fires_last : (D : Diagram) (m : ℕ) (rs : List ℕ) (q : ℕ) → D.step q ≡ m → Fires D m (rs ++ q ∷ [])
fires_last D m [] q e = now e
fires_last D m (t ∷ rs) q e = later (fires_last D m rs q e)

module _ (rank : ℕ → ℕ) (D : Diagram) (lawful : Lawful rank D) (r m : ℕ) (may : Takeable D r m) {V : Type 0} (a : Algebra V) (laws : Laws a) (label : ℕ → V) (belong : LabelsBelong a D label) where
  abbrev pub after : Diagram
  after = D' rank D lawful r m may

  abbrev pub new : ℕ → Bool
  new = takes rank D lawful r m may

  abbrev pub label' : ℕ → V
  label' = label_after_shortcut a D label r m

  pub label_new : (t : ℕ) → new t ≡ true → label' t ≡ a.then (label r) (label (followed D r m t))
  label_new t h = cond-true (new t) _ _ h

  pub label_old : (t : ℕ) → new t ≡ false → label' t ≡ label t
  label_old t h = cond-false (new t) _ _ h

  -- after row r all parties of m wait at m
  pub waiting : (M : Marking) (t : ℕ) → t ≡ r → Waiting D m (take_row D M t)
  waiting M t same p in' = moved D M t p (ap (λ k. D.part (D.step k) p) same ∙ may.inside p in') ∙ ap (λ k. D.to k p) same ∙ may.sent p in'

  -- a run with follow-ups, each told as r and then its outcome of m
  pub expand : {M X : Marking} {rs : List ℕ} → Run after M rs X → (ss : List ℕ) × Run D M ss X × (run_label a label ss ≡ run_label a label' rs)
  expand stop = ([], stop, refl)
  expand {M} {X} (go {r = t} {rs = rs} can rest) =
      let more = expand rest in
      let ss = more.0 in
      ⊎_elim
      (λ h.
      let q = followed D r m t in
      let of' = follows rank D lawful r m may t h in
      let behind : Run D (take_row D (take_row D M r) q) ss X = subst (λ N. Run D N ss X) (taking_new rank D lawful r m may M t h) more.1 in
      let can_r : Can D M r = (may.row_used, subst (Enabled D M) (step_new rank D lawful r m may t h) can.1) in
      let can_q : Can D (take_row D M r) q = (of'.0, subst (Enabled D (take_row D M r)) (sym of'.1) (may.target_inner, waiting M r refl)) in (
        r ∷ q ∷ ss,
        go can_r (go can_q behind),
        label_first a laws label r (q ∷ ss)
            ∙ ap (a.then (label r)) (label_first a laws label q ss)
            ∙ sym (laws.then_associative (label r) (label q) (run_label a label ss))
            ∙ (λ i. a.then (sym (label_new t h) i) (more.2 i))
            ∙ sym (label_first a laws label' t rs),
      ))
      (λ h. (
        t ∷ ss,
        go (was_used rank D lawful r m may t h can.0, subst (Enabled D M) (step_old rank D lawful r m may t h) can.1) (subst (λ N. Run D N ss X) (taking_old rank D lawful r m may M t h) more.1),
        label_first a laws label t ss ∙ (λ i. a.then (sym (label_old t h) i) (more.2 i)) ∙ sym (label_first a laws label' t rs),
      ))
      (cases_Bool (new t))

  -- a row other than r can be taken as before
  pub old_first : (M Y : Marking) (t : ℕ) (ss : List ℕ) → (t ≡ r → ⊥) → Can D M t → Run after (take_row D M t) ss Y → Run after M (t ∷ ss) Y
  old_first M Y t ss ne can run =
      let none = takes_not rank D lawful r m may t can.0 ne in
      go (or_left (D.used t) (new t) can.0, subst (Enabled D M) (sym (step_old rank D lawful r m may t none)) can.1)
      (subst (λ N. Run after N ss Y) (sym (taking_old rank D lawful r m may M t none)) run)

  -- and in the place of r and an outcome of m, its follow-up
  pub new_first : (M Y : Marking) (t q : ℕ) (ss : List ℕ) → t ≡ r → Can D M t → D.used q ≡ true → D.step q ≡ m → Run after (take_row D (take_row D M t) q) ss Y
      → (u : ℕ) × Run after M (u ∷ ss) Y × (label' u ≡ a.then (label r) (label q))
  new_first M Y t q ss same can use' of' run =
      let found = place rank D lawful r m may q use' of' in
      let u = found.0 in
      let h = found.1 in
      let taken : take_row D (take_row D M t) q ≡ take_row after M u =
      (λ i. take_row D (take_row D M (same i)) (sym found.2 i)) ∙ sym (taking_new rank D lawful r m may M u h) in (
        u,
        go (or_right (D.used u) (new u) h, subst (Enabled D M) (ap D.step same ∙ sym (step_new rank D lawful r m may u h)) can.1) (subst (λ N. Run after N ss Y) taken run),
        label_new u h ∙ ap (λ k. a.then (label r) (label k)) found.2,
      )

  -- a run to the end, told with follow-ups
  pub contract : (n : ℕ) → {M X : Marking} {rs : List ℕ} → length rs ≤ n → Run D M rs X → AtEnd D X → (ss : List ℕ) × Run after M ss X × (run_label a label' ss ≡ run_label a label rs)
  contract n le stop ends = ([], stop, refl)
  contract zero le (go can rest) ends = absurd (omega arith)
  contract (suc n) {M} {X} le (go {r = t} {rs = rs} can rest) ends =
      ⊎_elim
      (λ same.
      let someone = lawful.step_peopled m may.target_inner.0 in
      let p = someone.0 in
      let w = waiting M t same in
      let fires = leaves D rest m p (w p someone.1) (λ e. may.target_inner.1 (sym e ∙ ends p (lawful.part_known m p someone.1))) in
      let pulled = pull a laws D label belong m may.target_inner rest w fires in
      let q = pulled.row in
      let more = contract n (let s = pulled.shorter in omega arith) (after_first D pulled.run) ends in
      let first' = new_first M X t q more.0 same can (first_can D pulled.run).0 pulled.of_step more.1 in (
        first'.0 ∷ more.0,
        first'.1,
        label_first a laws label' first'.0 more.0
            ∙ (λ i. a.then (first'.2 i) (more.2 i))
            ∙ laws.then_associative (label r) (label q) (run_label a label pulled.rest)
            ∙ sym (label_first a laws label t rs ∙ (λ i. a.then (label (same i)) (pulled.same_label i))),
      ))
      (λ ne.
      let more = contract n (omega arith) rest ends in (
        t ∷ more.0,
        old_first M X t more.0 ne can more.1,
        label_first a laws label' t more.0
            ∙ (λ i. a.then (label_old t (takes_not rank D lawful r m may t can.0 ne) i) (more.2 i))
            ∙ sym (label_first a laws label t rs),
      ))
      (cases_eq t r)
