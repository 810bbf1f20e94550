-- A step that is enabled can be fired first: pulling its row to the front of a run.
use Rattle.std.proofs.Common.{◌≡◌, ℕ, suc, true, false, ◌⊎◌, List, [], ◌∷◌, length, sym, refl, ap, ◌∙◌, subst, inl, inr, ⊎_elim}
use mathlib.Core.Path.{fun_ext}
use Rattle.std.proofs.lemmas.Bool.{both_ways, cases_Bool, cases_eq}
use Rattle.analysis.specs.Algebra.{Algebra, Laws}
use Rattle.diagram.specs.Diagrams.{Diagram, Inner}
use Rattle.diagram.specs.Meaning.{LabelsBelong}
use Rattle.diagram.specs.RunLabels.{run_label}
use Rattle.diagram.specs.Runs.{Marking, Enabled, Can, take_row, Run, stop, go}
use Rattle.diagram.proofs.LabelOrder.{label_first}
use Rattle.diagram.proofs.Taking.{moved, stayed}

-- all parties of m wait at m
abbrev pub Waiting : Diagram → ℕ → Marking → Type 0
Waiting D m M = (p : ℕ) → D.part m p ≡ true → M p ≡ m

-- a run takes some row of m
pub data Fires (D : Diagram) (m : ℕ) : List ℕ → Type 0 where
  now : {t : ℕ} {rs : List ℕ} → D.step t ≡ m → Fires D m (t ∷ rs)
  later : {t : ℕ} {rs : List ℕ} → Fires D m rs → Fires D m (t ∷ rs)

pub fires_none : (D : Diagram) (m : ℕ) → Fires D m [] → ⊥
fires_none D m f = elim f as (λ l _. elim l as (λ _. Type 0) [ [] ↦ ⊥ | t ∷ rs ↦ Unit {0} ]) [ now e ↦ tt | later g ↦ tt ]

pub fires_cases : (D : Diagram) (m : ℕ) {t : ℕ} {rs : List ℕ} → Fires D m (t ∷ rs) → (D.step t ≡ m) ⊎ Fires D m rs
fires_cases D m (now e) = inl e
fires_cases D m (later f) = inr f

pub fires_or_not : (D : Diagram) (m : ℕ) (rs : List ℕ) → Fires D m rs ⊎ (Fires D m rs → ⊥)
fires_or_not D m [] = inr (fires_none D m)
fires_or_not D m (t ∷ rs) =
    ⊎_elim
    (λ same. inl (now same))
    (λ ne. ⊎_elim (λ f. inl (later f)) (λ none. inr (λ f. ⊎_elim ne none (fires_cases D m f))) (fires_or_not D m rs))
    (cases_eq (D.step t) m)

module _ (D : Diagram) where
  -- two different steps at which parties wait share none
  pub apart : (M : Marking) (n m : ℕ) → (n ≡ m → ⊥) → Waiting D n M → Waiting D m M → (p : ℕ) → D.part n p ≡ true → D.part m p ≡ false
  apart M n m ne wn wm p in' = ⊎_elim (λ both. absurd (ne (sym (wn p in') ∙ wm p both))) (λ out. out) (cases_Bool (D.part m p))

  -- taking rows of steps that share no party gives the same in both orders
  pub diamond : (M : Marking) (t q : ℕ) → ((p : ℕ) → D.part (D.step t) p ≡ true → D.part (D.step q) p ≡ false) → take_row D (take_row D M t) q ≡ take_row D (take_row D M q) t
  diamond M t q share = fun_ext (λ p.
      ⊎_elim
      (λ in_t.
      stayed D (take_row D M t) q p (share p in_t) ∙ moved D M t p in_t ∙ sym (moved D (take_row D M q) t p in_t))
      (λ out_t.
      ⊎_elim
      (λ in_q. moved D (take_row D M t) q p in_q ∙ sym (stayed D (take_row D M q) t p out_t ∙ moved D M q p in_q))
      (λ out_q. stayed D (take_row D M t) q p out_q ∙ stayed D M t p out_t ∙ sym (stayed D (take_row D M q) t p out_t ∙ stayed D M q p out_q))
      (cases_Bool (D.part (D.step q) p)))
      (cases_Bool (D.part (D.step t) p)))

  -- parties keep waiting while steps that share none of them are fired
  pub waiting_on : (M : Marking) (m t : ℕ) → Waiting D m M → ((p : ℕ) → D.part m p ≡ true → D.part (D.step t) p ≡ false) → Waiting D m (take_row D M t)
  waiting_on M m t w share p in' = stayed D M t p (share p in') ∙ w p in'

  -- a party leaves a step only when the step is fired
  pub leaves : {M X : Marking} {rs : List ℕ} → Run D M rs X → (m p : ℕ) → M p ≡ m → (X p ≡ m → ⊥) → Fires D m rs
  leaves stop m p at gone = absurd (gone at)
  leaves {M} (go {r = r} can rest) m p at gone =
      ⊎_elim
      (λ in'. now (sym (can.1.1 p in') ∙ at))
      (λ out. later (leaves rest m p (stayed D M r p out ∙ at) gone))
      (cases_Bool (D.part (D.step r) p))

-- a run with a row q of m first, one row for one, to the same marking and with the same label
pub record Pulled {V : Type 0} (a : Algebra V) (label : ℕ → V) (D : Diagram) (m : ℕ) (M : Marking) (rs : List ℕ) (X : Marking) : Type 0 where
  pub row : ℕ
  pub rest : List ℕ
  pub of_step : D.step row ≡ m
  pub run : Run D M (row ∷ rest) X
  pub shorter : suc (length rest) ≡ length rs
  pub same_label : run_label a label rs ≡ a.then (label row) (run_label a label rest)

-- the first row of a run, and what follows it
pub first_can : (D : Diagram) {M X : Marking} {r : ℕ} {rs : List ℕ} → Run D M (r ∷ rs) X → Can D M r
first_can D (go can rest) = can

pub after_first : (D : Diagram) {M X : Marking} {r : ℕ} {rs : List ℕ} → Run D M (r ∷ rs) X → Run D (take_row D M r) rs X
after_first D (go can rest) = rest

module _ {V : Type 0} (a : Algebra V) (laws : Laws a) (D : Diagram) (label : ℕ → V) (belong : LabelsBelong a D label) (m : ℕ) (inner : Inner D m) where
  pub pull : {M X : Marking} {rs : List ℕ} → Run D M rs X → Waiting D m M → Fires D m rs → Pulled a label D m M rs X
  pull stop w f = absurd (fires_none D m f)
  pull {M} {X} (go {r = t} {rs = rs} can rest) w f =
      ⊎_elim
      (λ same. record { row = t; rest = rs; of_step = same; run = go can rest; shorter = refl; same_label = label_first a laws label t rs })
      (λ ne.
      let share = apart D M (D.step t) m ne can.1.1 w in
      let back : (p : ℕ) → D.part m p ≡ true → D.part (D.step t) p ≡ false = apart D M m (D.step t) (λ e. ne (sym e)) w can.1.1 in
      let on = pull rest (waiting_on D M m t w back) (⊎_elim (λ e. absurd (ne e)) (λ g. g) (fires_cases D m f)) in
      let q = on.row in
      let share_q : (p : ℕ) → D.part (D.step t) p ≡ true → D.part (D.step q) p ≡ false = λ p in'. ap (λ n. D.part n p) on.of_step ∙ share p in' in
      let canq = first_can D on.run in
      let behind = after_first D on.run in
      let q_first : Can D M q = (canq.0, subst (Enabled D M) (sym on.of_step) (inner, w)) in
      let t_then : Can D (take_row D M q) t = (can.0, (can.1.0, waiting_on D M (D.step t) q can.1.1 share_q)) in
      record {
        row = q;
        rest = t ∷ on.rest;
        of_step = on.of_step;
        run = go q_first (go t_then (subst (λ N. Run D N on.rest X) (diamond D M t q share_q) behind));
        shorter = ap suc on.shorter;
        same_label =
            label_first a laws label t rs
            ∙ ap (a.then (label t)) on.same_label
            ∙ sym (laws.then_associative (label t) (label q) (run_label a label on.rest))
            ∙ ap (λ x. a.then x (run_label a label on.rest))
            (laws.disjoint_commute (label t) (label q) (D.part (D.step t)) (D.part (D.step q))
            (λ p in_t in_q. both_ways (D.part (D.step q) p) (share_q p in_t) in_q)
            (belong t can.0) (belong q canq.0))
            ∙ laws.then_associative (label q) (label t) (run_label a label on.rest)
            ∙ sym (ap (a.then (label q)) (label_first a laws label t on.rest));
      })
      (cases_eq (D.step t) m)
