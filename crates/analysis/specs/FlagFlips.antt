-- Flipping flags on both sides of a pair, until it is another pair.
use Rattle.std.specs.Prelude.{◌≡◌, ℕ, zero, suc, ◌/◌, ◌%◌, ◌^◌, ◌<◌, ◌≤◌, Bool, true, false, cond, not, ◌⊎◌, ◌==◌, ◌≢◌, nat_eq, refl}
use Rattle.std.proofs.Common.{inl, inr, ⊎_elim, sym, ap, ◌∙◌, arith}
use Rattle.std.proofs.lemmas.Bool.{cases_eq, eqb-true, eq-eqb, ne_eqb, cond-true, cond-false}
use Rattle.numbers.specs.Below.{some_below}
use Rattle.numbers.specs.Bits.{bit, from_bits}
use Rattle.numbers.proofs.BelowLaws.{none_at}
use Rattle.numbers.proofs.BitLaws.{from_bits_self, from_bits_same}
use Rattle.analysis.specs.FlagsAlgebra.{may, same_flag, flipped, stays_within}
use Rattle.analysis.specs.Parties.{Set}
use Rattle.analysis.specs.FlagPairs.{stays_at, flipped_below}

abbrev differ : Bool → Bool → Bool
differ true b = not b
differ false b = b

alike : (a b : Bool) → differ a b ≡ false → a ≡ b
alike a b e = grind arith

-- flipping a flag turns that flag and no other: computed over all values and flags
flip_table : some_below 8 (λ v. some_below 3 (λ i. some_below 3 (λ j. differ (bit (flipped i v) j) (cond (i == j) (not (bit v j)) (bit v j))))) ≡ false
unfolding some_below
flip_table = refl

flip_bit : (v i j : ℕ) → v < 8 → i < 3 → j < 3 → bit (flipped i v) j ≡ cond (i == j) (not (bit v j)) (bit v j)
flip_bit v i j vl il jl =
    alike _ _
    (none_at 3 (λ l. differ (bit (flipped i v) l) (cond (i == l) (not (bit v l)) (bit v l)))
    (none_at 3 (λ h. some_below 3 (λ l. differ (bit (flipped h v) l) (cond (h == l) (not (bit v l)) (bit v l))))
    (none_at 8 (λ u. some_below 3 (λ h. some_below 3 (λ l. differ (bit (flipped h u) l) (cond (h == l) (not (bit u l)) (bit u l))))) flip_table v vl)
    i il)
    j jl)

pub flip_same : (v i : ℕ) → v < 8 → i < 3 → bit (flipped i v) i ≡ not (bit v i)
flip_same v i vl il = flip_bit v i i vl il il ∙ cond-true (i == i) _ _ (eq-eqb i i refl)

pub flip_other : (v i j : ℕ) → v < 8 → i < 3 → j < 3 → (i ≢ j) → bit (flipped i v) j ≡ bit v j
flip_other v i j vl il jl ne = flip_bit v i j vl il jl ∙ cond-false (i == j) _ _ (ne_eqb i j ne)

-- a pair that keeps a flag has one value of it
pub same_bit : (i v w : ℕ) → same_flag i v w ≡ true → bit v i ≡ bit w i
same_bit i v w h = ap (λ n. nat_eq n 1) (eqb-true (v / 2 ^ i % 2) (w / 2 ^ i % 2) h)

other : (a b : Bool) → (a ≡ b) ⊎ (not a ≡ b)
other true true = inl refl
other true false = inr refl
other false true = inr refl
other false false = inl refl

module _ (r : ℕ) (P : Set) (within : stays_within r P ≡ true) (a b : ℕ) (al : a < 8) (bl : b < 8) (pair : may r a b ≡ true) (s t : ℕ → Bool) where
  -- flag i may be chosen freely on both sides, or is as wanted
  abbrev pub Wanted : ℕ → Type 0
  Wanted i = ((P i ≡ false) × (s i ≡ t i)) ⊎ ((bit a i ≡ s i) × (bit b i ≡ t i))

  -- a pair whose first n flags are as wanted, and the others as they were
  record Reached (n a' b' : ℕ) : Type 0 where
    first_below : a' < 8
    second_below : b' < 8
    there : may r a' b' ≡ true
    done : (i : ℕ) → i < n → i < 3 → (bit a' i ≡ s i) × (bit b' i ≡ t i)
    left : (i : ℕ) → n ≤ i → i < 3 → (bit a' i ≡ bit a i) × (bit b' i ≡ bit b i)

  stay : (n a' b' : ℕ) → n < 3 → Reached n a' b' → (bit a' n ≡ s n) × (bit b' n ≡ t n) → Reached (suc n) a' b'
  stay n a' b' nl h now =
      record {
        first_below = h.first_below;
        second_below = h.second_below;
        there = h.there;
        done = λ i lt il. ⊎_elim (λ same. (ap (bit a') same ∙ now.0 ∙ ap s (sym same), ap (bit b') same ∙ now.1 ∙ ap t (sym same))) (λ ne. h.done i (omega arith) il) (cases_eq i n);
        left = λ i ge il. h.left i (omega arith) il;
      }

  flip : (n a' b' : ℕ) → n < 3 → Reached n a' b' → P n ≡ false → s n ≡ t n → not (bit a' n) ≡ s n → Reached (suc n) (flipped n a') (flipped n b')
  flip n a' b' nl h out same turned =
      let keeps = stays_at r P within n a' b' nl h.first_below h.second_below out h.there in
      let first = flip_same a' n h.first_below nl ∙ turned in
      let second = flip_same b' n h.second_below nl ∙ ap not (sym (same_bit n a' b' keeps.0)) ∙ turned ∙ same in
      record {
        first_below = flipped_below n a' nl h.first_below;
        second_below = flipped_below n b' nl h.second_below;
        there = keeps.1;
        done = λ i lt il.
            ⊎_elim
            (λ here. (ap (bit (flipped n a')) here ∙ first ∙ ap s (sym here), ap (bit (flipped n b')) here ∙ second ∙ ap t (sym here)))
            (λ ne. let before = h.done i (omega arith) il in
            (flip_other a' n i h.first_below nl il (λ e. ne (sym e)) ∙ before.0, flip_other b' n i h.second_below nl il (λ e. ne (sym e)) ∙ before.1))
            (cases_eq i n);
        left = λ i ge il.
            let after = h.left i (omega arith) il in
            (flip_other a' n i h.first_below nl il (omega arith) ∙ after.0, flip_other b' n i h.second_below nl il (omega arith) ∙ after.1);
      }

  reach : ((i : ℕ) → i < 3 → Wanted i) → (n : ℕ) → n ≤ 3 → (a' : ℕ) × (b' : ℕ) × Reached n a' b'
  reach wanted zero le =
      (a, b, record { first_below = al; second_below = bl; there = pair; done = λ i lt il. absurd (omega arith); left = λ i ge il. (refl, refl) })
  reach wanted (suc n) le =
      let before = reach wanted n (omega arith) in
      let a' = before.0 in
      let b' = before.1 in
      let h = before.2 in
      ⊎_elim
      (λ free.
      let keeps = stays_at r P within n a' b' (omega arith) h.first_below h.second_below free.0 h.there in
      ⊎_elim
      (λ right. (a', b', stay n a' b' (omega arith) h (right, sym (same_bit n a' b' keeps.0) ∙ right ∙ free.1)))
      (λ turned. (flipped n a', flipped n b', flip n a' b' (omega arith) h free.0 free.1 turned))
      (other (bit a' n) (s n)))
      (λ held. let now = h.left n (omega arith) (omega arith) in (a', b', stay n a' b' (omega arith) h (now.0 ∙ held.0, now.1 ∙ held.1)))
      (wanted n (omega arith))

  pub retarget : ((i : ℕ) → i < 3 → Wanted i) → may r (from_bits 3 s) (from_bits 3 t) ≡ true
  retarget wanted =
      let end = reach wanted 3 (omega arith) in
      let h = end.2 in
      let first = sym (from_bits_self 3 end.0 h.first_below) ∙ from_bits_same 3 (bit end.0) s (λ i il. (h.done i il il).0) in
      let second = sym (from_bits_self 3 end.1 h.second_below) ∙ from_bits_same 3 (bit end.1) t (λ i il. (h.done i il il).1) in
      (λ i. may r (sym first i) (sym second i)) ∙ h.there
