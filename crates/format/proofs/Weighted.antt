-- The weighted sum of a block's first bytes, as a chain over them adds it up.
use Rattle.std.proofs.Common.{◌≡◌, ℕ, zero, suc, ◌+◌, ◌*◌, ◌^◌, ◌<◌, ◌≤◌, ⊎_elim, map, take, length, refl, sym, ap, ◌∙◌, add-one, arith}
use Rattle.std.specs.List.{range_with_len, enumerate_from, sum_by}
use Rattle.std.proofs.Math.Seq.{take-length}
use Rattle.std.proofs.lemmas.Nat.{mul-le}
use Rattle.std.proofs.lemmas.List.{length-take, length-take-le, get_or-take, get_or_past}
use Rattle.std.proofs.lemmas.Bool.{cases_lt}
use Rattle.std.proofs.lemmas.List.FromFn.{fill_by_all, length-enumerate_from, get_or-enumerate_from, sum_by-map-range_with_len_more}
use Rattle.numbers.specs.Below.{sum_below}
use Rattle.format.specs.Layout.{Bytes, byte}

abbrev pub weighted : ℕ × ℕ → ℕ
weighted p = (p.0 + 1) * p.1

-- the places and bytes of the first n
abbrev placed : Bytes → ℕ → ℕ × ℕ
placed bs i = (i, byte bs i)

places : (bs : Bytes) (n : ℕ) → n ≤ length bs → enumerate_from 0 (take n bs) ≡ map (placed bs) (range_with_len 0 n)
places bs n fits =
    let long : length (take n bs) ≡ n = length-take-le n bs fits in
    fill_by_all (placed bs) (enumerate_from 0 (take n bs)) n (0, 0) (length-enumerate_from 0 (take n bs) ∙ long)
    (λ i lt. let same : 0 + i ≡ i = omega arith in get_or-enumerate_from 0 (take n bs) i (0, 0) (omega arith) ∙ (λ j. (same j, get_or-take n bs i 0 lt j)))

added : (bs : Bytes) (n : ℕ) → sum_by weighted (map (placed bs) (range_with_len 0 n)) ≡ sum_below n (λ i. (i + 1) * byte bs i)
unfolding sum_below
added bs zero = refl
added bs (suc n) =
    ap (λ m. sum_by weighted (map (placed bs) (range_with_len 0 m))) (sym (add-one n))
    ∙ sum_by-map-range_with_len_more weighted (placed bs) 0 n n (omega arith)
    ∙ ap (λ s. s + (n + 1) * byte bs n) (added bs n)

pub chain_adds : (bs : Bytes) (n : ℕ) → n ≤ length bs → sum_by weighted (enumerate_from 0 (take n bs)) ≡ sum_below n (λ i. (i + 1) * byte bs i)
chain_adds bs n fits = ap (sum_by weighted) (places bs n fits) ∙ added bs n

-- no weighted byte of a block exceeds 508 × 255
pub sum_few : (bs : Bytes) (k : ℕ) → k ≤ 508 → ((i : ℕ) → byte bs i < 256) → sum_below k (λ i. (i + 1) * byte bs i) ≤ 129540 * k
unfolding sum_below
sum_few bs zero le small = omega arith
sum_few bs (suc k) le small =
    let rest = sum_few bs k (omega arith) small in
    let one = mul-le (k + 1) (byte bs k) 508 255 (omega arith) (omega (arith, small k)) in
    omega arith

-- a byte of the first n is that of the whole, or 0 behind them
pub byte_taken : (n : ℕ) (bs : Bytes) (i : ℕ) → byte (take n bs) i ≤ byte bs i
byte_taken n bs i =
    ⊎_elim
    (λ below. omega (arith, get_or-take n bs i 0 below))
    (λ past. omega (arith, get_or_past (take n bs) i 0 (omega (arith, length-take n bs))))
    (cases_lt i n)

-- up to 508 bytes weigh less than four bytes can say
pub few_weigh : (bs : Bytes) → length bs ≤ 508 → ((i : ℕ) → byte bs i < 256) → sum_by weighted (enumerate_from 0 bs) < 2 ^ 32
few_weigh bs short small =
    let whole : sum_by weighted (enumerate_from 0 (take (length bs) bs)) ≡ sum_by weighted (enumerate_from 0 bs) = ap (λ ys. sum_by weighted (enumerate_from 0 ys)) (take-length bs) in
    omega (arith, whole, chain_adds bs (length bs) (omega arith), sum_few bs (length bs) short small)
