-- The records that a reader gives first.
use Rattle.std.proofs.Common.{◌≡◌, ℕ, ◌+◌, ◌<◌, ◌≤◌, List, map, length, get_or, subst, ◌∙◌, arith}
use Rattle.std.specs.List.{range_with_len, zip}
use Rattle.std.specs.Iterator.{YieldsFirstRef}
use Rattle.std.specs.Iterator.Adapters.{take_source, take_count, take_steps}
use Rattle.std.specs.declared.iter.Take.{Take}
use Rattle.std.proofs.lemmas.Iterator.{YieldsList, YieldsList-from_take}
use Rattle.std.proofs.lemmas.Iterator.Consumers.{YieldsList-from_first}
use Rattle.std.proofs.lemmas.List.FromFn.{take-map-range_with_len, length-range_with_len, get_or-range_with_len}
use Rattle.std.proofs.lemmas.Slice.Zip.{length-zip, get_or-zip}
use Rattle.format.specs.Layout.{Bytes, record_count, record_of, records_from}
use Rattle.format.specs.Reading.{records_left}
use Rattle.format.specs.declared.reader.Reader.{Reader}
use Rattle.format.proofs.RecordsIn.{records_len, records_at}

-- n records from place r on
abbrev pub records : Bytes → ℕ → ℕ → List Bytes
records file r n = map (record_of file) (range_with_len r n)

-- `take` yields them
pub taken : (s : Take Reader) (file : Bytes) (r n : ℕ) → r + n ≤ record_count file → (take_source s).file.now ≡ file → (take_source s).place ≡ r → take_count s ≡ n
    → YieldsList (take_steps (YieldsFirstRef records_left)) (λ rec. rec.now) s (records file r n)
taken s file r n fits same place count =
    subst (YieldsList (take_steps (YieldsFirstRef records_left)) (λ rec. rec.now) s)
    (take-map-range_with_len (record_of file) r _ n (omega arith))
    (YieldsList-from_take n (YieldsList-from_first (λ rec. rec.now) records_left {s = take_source s} (records_from file r) (λ i. records_from (same i) (place i))) count)

-- the numbers below n, each with one of the records from place r on
abbrev pub numbered : Bytes → ℕ → ℕ → List (ℕ × Bytes)
numbered file r n = zip (range_with_len 0 n) (records_from file r)

module _ (file : Bytes) (r n : ℕ) (fits : r + n ≤ record_count file) where
  pub numbered_len : length (numbered file r n) ≡ n
  numbered_len = let numbers = length-range_with_len 0 n in let recs = records_len file r in omega (arith, length-zip (range_with_len 0 n) (records_from file r))

  pub numbered_at : (k : ℕ) (p : ℕ × Bytes) → k < length (numbered file r n) → p ≡ get_or (numbered file r n) k p → (k < n) × (p.0 ≡ k) × (p.1 ≡ record_of file (r + k))
  numbered_at k p lt is =
      let inside : k < n = omega (arith, numbered_len) in
      let numbers = length-range_with_len 0 n in
      let recs = records_len file r in
      let both = is ∙ get_or-zip (range_with_len 0 n) (records_from file r) k p (omega arith) (omega arith) in
      (inside, grind (arith, get_or-range_with_len 0 n k p.0), grind (arith, records_at file r k (r + k) p.1))
