-- Slices as arrays of one length.
use Rattle.std.proofs.Common.{◌≡◌, ℕ, zero, suc, ◌*◌, ◌<◌, List, take, drop, get_or, arith}
use Rattle.std.specs.Simd.{first_chunks}
use Rattle.std.proofs.lemmas.List.{drop-drop}

-- chunk i is cut out at n × i
pub chunk_at : {X : Type 0} (n k i : ℕ) (xs : List X) (d : List X) → i < k → get_or (first_chunks n k xs) i d ≡ take n (drop (n * i) xs)
chunk_at n zero i xs d lt = absurd (omega arith)
chunk_at n (suc k) zero xs d lt = grind arith
chunk_at n (suc k) (suc i) xs d lt = let rest = chunk_at n k i (drop n xs) d (omega arith) in grind (arith, drop-drop (n * i) n xs)
