-- The records of a file, as blocks and their parts hold them.
use Rattle.std.proofs.Common.{◌≡◌, ℕ, suc, ◌+◌, ◌-◌, ◌*◌, ◌/◌, ◌%◌, ◌<◌, [], ◌∷◌, length, get_or, ◌∙◌, arith}
use Rattle.std.specs.Simd.{first_chunks}
use Rattle.std.proofs.lemmas.List.FromFn.{length-map-range_with_len, get_or-map-range_with_len}
use Rattle.format.specs.Layout.{Bytes, part, block_count, block_of, record_count, record_of, records_from}
use Rattle.format.proofs.Chunks.{chunk_at}
use Rattle.format.proofs.Cuts.{length_part, part_part}

-- a block is a chunk of the file
pub block_in : (file : Bytes) (b : ℕ) → b < block_count file → get_or (first_chunks 512 (length file / 512) file) b [] ≡ block_of file b
block_in file b lt = chunk_at 512 (length file / 512) b file [] lt

-- a record is a chunk of what its block has between header and check
pub record_in : (file : Bytes) (r : ℕ) → r / 9 < block_count file → (block : Bytes) → block ≡ block_of file (r / 9) → get_or (first_chunks 56 (length (part block 4 504) / 56) (part block 4 504)) (r % 9) [] ≡ record_of file r
record_in file r lt block same =
    let long = length_part file (512 * (r / 9)) 512 in
    let body = length_part block 4 504 in
    let cut = part_part block 4 504 (56 * (r % 9)) 56 in
    let whole = part_part file (512 * (r / 9)) 512 (4 + 56 * (r % 9)) 56 in
    chunk_at 56 (length (part block 4 504) / 56) (r % 9) (part block 4 504) [] (grind arith) ∙ grind arith

-- the records from a place on are the one at that place and those behind it
pub records_more : (file : Bytes) (r : ℕ) → r < record_count file → records_from file r ≡ record_of file r ∷ records_from file (r + 1)
records_more file r lt =
    let left : record_count file - r ≡ suc (record_count file - (r + 1)) = omega arith in rw left

pub records_len : (file : Bytes) (r : ℕ) → length (records_from file r) ≡ record_count file - r
records_len file r = length-map-range_with_len (record_of file) r (record_count file - r)

pub records_at : (file : Bytes) (r k j : ℕ) (d : Bytes) → k < record_count file - r → r + k ≡ j → get_or (records_from file r) k d ≡ record_of file j
records_at file r k j d lt at = get_or-map-range_with_len (record_of file) r (record_count file - r) k j d lt at
