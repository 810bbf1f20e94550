-- Where the parts of a setup file lie. docs/FORMAT.md has the same in words.
use Rattle.std.specs.Prelude.{ℕ, zero, suc, ◌+◌, ◌-◌, ◌*◌, ◌/◌, ◌%◌, Bool, cond, List, length, map, take, drop, ◌==◌, slice_index}
use Rattle.std.specs.List.{range_with_len}
use Rattle.numbers.specs.Below.{sum_below, count_below}

-- a file's bytes, or a part of them
abbrev pub Bytes : Type 0
Bytes = List ℕ

-- the byte at place i, 0 beyond the last
abbrev pub byte : Bytes → ℕ → ℕ
byte bs i = slice_index bs i

-- the n bytes from place i on
abbrev pub part : Bytes → ℕ → ℕ → Bytes
part bs i n = take n (drop i bs)

-- the number that two bytes from place i on spell, the higher first
abbrev pub number16 : Bytes → ℕ → ℕ
number16 bs i = byte bs i * 256 + byte bs (i + 1)

-- the number that four bytes from place i on spell, the highest first
abbrev pub number32 : Bytes → ℕ → ℕ
number32 bs i = byte bs i * 16777216 + byte bs (i + 1) * 65536 + byte bs (i + 2) * 256 + byte bs (i + 3)

-- how many whole blocks of 512 bytes there are
abbrev pub block_count : Bytes → ℕ
block_count file = length file / 512

-- block b
abbrev pub block_of : Bytes → ℕ → Bytes
block_of file b = part file (512 * b) 512

-- the sum that a block's check holds: (i + 1) × byte i over its first 508 bytes
abbrev pub check_sum : Bytes → ℕ
check_sum block = sum_below 508 (λ i. (i + 1) * byte block i)

-- nine records to a block
abbrev pub record_count : Bytes → ℕ
record_count file = 9 * block_count file

-- where record r begins: behind the four header bytes of block r / 9
abbrev pub record_at : ℕ → ℕ
record_at r = 512 * (r / 9) + (4 + 56 * (r % 9))

-- the 56 bytes of record r
abbrev pub record_of : Bytes → ℕ → Bytes
record_of file r = part file (record_at r) 56

-- the records from place r on
abbrev pub records_from : Bytes → ℕ → List Bytes
records_from file r = map (record_of file) (range_with_len r (record_count file - r))

-- a record's first byte: 0 a blank, 1 a step, 2 an outcome
abbrev pub kind_of : Bytes → ℕ
kind_of rec = byte rec 0

-- a record of kind 0
abbrev pub is_blank : Bytes → Bool
is_blank rec = kind_of rec == 0

-- a record of kind 1
abbrev pub is_step : Bytes → Bool
is_step rec = kind_of rec == 1

-- a record of kind 2
abbrev pub is_outcome : Bytes → Bool
is_outcome rec = kind_of rec == 2

-- a record's second byte: the step's own number, or the step that the outcome belongs to
abbrev pub step_of : Bytes → ℕ
step_of rec = byte rec 1

-- a step's parties
abbrev pub mask_of : Bytes → ℕ
mask_of rec = byte rec 2

-- the bytes that a step leaves unused, 3 to 41
abbrev pub unused_of : Bytes → Bytes
unused_of rec = part rec 3 39

-- the length of the name, byte 42
abbrev pub name_length : Bytes → ℕ
name_length rec = byte rec 42

-- the name and the zeros behind it, bytes 43 to 55
abbrev pub name_field : Bytes → Bytes
name_field rec = drop 43 rec

-- how many step records lie ahead of record r
abbrev pub steps_ahead : Bytes → ℕ → ℕ
steps_ahead file r = count_below r (λ k. is_step (record_of file k))

-- how many outcome records lie ahead of record r
abbrev pub outcomes_ahead : Bytes → ℕ → ℕ
outcomes_ahead file r = count_below r (λ k. is_outcome (record_of file k))

-- the step that the outcome just ahead of record r belongs to; 0 where no outcome is there
abbrev pub floor_at : Bytes → ℕ → ℕ
floor_at file zero = 0
floor_at file (suc k) = cond (is_outcome (record_of file k)) (step_of (record_of file k)) 0
