-- The fields of an outcome's 32 label bytes.
use Rattle.std.specs.Prelude.{ℕ, ◌+◌, ◌*◌, ◌%◌, ◌^◌}
use Rattle.format.specs.Layout.{Bytes, byte, number32}

-- the number that eight bytes from place i on spell, the highest first
abbrev pub number64 : Bytes → ℕ → ℕ
number64 bytes i =
    byte bytes i * 72057594037927936 + byte bytes (i + 1) * 281474976710656 + byte bytes (i + 2) * 1099511627776 + byte bytes (i + 3) * 4294967296
    + byte bytes (i + 4) * 16777216 + byte bytes (i + 5) * 65536 + byte bytes (i + 6) * 256 + byte bytes (i + 7)

-- the least charge, in bytes 0 to 3
abbrev pub least_in : Bytes → ℕ
least_in bytes = number32 bytes 0

-- the most charge, in bytes 4 to 7
abbrev pub most_in : Bytes → ℕ
most_in bytes = number32 bytes 4

-- the relation of the flags, in bytes 8 to 15; eight bytes never spell more than 64 bits
abbrev pub relation_in : Bytes → ℕ
relation_in bytes = number64 bytes 8 % 2 ^ 64

-- the definitions kept, in bytes 16 to 23
abbrev pub keep_in : Bytes → ℕ
keep_in bytes = number64 bytes 16 % 2 ^ 64

-- the definitions generated, in bytes 24 to 31
abbrev pub gen_in : Bytes → ℕ
gen_in bytes = number64 bytes 24 % 2 ^ 64
