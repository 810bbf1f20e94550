-- The names in a file.
use Rattle.std.specs.Prelude.{ℕ, ◌+◌, Bool, ◌||◌, List, [], ◌∷◌, ◌++◌, nat_le}
use Rattle.format.specs.Layout.{Bytes, byte, part, record_count, record_at, record_of, is_blank}
use Rattle.format.specs.Refusals.{Check, call_check}
use Rattle.format.specs.Checks.{record_layer}

-- 22: the number is that of a blank record, or beyond the last
abbrev pub no_such_record : Bytes → ℕ → Bool
no_such_record file number = nat_le (record_count file) number || is_blank (record_of file number)

-- the checks of a call for a name
abbrev pub name_checks : Bytes → ℕ → List Check
name_checks file number = record_layer file ++ call_check 22 (no_such_record file number) ∷ []

-- the name of record r: of the length in the record's byte 42, from its byte 43 on
abbrev pub name_at : Bytes → ℕ → Bytes
name_at file r = part file (record_at r + 43) (byte file (record_at r + 42))
