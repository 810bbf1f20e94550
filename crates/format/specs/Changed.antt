-- What one changed byte does.
use Rattle.std.specs.Prelude.{◌≡◌, ℕ, ◌/◌, ◌<◌, true, false, length, set, Some, None, ◌≢◌}
use Rattle.format.specs.Layout.{Bytes, byte}
use Rattle.format.specs.Refusals.{first_failing}
use Rattle.format.specs.Checks.{wrong_check, block_layer}
use Rattle.format.specs.Names.{name_checks}

-- In a block whose check is right, any one byte changed to any other value makes the check wrong.
abbrev pub OneChangedByteBreaksTheCheck : Type 0
OneChangedByteBreaksTheCheck =
    (block : Bytes) (i value : ℕ) → length block ≡ 512 → wrong_check block ≡ false → i < 512 → (value ≢ byte block i) → wrong_check (set block i value) ≡ true

-- In a file whose blocks are right, any one byte changed to any other value is refused by 2, with its block.
abbrev pub OneChangedByteIsRefused : Bytes → ℕ → Type 0
OneChangedByteIsRefused file number =
    first_failing (block_layer file) ≡ None
    → (i value : ℕ) → i < length file → (value ≢ byte file i)
    → first_failing (name_checks (set file i value) number) ≡ Some (record { number = 2; layer = 1; place = i / 512 })
