-- Reading a number off the label bytes.
use Rattle.std.proofs.Common.{◌≡◌, ℕ, ◌+◌, ◌*◌, ◌%◌, ◌^◌, ◌<◌, w64, sym, ap, ◌∙◌, refl, mod-eq_of_lt, arith}
use Rattle.std.specs.Int.{from_be_bytes}
use Rattle.std.proofs.lemmas.List.{get_or-take, get_or-drop}
use Rattle.format.specs.Layout.{Bytes, byte, part}
use Rattle.analysis.specs.LabelBytes.{number64}

abbrev number : ℕ → ℕ → ℕ → ℕ → ℕ → ℕ → ℕ → ℕ → ℕ
number a b c d e f g h = a * 72057594037927936 + b * 281474976710656 + c * 1099511627776 + d * 4294967296 + e * 16777216 + f * 65536 + g * 256 + h

-- eight bytes in a row are the number that they spell
pub number64_read : (bytes : Bytes) (at : ℕ) → ((i : ℕ) → byte bytes i < 256) → from_be_bytes w64 (part bytes at 8) ≡ number64 bytes at % 2 ^ 64
number64_read bytes at fits = same ∙ sym (mod-eq_of_lt (omega (arith, fits at, fits (at + 1), fits (at + 2), fits (at + 3), fits (at + 4), fits (at + 5), fits (at + 6), fits (at + 7))))
  where
    here : (k j : ℕ) → k < 8 → at + k ≡ j → byte (part bytes at 8) k ≡ byte bytes j
    here k j lt e = get_or-take 8 _ k 0 lt ∙ get_or-drop at bytes k 0 ∙ ap (byte bytes) e

    same : from_be_bytes w64 (part bytes at 8) ≡ number64 bytes at
    same =
        λ i. number (here 0 at (omega arith) (omega arith) i) (here 1 (at + 1) (omega arith) refl i) (here 2 (at + 2) (omega arith) refl i) (here 3 (at + 3) (omega arith) refl i)
        (here 4 (at + 4) (omega arith) refl i) (here 5 (at + 5) (omega arith) refl i) (here 6 (at + 6) (omega arith) refl i) (here 7 (at + 7) (omega arith) refl i)
