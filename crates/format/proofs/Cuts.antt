-- A part of the file, as `&file[at..at + n]` gives it.
use Rattle.std.proofs.Common.{◌≡◌, ℕ, ◌+◌, ◌-◌, ◌<◌, ◌≤◌, length, drop, arith, length-drop, length-take-le}
use Rattle.std.proofs.lemmas.List.{get_or-take, get_or-drop, drop-take, drop-drop, take-take}
use Rattle.format.specs.Layout.{Bytes, byte, part}

pub length_part : (bs : Bytes) (at n : ℕ) → at + n ≤ length bs → length (part bs at n) ≡ n
length_part bs at n fits = length-take-le n (drop at bs) (omega (arith, length-drop at bs))

pub byte_part : (bs : Bytes) (at n i : ℕ) → i < n → byte (part bs at n) i ≡ byte bs (at + i)
byte_part bs at n i lt = grind (arith, get_or-take n (drop at bs) i 0, get_or-drop at bs i 0)

-- a part of a part
pub part_part : (bs : Bytes) (at n i m : ℕ) → i + m ≤ n → part (part bs at n) i m ≡ part bs (at + i) m
part_part bs at n i m fits =
    grind (arith, drop-take i (n - i) (drop at bs), take-take m (n - i) (drop i (drop at bs)), drop-drop i at bs)
