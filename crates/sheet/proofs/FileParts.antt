-- What stands in a file, place by place.
use Rattle.std.proofs.Common.{◌≡◌, ℕ, ◌+◌, ◌<◌, ◌≤◌, true, length, get_or, Some, None, arith}
use Rattle.std.proofs.lemmas.List.FromFn.{length-map-range_with_len, get_or-map-range_with_len}
use Rattle.std.proofs.lemmas.List.{get_or_past}
use Rattle.std.proofs.lemmas.Bool.{cases_lt}
use Rattle.std.proofs.lemmas.Bool.Decides.{nat_tests}
use Rattle.format.specs.Layout.{Bytes, byte, part, record_at, step_of}
use Rattle.format.proofs.Cuts.{byte_part}
use Rattle.sheet.specs.FileDiagram.{steps_in, outcomes_in, mask_at, outcome_at, row_in, row_at, file_standing, file_diagram}

module _ (file : Bytes) where
  -- its list of masks and its table of rows
  pub file_steps : length (file_standing file).masks ≡ steps_in file
  file_steps = length-map-range_with_len (mask_at file) 0 (steps_in file)

  pub file_rows : length (file_standing file).rows ≡ 256
  file_rows = length-map-range_with_len (row_at file) 0 256

  pub file_mask : (n : ℕ) → n < steps_in file → get_or (file_standing file).masks n 0 ≡ mask_at file n
  file_mask n lt = get_or-map-range_with_len (mask_at file) 0 (steps_in file) n n 0 lt (omega arith)

  pub file_mask_past : (n : ℕ) → steps_in file ≤ n → get_or (file_standing file).masks n 0 ≡ 0
  file_mask_past n le = grind (arith, file_steps, get_or_past (file_standing file).masks n 0)

  pub file_row : (r : ℕ) → r < 256 → get_or (file_standing file).rows r None ≡ row_at file r
  file_row r lt = get_or-map-range_with_len (row_at file) 0 256 r r None lt (omega arith)

  pub file_row_past : (r : ℕ) → 256 ≤ r → get_or (file_standing file).rows r None ≡ None
  file_row_past r le = grind (arith, file_rows, get_or_past (file_standing file).rows r None)

  -- outcome r is row r, and the other rows are free
  pub file_outcome : outcomes_in file ≤ 256 → (r : ℕ) → r < outcomes_in file → get_or (file_standing file).rows r None ≡ Some (row_in (outcome_at file r))
  file_outcome few r lt = let row = file_row r in grind (arith, nat_tests)

  pub file_free : (r : ℕ) → outcomes_in file ≤ r → get_or (file_standing file).rows r None ≡ None
  file_free r le = let row = file_row r in grind (arith, nat_tests, file_row_past r, cases_lt r 256)

  -- a row in use is an outcome of the file
  pub file_used : (r : ℕ) → (file_diagram file).used r ≡ true → r < outcomes_in file
  file_used r used = let free = file_free r in grind (arith, cases_lt r (outcomes_in file))

  pub file_step : outcomes_in file ≤ 256 → (r : ℕ) → r < outcomes_in file → (file_diagram file).step r ≡ step_of (outcome_at file r)
  file_step few r lt = rw (file_outcome few r lt)

  pub file_to : outcomes_in file ≤ 256 → (r p : ℕ) → r < outcomes_in file → (file_diagram file).to r p ≡ get_or (part (outcome_at file r) 2 8) p 255
  file_to few r p lt = rw (file_outcome few r lt)

  -- a mask is a byte of the file
  pub mask_small : ((i : ℕ) → byte file i < 256) → (n : ℕ) → mask_at file n < 256
  mask_small bytes n = omega (arith, byte_part file (record_at n) 56 2, bytes (record_at n + 2))

  pub file_mask_small : ((i : ℕ) → byte file i < 256) → (n : ℕ) → get_or (file_standing file).masks n 0 < 256
  file_mask_small bytes n =
      grind (arith, file_mask n, file_mask_past n, mask_small bytes n, cases_lt n (steps_in file))
