use Rattle.std.proofs.Common.{◌≡◌, ◌≤◌, true, false, [], ◌∷◌, sym, arith}
use Rattle.std.proofs.lemmas.Result.{err_from_is_err_and}
use Rattle.std.proofs.lemmas.Bool.Decides.{nat_tests}
use Rattle.format.specs.declared.faults.CallCause.TheVariants.{NoRecord}
use Rattle.format.specs.Layout.{record_count, record_at, record_of, name_length}
use Rattle.format.specs.Refusals.{first_failing, call_check}
use Rattle.numbers.specs.Below.{each_below}
use Rattle.format.specs.Checks.{block_layer, record_layer, record_checks_at, ahead_of}
use Rattle.format.specs.Names.{no_such_record, name_checks}
use Rattle.format.proofs.Cuts.{byte_part, part_part}
use Rattle.format.proofs.First.{past, stops, none_parts, each_at}
use Rattle.format.proofs.OneByteInFile.{changed_byte_refused}
use Rattle.format.proofs.RecordLayer.{name_fits}
use Rattle.format.proofs.names.name.Goals as goal
use Rattle.format.proofs.names.name.Goals.{In_ok-check_records, In_ok-record}

-- both layers passed, so only the number can be wrong
only_number : (c : In_ok-check_records) → first_failing (name_checks c.args.file.now c.args.number) ≡ first_failing (call_check 22 (no_such_record c.args.file.now c.args.number) ∷ [])
only_number c = past (record_layer c.args.file.now) _ (grind (arith, c.check_records.ensures.refused))

found : (c : In_ok-record) → (no_such_record c.args.file.now c.args.number ≡ false) × (c.in_ok-record.record.now ≡ record_of c.args.file.now c.args.number)
found c = rw c.in_ok-record.ensures.ok_part at c.find_record.ensures

short : (c : In_ok-record) → name_length (record_of c.args.file.now c.args.number) ≤ 13
short c =
    let file = c.args.file.now in
    let number = c.args.number in
    let layers = none_parts (block_layer file) (each_below (record_count file) (record_checks_at file)) in
    grind (arith, nat_tests, (found c).0, name_fits (ahead_of file number) (record_of file number), each_at (record_count file) (record_checks_at file) number, c.check_records.ensures.refused)

pub returns-in_err-check_records : goal.returns-in_err-check_records
returns-in_err-check_records c =
    let file = c.args.file.now in
    let p = err_from_is_err_and c.from_residual.result c.from_residual.ensures.1 in
    rw (p.1, p.2) (record { refused = sym (stops (record_layer file) (call_check 22 (no_such_record file c.args.number) ∷ []) _ (sym c.in_err-check_records.ensures.refused)); named = tt; guarded = changed_byte_refused file c.args.number })

pub returns-in_err-record : goal.returns-in_err-record
returns-in_err-record c =
    let file = c.args.file.now in
    let number = c.args.number in
    let p = err_from_is_err_and c.from_residual-in_err-record.result c.from_residual-in_err-record.ensures.1 in
    let cause : c.in_err-record.field-0.0 ≡ NoRecord = let e = rw c.in_err-record.ensures.ok_part at c.in_err-record.ensures.value in cc in
    let none : no_such_record file number ≡ true = rw c.in_err-record.ensures.ok_part at c.find_record.ensures in
    rw (p.1, p.2, cause) (record { refused = grind (arith, only_number (goal.at.returns-in_err-record c).In_ok-check_records); named = tt; guarded = changed_byte_refused file number })

pub name_in-requires : goal.name_in-requires
name_in-requires c = let on = (goal.at.name_in-requires c).In_ok-record in rw (found on).1 (short on)

pub returns : goal.returns
returns c =
    let on = (goal.at.returns c).In_ok-record in
    let file = c.args.file.now in
    let number = c.args.number in
    record {
      refused = grind (arith, only_number (goal.at.returns c).In_ok-check_records, (found on).0);
      named = grind (arith, (found on).1, short on, part_part file (record_at number) 56 43 (name_length (record_of file number)), byte_part file (record_at number) 56 42);
      guarded = changed_byte_refused file number;
    }
