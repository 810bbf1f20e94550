use Rattle.std.proofs.Common.{◌≡◌, ◌-◌, ◌≤◌, None}
use Rattle.format.specs.Layout.{record_count}
use Rattle.format.specs.Refusals.{first_failing}
use Rattle.numbers.specs.Below.{each_below}
use Rattle.format.specs.Checks.{ahead_of, record_checks_at}
use Rattle.format.proofs.records.check_records.Given as goal

abbrev pub invariant-loop-record : goal.invariant-loop-record
invariant-loop-record l =
    (l.record-iterator.file.now ≡ l.file)
    × (l.record-iterator.place ≤ record_count l.file)
    × (l.ahead ≡ ahead_of l.file l.record-iterator.place)
    × (first_failing (each_below l.record-iterator.place (record_checks_at l.file)) ≡ None)

abbrev pub decreases-loop-record : goal.decreases-loop-record
decreases-loop-record l = record_count l.file - l.record-iterator.place
