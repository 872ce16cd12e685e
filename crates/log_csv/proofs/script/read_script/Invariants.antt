-- the rows so far and those of the records to come are all, and the first fault of the records to come is that of all
use Rattle.std.proofs.Common.{◌≡◌, ◌+◌, ◌≤◌, ◌++◌, length, map}
use Rattle.std.specs.Prelude.{filter_map}
use Rattle.log_csv.specs.Records.{record_of}
use Rattle.log_csv.specs.RecordsLeft.{IsPlain, records_left}
use Rattle.log_csv.specs.ScriptText.{first_row_fault, first_script_fault, row_of, script_of}
use Rattle.log_csv.proofs.script.read_script.Given as goal

abbrev pub invariant-records : goal.invariant-records
invariant-records l = record {
  plain : IsPlain l.records;
  rows : l.rows.items ++ filter_map row_of (map record_of (records_left l.records)) ≡ script_of l.bytes;
  faults : first_row_fault (l.row + 1) (map record_of (records_left l.records)) ≡ first_script_fault l.bytes;
  count : l.row + length (records_left l.records) ≤ length l.bytes;
}

abbrev pub decreases-records : goal.decreases-records
decreases-records l = length (records_left l.records)
