-- the log is that of the records so far, and the first fault of the records to come is that of all
use Rattle.std.proofs.Common.{◌+◌, ◌≤◌, length}
use Rattle.log_csv.specs.RecordsLeft.{IsPlain, records_left}
use Rattle.log_csv.proofs.LogLemmas.{IsReadTo}
use Rattle.log_csv.proofs.log_text.add_records.Given as goal

abbrev pub invariant-records : goal.invariant-records
invariant-records l = record {
  plain : IsPlain l.records;
  read : IsReadTo l.bytes (records_left l.records) l.row l.log;
  count : l.row + length (records_left l.records) ≤ length l.bytes;
}

abbrev pub decreases-records : goal.decreases-records
decreases-records l = length (records_left l.records)
