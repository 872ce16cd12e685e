use Rattle.csv.specs.Records.{fields_of}
use Rattle.log_csv.specs.RecordsLeft.{records_left}
use Rattle.log_csv.proofs.LogLemmas.{read-on}
use Rattle.log_csv.proofs.ScriptLemmas.{count-on}
use Rattle.log_csv.proofs.log_text.add_records.Goals as goal

pub records-preserved : goal.records-preserved
records-preserved c =
    let old = records_left c.records.records in
    let left = records_left c.next_record.new.reader in
    let fields = fields_of c.next_record.new.fields in
    let next = rw c.if-branch.true at c.in_ok-next_record.ensures.next in
    record {
      plain = c.in_ok-next_record.ensures.plain;
      read = read-on c.args.bytes.now old left fields c.records.row c.records.log c.add_record.new.log next c.records.invariant.read c.in_ok-add_record.ensures;
      count = count-on c.records.row _ old left fields next c.records.invariant.count;
    }
