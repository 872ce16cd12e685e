use Rattle.std.proofs.Common.{subst, sym}
use Rattle.csv.specs.Records.{fields_of}
use Rattle.log_csv.specs.declared.fault.LogReadRefusal.{LogReadRefusal}
use Rattle.log_csv.specs.Records.{record_of}
use Rattle.log_csv.specs.Faults.{IsLogDue, log_fault_at}
use Rattle.log_csv.specs.LogText.{record_code}
use Rattle.log_csv.proofs.LogLemmas.{record-bad, record-nothing}
use Rattle.log_csv.proofs.log_text.add_record.Goals as goal

pub returns-in-Ok-Some : goal.returns-in-Ok-Some
returns-in-Ok-Some c = λ earlier logged.
    let read = rw c.in-Ok-Some.field-0-is at c.in-Ok-Some.ensures in
    c.add_row.ensures earlier (record_of (fields_of c.args.fields.now)) logged read.0 read.1

pub returns-in-Ok-None : goal.returns-in-Ok-None
returns-in-Ok-None c = λ earlier logged.
    let read = rw c.in-Ok-None.field-0-is at c.in-Ok-None.ensures in
    record-nothing earlier (record_of (fields_of c.args.fields.now)) c.args.row c.args.log.now logged read

pub returns-in-Err : goal.returns-in-Err
returns-in-Err c = λ earlier logged.
    subst (λ (e : LogReadRefusal). IsLogDue (log_fault_at c.args.row (record_code earlier (record_of (fields_of c.args.fields.now)))) e) (sym c.at.ensures)
    (record-bad earlier (record_of (fields_of c.args.fields.now)) c.args.row c.in-Err.refusal c.in-Err.ensures)
