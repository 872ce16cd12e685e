use Rattle.std.proofs.Common.{Ok, drop, subst, sym}
use Rattle.csv.specs.Records.{fields_of}
use Rattle.log_order.specs.Certainty.{leaves_doubt}
use Rattle.log_csv.proofs.RowLemmas.{alarm-read}
use Rattle.log_csv.specs.declared.row.Row.{Row}
use Rattle.log_csv.specs.Reading.{Reads}
use Rattle.log_csv.specs.Records.{alarm_record}
use Rattle.log_csv.proofs.row_reader.read_alarm.Goals as goal

pub returns : goal.returns
returns c =
    let fields = drop 1 (fields_of c.args.fields.now) in
    subst (λ (said : Row). Reads (alarm_record (leaves_doubt c.args.certainty) fields) (Ok said)) (sym c.alarm_row.ensures)
    (alarm-read (leaves_doubt c.args.certainty) fields c.in-Some.id.now c.in-Some.labels.now c.in_ok-id.id c.in_ok-labels.labels c.in-Some.ensures c.in_ok-id.ensures c.in_ok-labels.ensures)
