use Rattle.std.proofs.Common.{subst, sym}
use Rattle.log_csv.specs.declared.fault.LogReadRefusal.{LogReadRefusal}
use Rattle.log_csv.specs.Records.{alarm}
use Rattle.log_csv.specs.Reading.{Adds}
use Rattle.std.proofs.Common.{Err}
use Rattle.log_order.specs.Certainty.{leaves_doubt}
use Rattle.log_csv.proofs.LogLemmas.{alarm-added, alarm-refused}
use Rattle.log_csv.proofs.log_text.add_alarm.Goals as goal

pub returns-in-Ok : goal.returns-in-Ok
returns-in-Ok c = λ earlier logged named.
    alarm-added earlier (leaves_doubt c.args.certainty) c.args.id c.args.labels.now c.args.row c.args.log.now c.add.new.self logged named c.in-Ok.ensures.refused c.in-Ok.ensures.ok

pub returns-in-Err : goal.returns-in-Err
returns-in-Err c = λ earlier logged named.
    subst (λ (e : LogReadRefusal). Adds earlier (alarm (leaves_doubt c.args.certainty) c.args.id c.args.labels.now) c.args.row c.add.new.self (Err e)) (sym c.refusal_at.ensures)
    (alarm-refused earlier (leaves_doubt c.args.certainty) c.args.id c.args.labels.now c.args.row c.args.log.now c.add.new.self c.in-Err.refusal logged named c.in-Err.ensures.refused)
