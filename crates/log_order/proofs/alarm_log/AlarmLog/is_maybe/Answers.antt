-- What is answered of an alarm is its meaning's.
use Rattle.std.proofs.Common.{◌∙◌, Some, refl, ap, sym}
use Rattle.std.proofs.lemmas.Option.{slice_get_read}
use Rattle.log_order.proofs.Meaning.{meaning_is_known, doubt_is}
use Rattle.log_order.proofs.alarm_log.AlarmLog.is_maybe.Goals as goal

pub returns : goal.returns
returns c =
    let known = meaning_is_known _ _ _ c.self.view_is c.self.invariant c.requires in
    doubt_is _ _ _ _ c.self.view_is c.self.invariant (slice_get_read _ _ _ _ refl known c.index.ensures) ∙ ap Some (sym c.is_doubtful.ensures)
