-- How certain an alarm is, as the code says it.
use Rattle.std.specs.Prelude.{Bool, true, false}
use Rattle.log_order.specs.declared.certainty.Certainty.{Certainty}
use Rattle.log_order.specs.declared.certainty.Certainty.TheVariants.{Certain, Doubtful}

-- the mark of a log that says so: a doubtful alarm is perhaps false
abbrev pub leaves_doubt : Certainty → Bool
leaves_doubt Certain = false
leaves_doubt Doubtful = true
