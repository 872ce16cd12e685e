-- Worked sizes of questions, and bounds on their variables.
use Rattle.std.proofs.Common.{◌≡◌, true, false, [], ◌∷◌, refl}
use Rattle.std.specs.Prelude.{codes}
use Rattle.des_net.specs.Models.{pump, nothing, settled}
use Rattle.log_order.specs.Log.{Log, no_log, a_log, an_alarm}
use Rattle.replay.specs.QuestionSize.{question_size, variable_bound}

-- one alarm, that of a trip
abbrev tripped : Log
tripped = a_log ((an_alarm (codes "a1") (codes "T" ∷ []) false) ∷ []) []

pub pump-size : question_size pump tripped 2 ≡ 614
pump-size = refl

-- 3 states thrice, 4 events twice, 4 for the empty log, 8 for the alarm, 512 for the counter
pub pump-variables : variable_bound pump tripped 2 ≡ 541
pump-variables = refl

-- the same where it is doubtful: 256 more for the counter, and one variable beside
abbrev perhaps_tripped : Log
perhaps_tripped = a_log ((an_alarm (codes "a1") (codes "T" ∷ []) true) ∷ []) []

pub pump-perhaps_size : question_size pump perhaps_tripped 2 ≡ 870
pump-perhaps_size = refl

pub pump-perhaps_variables : variable_bound pump perhaps_tripped 2 ≡ 798
pump-perhaps_variables = refl

-- two alarms, of either event
abbrev both_seen : Log
both_seen = a_log ((an_alarm (codes "x") (codes "A" ∷ []) false) ∷ (an_alarm (codes "y") (codes "B" ∷ []) false) ∷ []) []

pub settled-variables : variable_bound settled both_seen 2 ≡ 29
settled-variables = refl

pub nothing-size : question_size nothing no_log 3 ≡ 0
nothing-size = refl

pub nothing-variables : variable_bound nothing no_log 3 ≡ 1
nothing-variables = refl
