-- Texts of worked answers.
use Rattle.std.proofs.Common.{◌≡◌, List, [], ◌∷◌, Some, None, refl}
use Rattle.std.specs.Prelude.{codes}
use Rattle.std.specs.Fmt.{digits}
use Rattle.des_net.specs.Models.{pump}
use Rattle.answers.specs.declared.verdict.Verdict.TheVariants.{Certain, Excluded, Possible, Open}
use Rattle.answers.specs.declared.found.Found.TheVariants.{Explained, Absent, Many, Undecided}
use Rattle.proof_ledger.specs.declared.checker.Checked.TheVariants.{Rejected}
use Rattle.replay.specs.declared.run.RunStep.{RunStep}
use Rattle.replay.specs.declared.run.RunStep.TheVariants.{Happens, Dropped}
use Rattle.replay.specs.declared.replaying.Replayed.TheVariants.{Missing, Order}
use Rattle.replay.specs.declared.tracing.Traced.TheVariants.{Stuck}
use Rattle.report.specs.Replies.{text_of_traced, text_of_replayed, text_of_checked, text_of_refused, text_of_run, text_of_found}
use Rattle.report.specs.VerdictTexts.{text_of_verdict}

pub third_event_stuck : text_of_traced (Stuck 3) ≡ codes "REJECTED STUCK 3\n"
unfolding digits
third_event_stuck = refl

pub second_alarm_missing : text_of_replayed (codes "a" ∷ codes "b" ∷ []) (Missing 1) ≡ codes "REJECTED MISSING b\n"
second_alarm_missing = refl

pub alarms_turned : text_of_replayed (codes "a" ∷ codes "b" ∷ []) (Order 1 0) ≡ codes "REJECTED ORDER b a\n"
alarms_turned = refl

pub no_empty_clause : text_of_checked (Rejected 0 4) ≡ codes "REJECTED 0 4\n"
unfolding digits
no_empty_clause = refl

pub cycle_refused : text_of_refused 3 ≡ codes "REFUSED 3\n"
unfolding digits
cycle_refused = refl

pub nothing_happened : text_of_run pump [] ≡ codes "run 0\n"
unfolding digits
nothing_happened = refl

pub jammed_and_tripped : text_of_run pump (Happens 0 None ∷ Happens 1 (Some (codes "x1")) ∷ []) ≡ codes "run 2\njam\ntrip x1\n"
unfolding digits
jammed_and_tripped = refl

pub one_false_alarm : text_of_run pump (Dropped (codes "a1") ∷ Happens 0 None ∷ []) ≡ codes "run 2\n! a1\njam\n"
unfolding digits
one_false_alarm = refl

-- it jams
abbrev jammed : List RunStep
jammed = Happens 0 None ∷ []

pub one_fault : text_of_found pump 2 (Explained (record { faults = 1; run = jammed })) ≡ codes "EXPLAINED 1\nrun 1\njam\n"
unfolding digits
one_fault = refl

pub none_within_two : text_of_found pump 2 Absent ≡ codes "NONE 2\n"
unfolding digits
none_within_two = refl

pub too_many : text_of_found pump 2 (Many (record { faults = 256; run = jammed })) ≡ codes "MANY 255\nrun 1\njam\n"
unfolding digits
too_many = refl

pub between_two_and_four : text_of_found pump 2 (Undecided 2 (Some (record { faults = 4; run = jammed }))) ≡ codes "UNDECIDED 2 4\nrun 1\njam\n"
unfolding digits
between_two_and_four = refl

pub nothing_known : text_of_found pump 2 (Undecided 0 None) ≡ codes "UNDECIDED 0 -\n"
unfolding digits
nothing_known = refl

pub certainly_jammed : text_of_verdict pump 0 Certain ≡ codes "CERTAIN jam\n"
certainly_jammed = refl

pub surely_not_jammed : text_of_verdict pump 0 Excluded ≡ codes "EXCLUDED jam\n"
surely_not_jammed = refl

pub perhaps_jammed : text_of_verdict pump 0 (Possible jammed) ≡ codes "POSSIBLE jam\nrun 1\njam\n"
unfolding digits
perhaps_jammed = refl

pub jam_left_open : text_of_verdict pump 0 Open ≡ codes "OPEN jam\n"
jam_left_open = refl
