-- The runs that are told: that of what was found, and that which a verdict shows.
use Rattle.std.proofs.Common.{◌≡◌, inl, inr, ℕ, List, [], Some, None, sym, ap, subst}
use Rattle.des_net.specs.Network.{Net}
use Rattle.fault_verdicts.specs.Judged.{IsBestRun}
use Rattle.fault_verdicts.specs.Judges.{IsEventJudged, Matter}
use Rattle.answers.specs.declared.verdict.Verdict.{Verdict}
use Rattle.answers.specs.declared.verdict.Verdict.TheVariants.{Certain, Excluded, Possible, Open}
use Rattle.inquiries.specs.Diagnosed.{IsDiagnosed}
use Rattle.least_faults.proofs.KnownEvents.{run_known}
use Rattle.least_faults.specs.Answers.{IsFound}
use Rattle.answers.specs.declared.found.Found.{Found}
use Rattle.answers.specs.declared.found.Found.TheVariants.{Explained, Absent, Many, Undecided}
use Rattle.log_order.specs.Log.{Log}
use Rattle.proof_ledger.specs.Book.{BookEntry}
use Rattle.prop_core.specs.VariableNames.{Meaning}
use Rattle.replay.specs.Traced.{word_of}
use Rattle.replay.specs.declared.run.RunStep.{RunStep}
use Rattle.report.specs.Replies.{EventsKnown}
use Rattle.report.specs.VerdictTexts.{RunKnown}
use Rattle.run_decode.specs.QuestionAxioms.{BuiltQuestion}

-- ---- what was found

pub known : (names : List (ℕ × Meaning)) (first : BuiltQuestion) (since : List BookEntry) (net : Net) (log : Log) (n budget : ℕ) (found : Found) → IsFound names first since net log n budget found → EventsKnown net found
known names first since net log n budget (Explained best) h = run_known net (word_of best.run) h.given.explains.run
known names first since net log n budget Absent h = tt
known names first since net log n budget (Many best) h = run_known net (word_of best.run) h.given.explains.run
known names first since net log n budget (Undecided lo (Some best)) h = run_known net (word_of best.run) h.given.0.explains.run
known names first since net log n budget (Undecided lo None) h = tt

-- the events of a run that was found are the network's
pub found_known : (net : Net) (log : Log) (n budget : ℕ) (book : List BookEntry) (found : Found) → IsDiagnosed net log n budget book found → EventsKnown net found
found_known net log n budget book found h = known h.meanings _ h.answered.left.since net log n budget found h.answered.found

-- ---- a verdict

run_in : Verdict → List RunStep
run_in Certain = []
run_in Excluded = []
run_in (Possible run) = run
run_in Open = []

same_run : (a b : List RunStep) → Possible a ≡ Possible b → b ≡ a
unfolding run_in
same_run a b is = sym (ap run_in is)

-- it is best
pub shown_is_best : (m : Matter) (e : ℕ) (old new : List BookEntry) (run : List RunStep) → IsEventJudged m e old new (Possible run) → IsBestRun m.net m.log m.steps m.best.faults run
shown_is_best m e old new run (inl asked) = asked.found.best
shown_is_best m e old new run (inr shown) = subst (IsBestRun m.net m.log m.steps m.best.faults) (same_run run shown.run shown.verdict_is) shown.found.best

-- and its events are the network's
pub shown_known : (m : Matter) (e : ℕ) (old new : List BookEntry) (verdict : Verdict) → IsEventJudged m e old new verdict → RunKnown m.net verdict
shown_known m e old new Certain judged = tt
shown_known m e old new Excluded judged = tt
shown_known m e old new (Possible run) judged = let is = shown_is_best m e old new run judged in run_known m.net (word_of run) is.best.explains.run
shown_known m e old new Open judged = tt
