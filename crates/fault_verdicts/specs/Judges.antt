-- Fault events that are judged one after another, over one book and beside one best run that is known.
use Rattle.std.specs.Prelude.{◌≡◌, ◌⊎◌, ◌↔◌, ℕ, ◌≤◌, List, [], ◌∷◌, ◌++◌, Contains}
use Rattle.std.specs.List.{AllByRecursion}
use Rattle.des_base.specs.declared.TheConstants.{MOST_STEPS}
use Rattle.des_net.specs.Network.{Net}
use Rattle.fault_verdicts.specs.Judged.{IsBestRun, IsJudged, IsVerdictOpenAtMost, IsPossibleFound}
use Rattle.fault_verdicts.specs.Judging.{KeepsStepsAndLog}
use Rattle.fault_verdicts.specs.Ready.{AreReadyForVerdicts}
use Rattle.answers.specs.declared.verdict.Verdict.{Verdict}
use Rattle.answers.specs.declared.verdict.Verdict.TheVariants.{Possible}
use Rattle.fault_verdicts.specs.declared.kept.Carried.{Carried}
use Rattle.least_faults.specs.Parts.{BelongTo}
use Rattle.answers.specs.declared.found.Best.{Best}
use Rattle.least_faults.specs.declared.parts.Parts.{Parts}
use Rattle.log_order.specs.Log.{Log}
use Rattle.proof_ledger.specs.Book.{BookEntry}
use Rattle.replay.specs.Traced.{word_of}
use Rattle.replay.specs.declared.run.RunStep.{RunStep}
use Rattle.replay.specs.declared.TheConstants.{MOST_FAULTS}

-- What is judged: the best explanations of a log within a number of steps, beside one that is known. Each question may learn as many clauses as the budget says.
pub record Matter : Type 0 where
  pub net : Net
  pub log : Log
  pub steps : ℕ
  pub best : Best
  pub budget : ℕ

-- ---- one event

-- The event was judged by a question with the whole budget.
abbrev pub IsAskedOf : Matter → ℕ → List BookEntry → List BookEntry → Verdict → Type 0
IsAskedOf m e old new verdict = IsJudged m.net m.log m.steps m.best.faults e m.budget m.best.run old new verdict

-- A best run that was found for an earlier event differs from the known one in this event too, which shows that it is possible. Nothing was asked, and the book stays.
pub record IsShown (m : Matter) (e : ℕ) (old new : List BookEntry) (verdict : Verdict) : Type 0 where
  pub run : List RunStep
  pub verdict_is : verdict ≡ Possible run
  pub found : IsPossibleFound m.net m.log m.steps m.best.faults e m.best.run run
  pub same : new ≡ old

-- The event was judged, from the one book to the other: by a question, or by a run that was found before.
abbrev pub IsEventJudged : Matter → ℕ → List BookEntry → List BookEntry → Verdict → Type 0
IsEventJudged m e old new verdict = IsAskedOf m e old new verdict ⊎ IsShown m e old new verdict

-- Out of memory the event may be without a verdict: a question about it is open at most, or it was answered and the verdict couldn't be kept.
abbrev pub IsLeftUnjudged : Matter → ℕ → List BookEntry → List BookEntry → Type 0
IsLeftUnjudged m e old new = IsVerdictOpenAtMost m.net m.log m.steps m.best.faults e m.budget m.best.run old new ⊎ ((verdict : Verdict) × IsAskedOf m e old new verdict)

-- ---- one after another

-- These events were judged one after another, each over the book that the one before it left, and these are their verdicts.
abbrev pub AreJudged : Matter → List ℕ → List BookEntry → List BookEntry → List Verdict → Type 0
AreJudged m [] old new [] = new ≡ old
AreJudged m (e ∷ events) old new (verdict ∷ verdicts) = (mid : List BookEntry) × IsEventJudged m e old mid verdict × AreJudged m events mid new verdicts
AreJudged m [] old new (verdict ∷ verdicts) = ⊥
AreJudged m (e ∷ events) old new [] = ⊥

-- ---- how far judging has come

-- what is judged, the parts of its question, and the book
pub record JudgeState (R : Type 0) : Type 0 where
  pub matter : Matter
  pub parts : Parts R
  pub book : List BookEntry

-- The same matter is judged, and beside further columns at most one variable was made.
pub record KeepsMatter {R : Type 0} (old new : JudgeState R) : Type 0 where
  pub matter : new.matter ≡ old.matter
  pub goes_on : KeepsStepsAndLog 1 old.parts new.parts

-- what is judged, within the steps of the parts that are kept
abbrev pub matter_of : {R : Type 0} → Net → Log → Best → ℕ → Carried R → Matter
matter_of net log best budget kept = record { net = net; log = log; steps = kept.parts.step.steps; best = best; budget = budget }

-- The parts are those of the question, within as many steps as it may have. The run that is known is best, with at most 255 faults, and so are the others that were found.
pub record IsJudgeOf {R : Type 0} (net : Net) (log : Log) (best : Best) (kept : Carried R) : Type 0 where
  pub belong : BelongTo net log kept.parts
  pub steps : kept.parts.step.steps ≤ MOST_STEPS
  pub few : best.faults ≤ MOST_FAULTS
  pub known : IsBestRun net log kept.parts.step.steps best.faults best.run
  pub others : AllByRecursion (IsBestRun net log kept.parts.step.steps best.faults) kept.others.items

-- This holds, and parts and book are ready for the next question.
pub record IsReadyToJudge {R : Type 0} (may : R → ℕ → Type 0) (gives : R → ℕ → ℕ → Type 0) (net : Net) (log : Log) (best : Best) (kept : Carried R) : Type 0 where
  pub is_of : IsJudgeOf net log best kept
  pub ready : AreReadyForVerdicts may gives kept.parts kept.book.entries

-- ---- the runs that were found

-- the other run has the event exactly if the first hasn't
abbrev pub DiffersIn : ℕ → List RunStep → List RunStep → Type 0
DiffersIn e first other = Contains (word_of other) e ↔ (Contains (word_of first) e → ⊥)

-- these runs stay, and at most that of a verdict comes to them
abbrev pub AddsPossible : Verdict → List (List RunStep) → List (List RunStep) → Type 0
AddsPossible found old new = (new ≡ old) ⊎ ((run : List RunStep) × (found ≡ Possible run) × (new ≡ old ++ run ∷ []))
