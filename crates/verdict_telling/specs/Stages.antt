-- How the verdict on each event is told, from one stage of a judge to the next.
use Rattle.std.specs.Prelude.{◌≡◌, ◌⊎◌, ◌<◌, ◌||◌, ℕ, Bool, true, List, length, Option, None, Some, Result, Ok, Err}
use Rattle.des_base.specs.Outside.{Output}
use Rattle.des_net.specs.Network.{is_fault}
use Rattle.fault_verdicts.specs.Judges.{IsEventJudged, IsLeftUnjudged}
use Rattle.answers.specs.declared.verdict.Verdict.{Verdict}
use Rattle.least_faults.specs.Growing.{HasGrownWithin}
use Rattle.report.specs.VerdictTexts.{text_of_verdict}
use Rattle.telling.specs.declared.each.Broken.{Broken}
use Rattle.verdict_telling.specs.Replied.{TellsVerdicts, is_undecided}
use Rattle.verdict_telling.specs.declared.teller.VerdictTeller.{VerdictTeller}

-- The event was judged, and this is the text. It is kept whether some event was left open.
pub record IsToldOf {R : Type 0} (s : VerdictTeller R) (e : ℕ) (t : VerdictTeller R) (text : Option (List ℕ)) : Type 0 where
  pub verdict : Verdict
  pub judged : IsEventJudged s.judge.matter e s.judge.book t.judge.book verdict
  pub stays : t.judge.matter ≡ s.judge.matter
  pub left : t.open_left ≡ s.open_left || is_undecided verdict
  pub is : text ≡ Some (text_of_verdict s.judge.matter.net e verdict)

-- An event that is no fault has no text, and nothing is asked.
pub record IsPassedOver {R : Type 0} (s : VerdictTeller R) (e : ℕ) (t : VerdictTeller R) (text : Option (List ℕ)) : Type 0 where
  pub no_fault : e < length s.judge.matter.net.events → is_fault s.judge.matter.net e ≡ true → ⊥
  pub same : t ≡ s
  pub none : text ≡ None

-- what is told of an event
abbrev pub TellsOf : {R : Type 0} → VerdictTeller R → ℕ → VerdictTeller R → Option (List ℕ) → Type 0
TellsOf s e t text = IsToldOf s e t text ⊎ IsPassedOver s e t text

-- It ran out of memory. The same is judged, and the book has at most what a question about the event put.
pub record IsNotTold {R : Type 0} (s : VerdictTeller R) (e : ℕ) (t : VerdictTeller R) : Type 0 where
  pub stays : t.judge.matter ≡ s.judge.matter
  pub grown : HasGrownWithin s.judge.matter.budget s.judge.book t.judge.book
  pub unjudged : IsLeftUnjudged s.judge.matter e s.judge.book t.judge.book

-- it is told whether some event was left open, where all were told
abbrev pub HasTold : Result (Unit {0}) Broken → Bool → Result Bool Broken → Type 0
HasTold (Ok done) open_left result = result ≡ Ok open_left
HasTold (Err broken) open_left result = result ≡ Err broken

-- from stage to stage all fault events were told of, or those that it came to
abbrev pub TellsOfAll : {R : Type 0} → VerdictTeller R → VerdictTeller R → Output → Output → Type 0 → Result (Unit {0}) Broken → Type 0
TellsOfAll s t before now rose told = (result : Result Bool Broken) → HasTold told t.open_left result → TellsVerdicts s.judge.matter s.judge.book t.judge.book before now rose result
