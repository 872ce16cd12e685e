-- A printed run reads back as that run, also behind the first line of a reply.
use Rattle.std.specs.Prelude.{◌≡◌, ℕ, ◌<◌, ◌≤◌, List, length, All, None, IfSome}
use Rattle.des_base.specs.Names.{IsName}
use Rattle.des_net.specs.Building.{IsDraft}
use Rattle.des_net.specs.Network.{Net}
use Rattle.replay.specs.Matching.{name_on}
use Rattle.replay.specs.RunText.{first_run_fault, run_of}
use Rattle.replay.specs.Traced.{word_of}
use Rattle.replay.specs.declared.run.RunStep.{RunStep}
use Rattle.answers.specs.declared.found.Found.{Found}
use Rattle.report.specs.Replies.{text_of_run, text_of_found, told_run}
use Rattle.replay.specs.declared.TheConstants.{MOST_RUN_STEPS}

-- the alarms of a run have names
abbrev pub HasAlarmNames : List RunStep → Type 0
HasAlarmNames steps = All (λ step. IfSome (name_on step) IsName) steps

-- a run of the network's events, whose alarms have names, and with no more steps than a run text may have
pub record IsPrintable (net : Net) (steps : List RunStep) : Type 0 where
  pub known : All (λ e. e < length net.events) (word_of steps)
  pub named : HasAlarmNames steps
  pub few : length steps ≤ MOST_RUN_STEPS

-- The text is a run text without a fault, and this is its run.
pub record IsRunText (net : Net) (steps : List RunStep) (text : List ℕ) : Type 0 where
  pub well : first_run_fault net text ≡ None
  pub value : run_of net text ≡ steps

-- Over a network within its limits the text of a printable run is a run text, and reads back as that run.
abbrev pub PrintedRunsReadBack : Type 0
PrintedRunsReadBack = (net : Net) (steps : List RunStep) → IsDraft net → IsPrintable net steps → IsRunText net steps (text_of_run net steps)

-- A reply that has a run is a run text as it stands.
abbrev pub RepliesReadBack : Type 0
RepliesReadBack =
    (net : Net) (n : ℕ) (found : Found) → IsDraft net → IfSome (told_run found) (λ best. IsPrintable net best.run → IsRunText net best.run (text_of_found net n found))

-- A reply that has a run is no longer than a run text may be.
abbrev pub RepliesFit : Type 0
RepliesFit = (net : Net) (n : ℕ) (found : Found) → IsDraft net → IfSome (told_run found) (λ best. IsPrintable net best.run → length (text_of_found net n found) ≤ 536870912)
