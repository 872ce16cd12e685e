-- What the program does, by what the words and the shelf tell.
use Rattle.std.specs.Prelude.{◌≡◌, ◌≢◌, ℕ, ◌<◌, ◌≤◌, List, [], ◌∷◌, codes, length, None, Some}
use Rattle.des_base.specs.CommandWords.{word_at}
use Rattle.des_base.specs.Outside.{Output, Rose, Took}
use Rattle.model_text.specs.declared.fault.ModelFault.{ModelFault}
use Rattle.model_text.specs.ModelFaults.{first_model_fault, network_of}
use Rattle.endings.specs.declared.ending.Kind.{Kind}
use Rattle.endings.specs.Files.{Loads}
use Rattle.endings.specs.Texts.{limit_of, model}
use Rattle.telling.specs.Lines.{line_with_number, line_with_two_numbers}
use Rattle.refine_cli.specs.Due.{IsCall, SaysRefined}

-- what is seen of a run from outside: the words, what the shelf holds and its counts of faults, what the sink told before and tells now, and the status
pub record Outcome : Type 0 where
  pub loads : Loads
  pub words : List (List ℕ)
  pub before : Output
  pub now : Output
  pub status : ℕ

-- an outcome of these parts, in the order of its fields
abbrev pub outcome : Loads → List (List ℕ) → Output → Output → ℕ → Outcome
outcome loads words before now status = record { loads = loads; words = words; before = before; now = now; status = status }

-- memory didn't run out, and the output could be written
pub record IsPut (status : ℕ) : Type 0 where
  pub written : status ≢ 4
  pub memory : status ≢ 9

-- nor could the model not be loaded
pub record IsUnbroken (status : ℕ) : Type 0 where
  pub loaded : status ≢ 3
  pub put : IsPut status

-- the words name a model, of which the shelf tells these bytes
pub record CallsOver (o : Outcome) (text : List ℕ) : Type 0 where
  pub called : IsCall o.words
  pub told : o.loads.held (word_at o.words 1) ≡ Some text

-- this is the status, and this text was put by one put
pub record Shows (o : Outcome) (status : ℕ) (text : List ℕ) : Type 0 where
  pub shown : o.status ≡ status
  pub put : Took o.before o.now (text ∷ [])

-- the status is 0, and what was put by one put is the text of a network that refines that of the model
pub record ShowsRefined (o : Outcome) (text : List ℕ) : Type 0 where
  pub reply : Kind × List ℕ
  pub says : SaysRefined (network_of text) reply
  pub shows : Shows o 0 reply.1

-- where the model's text isn't too long and has no fault
abbrev pub RefinedRow : Outcome → Type 0
RefinedRow o = (text : List ℕ) → CallsOver o text → length text ≤ limit_of model → first_model_fault text ≡ None → IsUnbroken o.status → ShowsRefined o text

-- where it has a fault, or is too long, and where the words name no model
pub record StopRows (o : Outcome) : Type 0 where
  pub faulty : (text : List ℕ) (fault : ModelFault) → CallsOver o text → length text ≤ limit_of model → first_model_fault text ≡ Some fault → IsUnbroken o.status → Shows o 5 (line_with_two_numbers (codes "MODEL ") fault.line fault.code)
  pub long : (text : List ℕ) → CallsOver o text → limit_of model < length text → IsUnbroken o.status → Shows o 8 (line_with_number (codes "LONG ") 1)
  pub usage : length o.words ≢ 2 → IsPut o.status → Shows o 2 (codes "USAGE\n")

-- the load of the model failed, and `LOAD 1` was put
pub record FailsToLoad (o : Outcome) : Type 0 where
  pub called : IsCall o.words
  pub rose : Rose (o.loads.before (word_at o.words 1)) (o.loads.after (word_at o.words 1))
  pub put : Took o.before o.now (line_with_number (codes "LOAD ") 1 ∷ [])

-- with status 3
abbrev pub LoadRow : Outcome → Type 0
LoadRow o = o.status ≡ 3 → FailsToLoad o
