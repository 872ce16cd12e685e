-- Where a command stops by what the shelf holds, as far as that is told.
use Rattle.std.specs.Prelude.{◌≡◌, ℕ, ◌+◌, List, [], ◌∷◌, ◌++◌, length, nat_lt, if◌then◌else◌, Option, Some, None, IfSome, option_and_then}
use Rattle.des_base.specs.Outside.{Took}
use Rattle.des_base.specs.CommandWords.{word_at}
use Rattle.endings.specs.declared.stop.Stop.{Stop}
use Rattle.endings.specs.declared.stop.Stop.TheVariants.{Usage, Faulty, Long}
use Rattle.endings.specs.declared.stop.FaultyText.{FaultyText}
use Rattle.endings.specs.Endings.{status_of_stop, texts_of_stop}
use Rattle.endings.specs.Texts.{FileKind, limit_of, fault_of_text}
use Rattle.diagnose_cli.specs.Commands.{command_of}
use Rattle.diagnose_cli.specs.Tasks.{Called, Calls, NoCommand}
use Rattle.diagnose_cli.specs.Due.{halts}
use Rattle.diagnose_cli.specs.Outcomes.{Outcome}

-- the fault of a text, or what comes after it
abbrev pub past : Option FaultyText → Option Stop → Option Stop
past (Some text) rest = Some (Faulty text)
past None rest = rest

-- the first file from number i on that is too long or has a fault; where none is, why the command stops after them
abbrev pub first_stop : (List ℕ → Option (List ℕ)) → List (List ℕ) → ℕ → List FileKind → List (List ℕ) → (List (List ℕ) → Option Stop) → Option Stop
first_stop held words i [] files after = after files
first_stop held words i (kind ∷ kinds) files after =
    option_and_then
    (λ bytes. if nat_lt (limit_of kind) (length bytes) then Some (Long i)
    else past (fault_of_text kind files bytes) (first_stop held words (i + 1) kinds (files ++ bytes ∷ []) after))
    (held (word_at words i))

-- where the words stop: at once if they call no command
abbrev pub stop_of_command : (List ℕ → Option (List ℕ)) → List (List ℕ) → Called → Option Stop
stop_of_command held words NoCommand = Some Usage
stop_of_command held words (Calls t) = first_stop held words 1 t.files [] (halts t words)

-- the words and the files give the one status and the one text of a stop
abbrev pub StopRow : Outcome → Type 0
StopRow o = IfSome (stop_of_command o.loads.held o.words (command_of o.words)) (λ stop. (o.status ≡ status_of_stop stop) × Took o.before o.now (texts_of_stop stop))
