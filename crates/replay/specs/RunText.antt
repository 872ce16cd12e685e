-- The text of a run: its steps, and its first fault.
use Rattle.std.specs.Prelude.{◌≡◌, ⊤, ℕ, ◌-◌, Bool, false, not, ◌||◌, List, [], ◌∷◌, filter_map, length, option_map, Option, Some, None, bytes_eq, codes, if◌then◌else◌, nat_le, nat_lt, is_none}
use Rattle.std.specs.List.{list_all}
use Rattle.std.specs.Option.{option_or}
use Rattle.des_base.specs.Names.{is_name_text, place_of}
use Rattle.des_base.specs.Numbers.{number_up_to}
use Rattle.des_base.specs.CountedLines.{NumberedLine, counted_lines, tokens_of, last_line}
use Rattle.des_net.specs.Network.{Net}
use Rattle.replay.specs.declared.run.RunStep.{RunStep}
use Rattle.replay.specs.declared.run.RunStep.TheVariants.{Happens, Dropped}
use Rattle.replay.specs.declared.run_text.RunFault.{RunFault}
use Rattle.replay.specs.declared.run_text.RunRefusal.{RunRefusal}
use Rattle.replay.specs.declared.run_text.RunRefusal.TheVariants.{Fault, Memory}
use Rattle.replay.specs.declared.TheConstants.{MOST_RUN_STEPS}

-- the first word of a printed reply that has a run
abbrev pub is_reply_word : List ℕ → Bool
is_reply_word word = bytes_eq word (codes "EXPLAINED") || bytes_eq word (codes "MANY") || bytes_eq word (codes "UNDECIDED")

-- the tokens are those of a printed reply's first line, as their first word shows
abbrev pub is_reply_line : List (List ℕ) → Bool
is_reply_line [] = false
is_reply_line (word ∷ words) = is_reply_word word

-- A printed reply is a run text as it stands, so its first line is skipped.
abbrev pub after_reply_line : List NumberedLine → List NumberedLine
after_reply_line [] = []
after_reply_line (line ∷ lines) = if is_reply_line (tokens_of line.text) then lines else line ∷ lines

-- the number of steps that a header `run T` states
abbrev pub stated_length : List (List ℕ) → Option ℕ
stated_length [] = None
stated_length (word ∷ []) = None
stated_length (word ∷ count ∷ []) = if bytes_eq word (codes "run") then number_up_to MOST_RUN_STEPS count else None
stated_length (word ∷ count ∷ more ∷ words) = None

-- with this word the line of a false alarm begins; it is no name
abbrev pub is_false_alarm_mark : List ℕ → Bool
is_false_alarm_mark word = bytes_eq word (codes "!")

-- the words of a step's line: its event or the mark of a false alarm, and the name of an alarm where there is one, as after the mark
abbrev pub step_words : List (List ℕ) → Option (List ℕ × Option (List ℕ))
step_words [] = None
step_words (event ∷ []) = if is_false_alarm_mark event then None else Some (event, None)
step_words (event ∷ alarm ∷ []) = Some (event, Some alarm)
step_words (event ∷ alarm ∷ more ∷ words) = None

-- those of them that must be names
abbrev pub names_in : List (List ℕ) → List (List ℕ)
names_in [] = []
names_in (event ∷ words) = if is_false_alarm_mark event then words else event ∷ words

-- the event is the network's
abbrev pub knows_event : Net → List (List ℕ) → Bool
knows_event net [] = false
knows_event net (event ∷ words) = is_false_alarm_mark event || not (is_none (place_of event net.event_names))

-- The first code of a step's line, where `left` lines may still come. A counted line has a word, so code 2 is for more than two, or for the mark alone.
abbrev pub step_code : Net → ℕ → List (List ℕ) → Option ℕ
step_code net left words =
    if nat_le left 0 then Some 4
    else if is_none (step_words words) then Some 2
    else if not (list_all is_name_text (names_in words)) then Some 3
    else if not (knows_event net words) then Some 5
    else None

-- a fault of the line of this number, if it has a code
abbrev pub run_fault_at : ℕ → Option ℕ → Option RunFault
run_fault_at number code = option_map (λ k. record { line = number; code = k }) code

-- the first fault of the lines after the header, where `left` may still come
abbrev pub first_fault_in : Net → ℕ → List NumberedLine → Option RunFault
first_fault_in net left [] = None
first_fault_in net left (line ∷ lines) = option_or (run_fault_at line.number (step_code net left (tokens_of line.text))) (first_fault_in net (left - 1) lines)

-- A shortage of lines is found only where all lines are well. It is a fault of the text's end.
abbrev pub shortage : ℕ → ℕ → ℕ → Option RunFault
shortage end stated found = if nat_lt found stated then Some (record { line = end; code = 4 }) else None

-- the first fault of a text whose header stands on line `number` and states this number of steps, if any; line `end` is its last
abbrev pub fault_of_steps : Net → ℕ → ℕ → Option ℕ → List NumberedLine → Option RunFault
fault_of_steps net end number None steps = Some (record { line = number; code = 1 })
fault_of_steps net end number (Some stated) steps = option_or (first_fault_in net stated steps) (shortage end stated (length steps))

-- the first fault of the lines from the header on
abbrev pub run_fault_of_lines : Net → ℕ → List NumberedLine → Option RunFault
run_fault_of_lines net end [] = Some (record { line = end; code = 1 })
run_fault_of_lines net end (header ∷ steps) = fault_of_steps net end header.number (stated_length (tokens_of header.text)) steps

-- comments in runs begin with `#`
abbrev pub first_run_fault : Net → List ℕ → Option RunFault
first_run_fault net bytes = run_fault_of_lines net (last_line bytes) (after_reply_line (counted_lines 35 bytes))

-- the step that a line says, where its event is known
abbrev pub step_of : Net → List (List ℕ) → Option RunStep
step_of net [] = None
step_of net (event ∷ []) = option_map (λ e. Happens e None) (place_of event net.event_names)
step_of net (event ∷ alarm ∷ words) = if is_false_alarm_mark event then Some (Dropped alarm) else option_map (λ e. Happens e (Some alarm)) (place_of event net.event_names)

-- the steps that the lines say; a line whose event isn't known says none
abbrev pub steps_of : Net → List NumberedLine → List RunStep
steps_of net lines = filter_map (λ line. step_of net (tokens_of line.text)) lines

-- the lines after the header
abbrev pub after_header : List NumberedLine → List NumberedLine
after_header [] = []
after_header (header ∷ steps) = steps

-- the run of a text without a fault
abbrev pub run_of : Net → List ℕ → List RunStep
run_of net bytes = steps_of net (after_header (after_reply_line (counted_lines 35 bytes)))

-- A refusal for a fault has this one.
abbrev pub TellsFault : Option RunFault → RunRefusal → Type 0
TellsFault fault (Fault told) = fault ≡ Some told
TellsFault fault Memory = ⊤
