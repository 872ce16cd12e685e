-- The status of an ending, and its texts.
use Rattle.std.specs.Prelude.{◌≡◌, ℕ, List, [], ◌∷◌, codes, Ok, Err}
use Rattle.endings.specs.declared.stop.Stop.{Stop}
use Rattle.endings.specs.declared.stop.Stop.TheVariants.{Usage, Load, Faulty, Long, NoFault, Large, Memory}
use Rattle.endings.specs.declared.stop.FaultyText.{FaultyText}
use Rattle.endings.specs.declared.stop.FaultyText.TheVariants.{Model, Log, Run, Cnf, Lrat, Cost}
use Rattle.endings.specs.declared.ending.Kind.{Kind}
use Rattle.endings.specs.declared.ending.Kind.TheVariants.{Done, Rejected, Absent, Undecided, Many, Nothing, Ambiguous}
use Rattle.telling.specs.Lines.{line_with_number, line_with_two_numbers}
use Rattle.endings.specs.Transcripts.{End, said, cut, broken, Ending}

-- the status of a reply, by its kind
abbrev pub status_of_kind : Kind → ℕ
status_of_kind Done = 0
status_of_kind Rejected = 13
status_of_kind Absent = 10
status_of_kind Undecided = 11
status_of_kind Many = 12
status_of_kind Nothing = 14
status_of_kind Ambiguous = 17

-- the status where a text has a fault, by what it is a text of; a script counts as a log
abbrev pub status_of_faulty : FaultyText → ℕ
status_of_faulty (Model fault) = 5
status_of_faulty (Log fault) = 6
status_of_faulty (Run fault) = 7
status_of_faulty (Cnf fault) = 7
status_of_faulty (Lrat fault) = 7
status_of_faulty (Cost fault) = 15

-- the status of a stop
abbrev pub status_of_stop : Stop → ℕ
status_of_stop Usage = 2
status_of_stop (Load file) = 3
status_of_stop (Faulty text) = status_of_faulty text
status_of_stop (Long file) = 8
status_of_stop NoFault = 16
status_of_stop (Large size) = 8
status_of_stop Memory = 9

-- the status of a command that says something, by how it ends
abbrev pub status_of_end : End → ℕ
status_of_end (said kind) = status_of_kind kind
status_of_end cut = 4
status_of_end broken = 9

-- the status of an ending
abbrev pub HasStatus : Ending → ℕ → Type 0
HasStatus (Ok told) status = status ≡ status_of_end told.end
HasStatus (Err stop) status = status ≡ status_of_stop stop

-- the first fault of a text: what it is a text of, the line or the row, and the code of the fault
abbrev pub text_of_faulty : FaultyText → List ℕ
text_of_faulty (Model fault) = line_with_two_numbers (codes "MODEL ") fault.line fault.code
text_of_faulty (Log fault) = line_with_two_numbers (codes "LOG ") fault.row fault.code
text_of_faulty (Run fault) = line_with_two_numbers (codes "RUN ") fault.line fault.code
text_of_faulty (Cnf fault) = line_with_two_numbers (codes "CNF ") fault.line fault.code
text_of_faulty (Lrat fault) = line_with_two_numbers (codes "LRAT ") fault.line fault.code
text_of_faulty (Cost fault) = line_with_two_numbers (codes "COST ") fault.line fault.code

-- the text of a stop, on one line; it is empty if memory ran out
abbrev pub text_of_stop : Stop → List ℕ
text_of_stop Usage = codes "USAGE\n"
text_of_stop (Load file) = line_with_number (codes "LOAD ") file
text_of_stop (Faulty text) = text_of_faulty text
text_of_stop (Long file) = line_with_number (codes "LONG ") file
text_of_stop NoFault = codes "NOFAULT\n"
text_of_stop (Large size) = line_with_number (codes "LARGE ") size
text_of_stop Memory = []

-- the texts of a stop: its one text, and none if memory runs out
abbrev pub texts_of_stop : Stop → List (List ℕ)
texts_of_stop Memory = []
texts_of_stop stop = text_of_stop stop ∷ []

-- the texts of an ending, in the order in which they are put, each by a put of its own
abbrev pub ending_texts : Ending → List (List ℕ)
ending_texts (Ok told) = told.texts
ending_texts (Err stop) = texts_of_stop stop
