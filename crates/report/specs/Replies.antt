-- The texts of replies. Each line ends with a line feed.
use Rattle.std.specs.Prelude.{⊤, ℕ, ◌<◌, All, IfSome, List, [], ◌∷◌, ◌++◌, length, codes, decimal, flat_map, Option, Some, None, slice_index_or}
use Rattle.des_net.specs.Network.{Net}
use Rattle.answers.specs.declared.cheap.Cheap.{Cheap}
use Rattle.answers.specs.declared.cheap.Cheap.TheVariants.{Found as Cheapest, Absent as NotPriced, Dear, Undecided as NotWeighed}
use Rattle.answers.specs.declared.cheap.Priced.{Priced}
use Rattle.answers.specs.declared.found.Best.{Best}
use Rattle.answers.specs.declared.found.Found.{Found}
use Rattle.answers.specs.declared.found.Found.TheVariants.{Explained, Absent, Many, Undecided}
use Rattle.proof_ledger.specs.declared.checker.Checked.{Checked}
use Rattle.proof_ledger.specs.declared.checker.Checked.TheVariants.{Verified, Rejected}
use Rattle.replay.specs.declared.replaying.Replayed.{Replayed}
use Rattle.replay.specs.declared.replaying.Replayed.TheVariants.{Accepted, Stuck as AtEvent, BadAlarm, Missing, Order, TooWide}
use Rattle.replay.specs.declared.run.RunStep.{RunStep}
use Rattle.replay.specs.declared.run.RunStep.TheVariants.{Happens, Dropped}
use Rattle.replay.specs.Traced.{word_of}
use Rattle.replay.specs.declared.tracing.Traced.{Traced}
use Rattle.replay.specs.declared.tracing.Traced.TheVariants.{Ran, Stuck}
use Rattle.telling.specs.Lines.{line_with_number, line_with_two_numbers}
use Rattle.answers.specs.declared.twin.Twin.{Twin}
use Rattle.answers.specs.declared.twin.Twin.TheVariants.{Ambiguous, Clear, Undecided as NotTested}

-- ---- lines

-- words, a name and the end of the line
abbrev pub named : List ℕ → List ℕ → List ℕ
named words name = words ++ name ++ 10 ∷ []

-- words, two names and the end of the line
abbrev pub paired : List ℕ → List ℕ → List ℕ → List ℕ
paired words first second = words ++ first ++ 32 ∷ second ++ 10 ∷ []

-- ---- answers of one line

-- the number of faults of the run, or the place of the first event that the network can't perform
abbrev pub text_of_traced : Traced → List ℕ
text_of_traced (Ran faults) = line_with_number (codes "RAN ") faults
text_of_traced (Stuck at) = line_with_number (codes "REJECTED STUCK ") at

-- alarms are printed by their names
abbrev pub text_of_replayed : List (List ℕ) → Replayed → List ℕ
text_of_replayed names (Accepted faults) = line_with_number (codes "ACCEPTED ") faults
text_of_replayed names (AtEvent at) = line_with_number (codes "REJECTED STUCK ") at
text_of_replayed names (BadAlarm at) = line_with_number (codes "REJECTED ALARM ") at
text_of_replayed names (Missing alarm) = named (codes "REJECTED MISSING ") (slice_index_or names alarm [])
text_of_replayed names (Order first second) = paired (codes "REJECTED ORDER ") (slice_index_or names first []) (slice_index_or names second [])
text_of_replayed names (TooWide pieces) = line_with_number (codes "REJECTED WIDE ") pieces

-- that the proof is verified, or the line and the kind of its first fault
abbrev pub text_of_checked : Checked → List ℕ
text_of_checked Verified = codes "VERIFIED\n"
text_of_checked (Rejected line kind) = line_with_two_numbers (codes "REJECTED ") line kind

-- by the number of the refusal
abbrev pub text_of_refused : ℕ → List ℕ
text_of_refused number = line_with_number (codes "REFUSED ") number

-- ---- runs

-- a space and the name of an alarm, if there is one
abbrev pub text_of_alarm : Option (List ℕ) → List ℕ
text_of_alarm (Some name) = 32 ∷ name
text_of_alarm None = []

-- the name of the event, and of the alarm where it has one; or a mark and the name of a false alarm
abbrev pub text_of_step : Net → RunStep → List ℕ
text_of_step net (Happens event alarm) = slice_index_or net.event_names event [] ++ text_of_alarm alarm ++ 10 ∷ []
text_of_step net (Dropped alarm) = named (codes "! ") alarm

-- the number of the steps, and then a line for each
abbrev pub text_of_run : Net → List RunStep → List ℕ
text_of_run net steps = line_with_number (codes "run ") (length steps) ++ flat_map (text_of_step net) steps

-- ---- what was found of the least number of faults

-- the faults that are needed, those of the run that is known, and the run
abbrev pub text_of_bounds : Net → ℕ → Option Best → List ℕ
text_of_bounds net lo (Some best) = line_with_two_numbers (codes "UNDECIDED ") lo best.faults ++ text_of_run net best.run
text_of_bounds net lo None = codes "UNDECIDED " ++ decimal lo ++ codes " -\n"

-- by the number of steps within which it was asked
abbrev pub text_of_found : Net → ℕ → Found → List ℕ
text_of_found net n (Explained best) = line_with_number (codes "EXPLAINED ") best.faults ++ text_of_run net best.run
text_of_found net n Absent = line_with_number (codes "NONE ") n
text_of_found net n (Many best) = codes "MANY 255\n" ++ text_of_run net best.run
text_of_found net n (Undecided lo best) = text_of_bounds net lo best

-- the events of the run that is printed, if one is, are the network's
abbrev pub EventsKnown : Net → Found → Type 0
EventsKnown net (Explained best) = All (λ e. e < length net.events) (word_of best.run)
EventsKnown net Absent = ⊤
EventsKnown net (Many best) = All (λ e. e < length net.events) (word_of best.run)
EventsKnown net (Undecided lo best) = IfSome best (λ known. All (λ e. e < length net.events) (word_of known.run))

-- the run that is printed, if one is
abbrev pub told_run : Found → Option Best
told_run (Explained best) = Some best
told_run Absent = None
told_run (Many best) = Some best
told_run (Undecided lo best) = best

-- ---- what a twin test came to

-- both runs, each behind a line that says which it is
abbrev pub text_of_both : Net → List RunStep → List RunStep → List ℕ
text_of_both net faulty healthy = (codes "faulty\n" ++ text_of_run net faulty) ++ (codes "healthy\n" ++ text_of_run net healthy)

-- by the number of steps within which it was asked: both runs, or that there are none
abbrev pub text_of_twin : Net → ℕ → Twin → List ℕ
text_of_twin net n (Ambiguous faulty healthy) = line_with_number (codes "AMBIGUOUS ") n ++ text_of_both net faulty healthy
text_of_twin net n Clear = line_with_number (codes "CLEAR ") n
text_of_twin net n NotTested = codes "UNDECIDED\n"

-- the events of the runs that are printed, if they are, are the network's
abbrev pub TwinEventsKnown : Net → Twin → Type 0
TwinEventsKnown net (Ambiguous faulty healthy) = All (λ e. e < length net.events) (word_of faulty) × All (λ e. e < length net.events) (word_of healthy)
TwinEventsKnown net Clear = ⊤
TwinEventsKnown net NotTested = ⊤

-- ---- what was found of the least total cost

-- the total below which nothing explains, that of the run that is known, and the run
abbrev pub text_of_totals : Net → ℕ → Option Priced → List ℕ
text_of_totals net lo (Some priced) = line_with_two_numbers (codes "UNDECIDED ") lo priced.cost ++ text_of_run net priced.run
text_of_totals net lo None = codes "UNDECIDED " ++ decimal lo ++ codes " -\n"

-- by the number of steps within which it was asked
abbrev pub text_of_cheap : Net → ℕ → Cheap → List ℕ
text_of_cheap net n (Cheapest priced) = line_with_number (codes "CHEAPEST ") priced.cost ++ text_of_run net priced.run
text_of_cheap net n NotPriced = line_with_number (codes "NONE ") n
text_of_cheap net n (Dear run) = codes "DEAR 1000\n" ++ text_of_run net run
text_of_cheap net n (NotWeighed lo best) = text_of_totals net lo best

-- the run that is printed, if one is
abbrev pub cheap_run : Cheap → Option (List RunStep)
cheap_run (Cheapest priced) = Some priced.run
cheap_run NotPriced = None
cheap_run (Dear run) = Some run
cheap_run (NotWeighed lo None) = None
cheap_run (NotWeighed lo (Some priced)) = Some priced.run

-- the events of the run that is printed, if one is, are the network's
abbrev pub CheapEventsKnown : Net → Cheap → Type 0
CheapEventsKnown net (Cheapest priced) = All (λ e. e < length net.events) (word_of priced.run)
CheapEventsKnown net NotPriced = ⊤
CheapEventsKnown net (Dear run) = All (λ e. e < length net.events) (word_of run)
CheapEventsKnown net (NotWeighed lo best) = IfSome best (λ priced. All (λ e. e < length net.events) (word_of priced.run))
