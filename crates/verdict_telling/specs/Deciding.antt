-- With a budget of at least as many clauses as there are sets of literals over the variables of the book, no variable twice, nothing is left open.
use Rattle.std.specs.Prelude.{◌≡◌, ◌<◌, ◌^◌, ℕ, Bool, true, false, List, length, Contains}
use Rattle.des_net.specs.Network.{Net}
use Rattle.answers.specs.declared.verdict.Verdict.{Verdict}
use Rattle.answers.specs.declared.found.Found.{Found}
use Rattle.log_order.specs.Log.{Log}
use Rattle.proof_ledger.specs.Book.{BookEntry}
use Rattle.proof_ledger.specs.Fresh.{occurs}
use Rattle.verdict_telling.specs.Whole.{HaveReplies, events_behind, told_of}
use Rattle.verdict_telling.specs.declared.whole.Told.{Told}
use Rattle.verdict_telling.specs.declared.whole.Told.TheVariants.{Judged, NotExplained, TooMany, NotDecided}

-- a budget was spent, on the log or on some event
abbrev pub leaves_open : Told → Bool
leaves_open (Judged open_left) = open_left
leaves_open NotExplained = false
leaves_open TooMany = false
leaves_open NotDecided = true

-- all variables of the book's axioms are among these
abbrev pub IncludeVariablesOf : List ℕ → List BookEntry → Type 0
IncludeVariablesOf variables book = (var : ℕ) → occurs var book ≡ true → Contains variables var

-- the budget is below 3 to the number of the book's variables
abbrev pub IsSmallFor : List BookEntry → ℕ → Type 0
IsSmallFor book budget = (variables : List ℕ) → IncludeVariablesOf variables book → budget < 3 ^ length variables

-- If all replies are given and something is left open, the budget is that small.
abbrev pub OpenIsSmall : Type 0
OpenIsSmall = (net : Net) (log : Log) (n budget : ℕ) (found : Found) (verdicts : List Verdict) (book : List BookEntry) (texts : List (List ℕ)) → HaveReplies net log n budget found (events_behind net found) book verdicts texts → leaves_open (told_of found verdicts) ≡ true → IsSmallFor book budget
