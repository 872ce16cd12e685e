-- With a budget of at least as many clauses as there are sets of literals, no variable twice, a search is never undecided.
use Rattle.std.specs.Prelude.{◌<◌, ◌^◌, ℕ, List, Option}
use Rattle.des_net.specs.Network.{Net}
use Rattle.least_faults.specs.Answers.{IsAnswered}
use Rattle.answers.specs.declared.found.Best.{Best}
use Rattle.answers.specs.declared.found.Found.TheVariants.{Undecided}
use Rattle.log_order.specs.Log.{Log}
use Rattle.proof_ledger.specs.Book.{BookEntry}
use Rattle.prop_core.specs.VariableNames.{Meaning}
use Rattle.replay.specs.QuestionSize.{variable_bound}
use Rattle.run_decode.specs.QuestionAxioms.{BuiltQuestion}

-- Where it is undecided, the budget is below 3 to the bound on the question's variables.
abbrev pub UndecidedIsSmall : Type 0
UndecidedIsSmall = (meanings : List (ℕ × Meaning)) (first : BuiltQuestion) (net : Net) (log : Log) (n budget lo : ℕ) (best : Option Best) (old new : List BookEntry) → IsAnswered meanings first net log n budget old new (Undecided lo best) → budget < 3 ^ variable_bound net log n
