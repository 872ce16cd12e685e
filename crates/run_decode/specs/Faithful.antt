-- When clauses and assumptions say what a question asks: which explanations a log has, within a bound on their faults.
use Rattle.std.specs.Prelude.{◌≢◌, ℕ, ◌≤◌, ⊤, Bool, List, Option, Some, None}
use Rattle.des_base.specs.Lists.{EachPair}
use Rattle.des_net.specs.Network.{Net}
use Rattle.log_order.specs.Log.{Log}
use Rattle.prop_core.specs.Clauses.{Clause, negation, AllClausesTrue, AllLiteralsTrue}
use Rattle.prop_core.specs.declared.lit.Lit.{Lit}
use Rattle.replay.specs.Explanation.{Entry, faults_of, Explains}

-- at most b faults; None sets no bound
abbrev pub IsWithin : Option ℕ → ℕ → Type 0
IsWithin None faults = ⊤
IsWithin (Some b) faults = faults ≤ b

-- the assignment makes all clauses and all assumptions true
pub record MakesTrue (assignment : ℕ → Bool) (clauses : List Clause) (assumed : List Lit) : Type 0 where
  pub clauses_true : AllClausesTrue assignment clauses
  pub assumed_true : AllLiteralsTrue assignment assumed

-- some word with some order of the alarms explains the log within the bound
pub record IsExplainedWithin (net : Net) (log : Log) (n : ℕ) (bound : Option ℕ) : Type 0 where
  pub word : List ℕ
  pub order : List Entry
  pub explains : Explains net log n word order
  pub within : IsWithin bound (faults_of net word order)

-- Clauses and assumptions can be true together exactly if something explains the log within the bound. Neither is contradictory by itself.
pub record IsFaithful (clauses : List Clause) (assumed : List Lit) (net : Net) (log : Log) (n : ℕ) (bound : Option ℕ) : Type 0 where
  -- what explains within the bound has an assignment
  pub complete : (word : List ℕ) (order : List Entry) → Explains net log n word order → IsWithin bound (faults_of net word order) → (assignment : ℕ → Bool) × MakesTrue assignment clauses assumed
  -- where there is an assignment, something explains within the bound
  pub sound : (assignment : ℕ → Bool) → MakesTrue assignment clauses assumed → IsExplainedWithin net log n bound
  -- without the assumptions the clauses don't contradict each other
  pub satisfiable : (assignment : ℕ → Bool) × AllClausesTrue assignment clauses
  -- nor do the assumptions alone
  pub consistent : EachPair (λ a b. a ≢ negation b) assumed
