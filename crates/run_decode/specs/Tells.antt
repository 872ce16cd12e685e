-- When clauses and assumptions tell whether some explanation has a property; and questions that tell more than a bound, by a rider on the clauses of a question.
use Rattle.std.specs.Prelude.{◌≢◌, ◌↔◌, ◌⊎◌, ℕ, Bool, List, Option, Contains}
use Rattle.des_base.specs.Lists.{EachPair}
use Rattle.des_net.specs.Network.{Net}
use Rattle.log_order.specs.Log.{Log}
use Rattle.prop_core.specs.Clauses.{Clause, negation, AllClausesTrue}
use Rattle.prop_core.specs.declared.lit.Lit.{Lit}
use Rattle.replay.specs.Explanation.{Entry, Explains, faults_of}
use Rattle.run_decode.specs.Faithful.{IsWithin, MakesTrue, IsFaithful}

-- a property of a word and an order of the alarms
abbrev pub Property : Type 1
Property = List ℕ → List Entry → Type 0

-- Exactly if some word with some order has the property, some assignment makes clauses and assumptions true. Neither is contradictory by itself.
pub record Tells (clauses : List Clause) (assumed : List Lit) (has : Property) : Type 0 where
  -- what has the property has an assignment
  pub complete : (word : List ℕ) (order : List Entry) → has word order → (assignment : ℕ → Bool) × MakesTrue assignment clauses assumed
  -- where there is an assignment, something has the property
  pub sound : (assignment : ℕ → Bool) → MakesTrue assignment clauses assumed → (word : List ℕ) × (order : List Entry) × has word order
  -- without the assumptions the clauses don't contradict each other
  pub satisfiable : (assignment : ℕ → Bool) × AllClausesTrue assignment clauses
  -- nor do the assumptions alone
  pub consistent : EachPair (λ a b. a ≢ negation b) assumed

-- an explanation within a bound on its faults
abbrev pub ExplainsWithin : Net → Log → ℕ → Option ℕ → Property
ExplainsWithin net log n bound word order = Explains net log n word order × IsWithin bound (faults_of net word order)

-- A faithful question tells what explains within its bound.
abbrev pub FaithfulTells : Type 0
FaithfulTells = (net : Net) (log : Log) (n : ℕ) (bound : Option ℕ) (clauses : List Clause) (assumed : List Lit) →
    IsFaithful clauses assumed net log n bound → Tells clauses assumed (ExplainsWithin net log n bound)

-- ---- riders

-- the list has the clauses of both, in whatever order
abbrev pub AreBoth : List Clause → List Clause → List Clause → Type 0
AreBoth whole clauses rider = (clause : Clause) → Contains whole clause ↔ Contains clauses clause ⊎ Contains rider clause
