-- A question that is built: what a solver is like before, and how parts, solver and book stand to one another after.
use Rattle.std.specs.Prelude.{◌≡◌, ℕ, ◌≤◌, List, [], None}
use Rattle.des_net.specs.Network.{Net}
use Rattle.least_faults.specs.declared.encode.Coded.{Coded}
use Rattle.least_faults.specs.declared.encode.Written.{Written}
use Rattle.least_faults.specs.declared.parts.Parts.{Parts}
use Rattle.least_faults.specs.Asking.{AreAssumptions, Pose}
use Rattle.least_faults.specs.Parts.{AreReady, BelongTo, IsBuilt}
use Rattle.log_order.specs.Log.{Log}
use Rattle.proof_ledger.specs.Book.{BookEntry, axioms_of, clauses_of}
use Rattle.prop_core.specs.Clauses.{Clause}
use Rattle.prop_core.specs.declared.lit.Lit.{Lit}
use Rattle.run_decode.specs.QuestionAxioms.{BuiltQuestion}
use Rattle.sat_order.specs.Rank.{IsRanked}
use Rattle.sat_solve.specs.Solving.{SolverState}

-- the solver has no variables and no clauses, and its ranks are what was answered
pub record IsUnused {R : Type 0} (may : R → ℕ → Type 0) (gives : R → ℕ → ℕ → Type 0) (solver : SolverState R) : Type 0 where
  pub ranked : IsRanked may gives solver.order
  pub no_clauses : solver.adopted ≡ []
  pub no_variables : solver.vars ≡ 0

-- the solver has no variables and no clauses, as before, so that it can be built with again, and ranks by what ranked before
pub record IsHandedBack {R : Type 0} (may : R → ℕ → Type 0) (gives : R → ℕ → ℕ → Type 0) (old new : SolverState R) : Type 0 where
  pub unused : IsUnused may gives new
  pub rank : new.order.rank ≡ old.order.rank

-- these are the axioms of the book, whose clauses the solver has adopted; it has the variables, and ranks by what ranked before
pub record HasAdoptedBook {R : Type 0} (may : R → ℕ → Type 0) (gives : R → ℕ → ℕ → Type 0) (axioms : List Clause) (vars : ℕ) (old new : SolverState R) (book : List BookEntry) : Type 0 where
  pub axioms_are : axioms_of book ≡ axioms
  pub adopted_all : new.adopted ≡ clauses_of book
  pub enough : vars ≤ new.vars
  pub ranked : IsRanked may gives new.order
  pub rank : new.order.rank ≡ old.order.rank

-- no clauses are written yet
pub record IsUnwritten (written : Written) : Type 0 where
  pub no_steps : written.steps.clauses ≡ []
  pub no_log : written.log.clauses ≡ []

-- the parts with this solver
abbrev pub parts_with : {R : Type 0} → Coded → SolverState R → Parts R
parts_with coded solver = record { step = coded.step; code = coded.code; counter = coded.counter; vars = coded.vars; solver = solver }

-- what is built: these parts, and these axioms
abbrev pub built_as : Coded → List Clause → BuiltQuestion
built_as coded axioms = record { steps = coded.step; code = coded.code.coded; counter = coded.counter; vars = coded.vars; axioms = axioms }

-- The parts are those of the book, coded for this network and this log within n steps. The counter has no column, and what ranks is the solver's from before. Parts and axioms are those that network, log and n determine, whatever test and rank are stored. The axioms pose the question without a bound.
pub record AreBuilt {R : Type 0} (may : R → ℕ → Type 0) (gives : R → ℕ → ℕ → Type 0) (net : Net) (log : Log) (n : ℕ) (solver : SolverState R) (book : List BookEntry) (parts : Parts R) : Type 0 where
  pub belong : BelongTo net log parts
  pub steps : parts.step.steps ≡ n
  pub ready : AreReady may gives parts book
  pub columns : parts.counter.columns ≡ []
  pub rank : parts.solver.order.rank ≡ solver.order.rank
  pub built : IsBuilt net log n parts book
  pub posed : (assumed : List Lit) → AreAssumptions parts.code.coded parts.counter None assumed → Pose parts.step parts.code.coded parts.counter (axioms_of book) None assumed
