-- What in a book shows that nothing explains a log within a bound on the faults.
use Rattle.std.specs.Prelude.{◌≡◌, ℕ, List, [], ◌∷◌, ◌++◌, Option}
use Rattle.std.specs.List.{AllByRecursion}
use Rattle.des_net.specs.Network.{Net}
use Rattle.least_faults.specs.Columns.{built_within}
use Rattle.log_order.specs.Log.{Log}
use Rattle.proof_ledger.specs.Book.{BookEntry, final, axioms_of, clauses_of}
use Rattle.prop_core.specs.Clauses.{Clause, HasValues, NegatesOnly}
use Rattle.prop_core.specs.VariableNames.{Meaning, HasEachOnce, ReadsAs}
use Rattle.prop_core.specs.declared.lit.Lit.{Lit}
use Rattle.run_decode.specs.Drawn.{IsInstance, assumption_literals}
use Rattle.run_decode.specs.Faithful.{IsFaithful}
use Rattle.run_decode.specs.QuestionAxioms.{BuiltQuestion}
use Rattle.sat_solve.specs.Leaving.{HasLastFinal}
pub use Rattle.sat_solve.specs.Searching.{is_final}

-- By these meanings clauses and assumptions ask which explanations there are within the bound: they are faithful, each clause is of a family, and what is assumed are, as a set, the guards and the bound.
pub record IsPosed (meanings : List (ℕ × Meaning)) (clauses : List Clause) (assumed : List Lit) (net : Net) (log : Log) (n : ℕ) (bound : Option ℕ) : Type 0 where
  pub faithful : IsFaithful clauses assumed net log n bound
  pub once : HasEachOnce meanings
  pub instances : AllByRecursion (IsInstance net log n meanings) clauses
  pub assumes : ReadsAs meanings assumed (assumption_literals net log n bound)

-- the clause has no literals but negations of what is assumed by these meanings: of the guards, and of some bound
pub record NegatesAssumed (meanings : List (ℕ × Meaning)) (net : Net) (log : Log) (n : ℕ) (clause : Clause) : Type 0 where
  pub bound : Option ℕ
  pub assumed : List Lit
  pub assumes : ReadsAs meanings assumed (assumption_literals net log n bound)
  pub negates : NegatesOnly assumed clause

-- The last of these final entries has no literals but negations of assumptions. The axioms before it, the first ones and those of these entries, are as a list those of the question that was built first, with the columns that the bound needs, and what is assumed and all clauses up to this one are over the variables of that question. With the axioms what is assumed is faithful to the question within the bound.
pub record IsRefutation (first : BuiltQuestion) (entries : List BookEntry) (net : Net) (log : Log) (n : ℕ) (bound : Option ℕ) (assumed : List Lit) : Type 0 where
  pub refuted : HasLastFinal entries assumed
  pub listed : first.axioms ++ axioms_of refuted.earlier ≡ (built_within first bound).axioms
  pub known : AllByRecursion (HasValues (built_within first bound).vars) (first.axioms ++ clauses_of (refuted.earlier ++ final refuted.clause refuted.hints ∷ []))
  pub known_assumed : HasValues (built_within first bound).vars assumed
  pub faithful : IsFaithful (first.axioms ++ axioms_of refuted.earlier) assumed net log n bound

-- The last of these final entries refutes the question within the bound. The axioms before it pose that question: those that the book had first, and those of these entries. So do all.
-- As a list they are those of the question that was built first, with the columns that the bound needs, and what is assumed and all clauses up to that one are over the variables of that question.
pub record IsEvidence (meanings : List (ℕ × Meaning)) (first : BuiltQuestion) (entries : List BookEntry) (net : Net) (log : Log) (n : ℕ) (bound : Option ℕ) : Type 0 where
  pub assumed : List Lit
  pub refuted : HasLastFinal entries assumed
  pub listed : first.axioms ++ axioms_of refuted.earlier ≡ (built_within first bound).axioms
  pub known : AllByRecursion (HasValues (built_within first bound).vars) (first.axioms ++ clauses_of (refuted.earlier ++ final refuted.clause refuted.hints ∷ []))
  pub known_assumed : HasValues (built_within first bound).vars assumed
  pub posed_before : IsPosed meanings (first.axioms ++ axioms_of refuted.earlier) assumed net log n bound
  pub posed : IsPosed meanings (first.axioms ++ axioms_of entries) assumed net log n bound
