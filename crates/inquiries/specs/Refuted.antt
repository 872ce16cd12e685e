-- The refutation that the book of a question holds, as a proof of its own.
use Rattle.std.specs.Prelude.{◌≡◌, ◌<◌, ◌≤◌, ⊤, ℕ, zero, suc, ◌+◌, false, List, ◌∷◌, ◌++◌, [], All, length, map, Option, None, Some, IfSome}
use Rattle.std.specs.List.{list_any}
use Rattle.card_counter.specs.CounterState.{CounterState}
use Rattle.des_net.specs.Network.{Net}
use Rattle.answers.specs.declared.found.Found.{Found}
use Rattle.answers.specs.declared.found.Found.TheVariants.{Explained, Absent, Many, Undecided}
use Rattle.least_faults.specs.declared.parts.Parts.{Parts}
use Rattle.least_faults.specs.Evidence.{IsPosed, IsEvidence, is_final}
use Rattle.least_faults.specs.Parts.{meanings_of_parts}
use Rattle.log_order.specs.Log.{Log}
use Rattle.proof_ledger.specs.Book.{BookEntry, axiomatic, final, mark, axioms_of, clauses_of}
use Rattle.proof_ledger.specs.Checking.{check_proof}
use Rattle.proof_ledger.specs.declared.checker.ProofStep.{ProofStep}
use Rattle.proof_ledger.specs.declared.checker.Checked.TheVariants.{Verified}
use Rattle.proof_text.specs.ProofNumbers.{NumbersAscend, HasNoZero}
use Rattle.proof_text.specs.Refutation.{CanBePrinted, EndsIn, front_to, refutation_steps}
use Rattle.prop_core.specs.Clauses.{Clause}
use Rattle.prop_core.specs.VariableNames.{Meaning}
use Rattle.run_decode.specs.QuestionAxioms.{question_axioms, question_built}
use Rattle.inquiries.specs.declared.refutation.Refuted.{Refuted}
use Rattle.inquiries.specs.declared.refutation.Refuted.TheVariants.{Within, Nothing, Undecided as NotRefuted}
use Rattle.inquiries.specs.Diagnosed.{IsDiagnosed}
use Rattle.inquiries.specs.Formula.{counted_bound, question_assumed, question_formula, question_within}
use Rattle.replay.specs.declared.TheConstants.{MOST_FAULTS}

-- The steps are the refutation that the book holds up to a final clause, of negations of what the question assumes within the bound. With this the axioms
-- before that clause pose the question within the bound. They are, in their order, those of the formula of the question within the bound, and of that formula the steps are verified. Both can be printed.
pub record IsVerifiedRefutation (net : Net) (log : Log) (n : ℕ) (bound : Option ℕ) (book : List BookEntry) (steps : List ProofStep) : Type 0 where
  pub last : ℕ
  pub ends : EndsIn book (question_assumed net log n bound) last
  pub meanings : List (ℕ × Meaning)
  pub posed : IsPosed meanings (axioms_of (front_to last book)) (question_assumed net log n bound) net log n bound
  pub listed : axioms_of (front_to last book) ≡ (question_within net log n bound).axioms
  pub steps_are : steps ≡ refutation_steps (front_to last book) (question_assumed net log n bound)
  pub verified : check_proof (question_formula net log n bound).clauses steps ≡ Verified
  pub printable : CanBePrinted (question_formula net log n bound).vars (question_formula net log n bound).clauses steps

-- ---- as an answer

-- the answer is the refutation within the bound, whose steps can be printed
pub record IsRefutedWithin (net : Net) (log : Log) (n : ℕ) (bound : Option ℕ) (book : List BookEntry) (answer : Refuted) : Type 0 where
  pub steps : List ProofStep
  pub refuted : IsVerifiedRefutation net log n bound book steps
  pub ascend : NumbersAscend 0 steps
  pub above : All HasNoZero steps
  pub is : answer ≡ Within bound steps

-- Without faults there is nothing to refute, else that there is one fault less.
abbrev pub IsRefutedBelow : Net → Log → ℕ → ℕ → List BookEntry → Refuted → Type 0
IsRefutedBelow net log n zero book answer = answer ≡ Nothing
IsRefutedBelow net log n (suc k) book answer = IsRefutedWithin net log n (Some k) book answer

-- by what is found: below the least number, of any number where nothing explains, and of 255 where more are needed
abbrev pub IsRefutedFor : Net → Log → ℕ → List BookEntry → Found → Refuted → Type 0
IsRefutedFor net log n book (Explained best) answer = IsRefutedBelow net log n best.faults book answer
IsRefutedFor net log n book Absent answer = IsRefutedWithin net log n None book answer
IsRefutedFor net log n book (Many best) answer = IsRefutedWithin net log n (Some MOST_FAULTS) book answer
IsRefutedFor net log n book (Undecided lo best) answer = answer ≡ NotRefuted (Undecided lo best)

-- the answer refutes the bound below what is found
pub record IsRefuting (net : Net) (log : Log) (n budget : ℕ) (book : List BookEntry) (answer : Refuted) : Type 0 where
  pub found : Found
  pub diagnosed : IsDiagnosed net log n budget book found
  pub refuted : IsRefutedFor net log n book found answer

-- ---- as it is found

-- the last final clause of the book has this number
pub record IsLastFinal (book : List BookEntry) (last : ℕ) : Type 0 where
  pub before : List BookEntry
  pub clause : Clause
  pub hints : List ℕ
  pub later : List BookEntry
  pub whole : book ≡ before ++ final clause hints ∷ later
  pub none : list_any is_final later ≡ false
  pub numbered : last ≡ length (clauses_of before) + 1

-- the counter has the column for the bound, if there is a fault to count
abbrev pub HasBoundColumn : CounterState → Option ℕ → Type 0
HasBoundColumn counter bound = IfSome (counted_bound counter bound) (λ k. k < length counter.columns)

-- behind the axioms of the question without columns the book has evidence for the bound, between two marks
pub record HasEvidence {R : Type 0} (net : Net) (log : Log) (parts : Parts R) (book : List BookEntry) (bound : Option ℕ) : Type 0 where
  pub since : List BookEntry
  pub whole : book ≡ map axiomatic (question_axioms net log parts.step.steps 0) ++ mark 0 ∷ since ++ mark 1 ∷ []
  pub evidence : IsEvidence (meanings_of_parts parts) (question_built net log parts.step.steps 0) since net log parts.step.steps bound

-- for the bound that what was found refutes: one less than the least number, none if nothing explains, and 255 if more are needed
abbrev pub HasEvidenceFor : {R : Type 0} → Net → Log → Parts R → List BookEntry → Found → Type 0
HasEvidenceFor net log parts book (Explained best) = (best.faults ≤ MOST_FAULTS) × ((k : ℕ) → best.faults ≡ suc k → HasEvidence net log parts book (Some k))
HasEvidenceFor net log parts book Absent = HasEvidence net log parts book None
HasEvidenceFor net log parts book (Many best) = HasEvidence net log parts book (Some MOST_FAULTS)
HasEvidenceFor net log parts book (Undecided lo best) = ⊤
