-- A verdict, and what the entries since its question was opened show.
use Rattle.std.specs.Prelude.{◌≡◌, ◌⊎◌, ◌↔◌, ℕ, List, [], ◌∷◌, ◌++◌, Contains}
use Rattle.des_net.specs.Network.{Net}
use Rattle.fault_verdicts.specs.Asked.{Question, without, with_event, IsPosedOf}
use Rattle.fault_verdicts.specs.Verdicts.{IsBest, IsCertain, IsExcluded, IsPossible}
use Rattle.answers.specs.declared.verdict.Verdict.{Verdict}
use Rattle.answers.specs.declared.verdict.Verdict.TheVariants.{Certain, Excluded, Possible, Open}
use Rattle.sat_solve.specs.Leaving.{HasFinal, LeavesOpen, LeavesClosed}
use Rattle.log_order.specs.Log.{Log}
use Rattle.proof_ledger.specs.Book.{BookEntry, mark, axioms_of, clauses_of}
use Rattle.proof_ledger.specs.Fresh.{AreFresh}
use Rattle.prop_core.specs.Clauses.{Clause, NegatesOnly}
use Rattle.prop_core.specs.Trail.{Clashes}
use Rattle.prop_core.specs.declared.lit.Lit.{Lit}
use Rattle.replay.specs.Matching.{IsWellMatched, order_of}
use Rattle.replay.specs.Traced.{word_of}
use Rattle.replay.specs.declared.run.RunStep.{RunStep}

-- a run that is a best explanation with k faults
pub record IsBestRun (net : Net) (log : Log) (n k : ℕ) (run : List RunStep) : Type 0 where
  pub matched : IsWellMatched net log run
  pub best : IsBest net log n k (word_of run) (order_of log run)

-- What the question about the event is, where a best run is known: which best explanation differs from it there.
abbrev pub IsAskedBeside : List RunStep → ℕ → Question → Type 0
IsAskedBeside first e without = Contains (word_of first) e
IsAskedBeside first e (with_event literal) = Contains (word_of first) e → ⊥

-- a final entry refutes the question, which the axioms pose
pub record IsRefutedBy (axioms : List Clause) (since : List BookEntry) (net : Net) (log : Log) (n k e : ℕ) (question : Question) : Type 0 where
  pub assumed : List Lit
  pub posed : IsPosedOf axioms assumed net log n k e question
  pub final_entry : HasFinal since assumed

-- Each best explanation has the event: the question without it is refuted.
pub record IsCertainFound (axioms : List Clause) (since : List BookEntry) (net : Net) (log : Log) (n k e : ℕ) : Type 0 where
  pub certain : IsCertain net log n e
  pub refuted : IsRefutedBy axioms since net log n k e without

-- None has it: the question with it is refuted, by the literal that was made for it.
pub record IsExcludedFound (axioms : List Clause) (since : List BookEntry) (net : Net) (log : Log) (n k e : ℕ) : Type 0 where
  pub excluded : IsExcluded net log n e
  pub literal : ℕ
  pub refuted : IsRefutedBy axioms since net log n k e (with_event literal)

-- a best run that has the event exactly if the first one hasn't
pub record IsPossibleFound (net : Net) (log : Log) (n k e : ℕ) (first other : List RunStep) : Type 0 where
  pub possible : IsPossible net log n e
  pub best : IsBestRun net log n k other
  pub differs : Contains (word_of other) e ↔ (Contains (word_of first) e → ⊥)

-- The budget was spent on fresh entries, and the question, which the axioms pose, came to a further conflict.
pub record IsOpenFound (axioms clauses : List Clause) (earlier since : List BookEntry) (net : Net) (log : Log) (n k e budget : ℕ) (first : List RunStep) : Type 0 where
  pub fresh : AreFresh earlier since budget
  pub question : Question
  pub asked : IsAskedBeside first e question
  pub assumed : List Lit
  pub posed : IsPosedOf axioms assumed net log n k e question
  pub clashes : Clashes clauses assumed

-- The axioms pose the question about the event, with some assumptions, beside the best run that is known.
pub record IsQuestionAbout (axioms : List Clause) (net : Net) (log : Log) (n k e : ℕ) (first : List RunStep) : Type 0 where
  pub question : Question
  pub asked : IsAskedBeside first e question
  pub assumed : List Lit
  pub posed : IsPosedOf axioms assumed net log n k e question

-- what each verdict means, and what the entries since an earlier book show of it, over the axioms and all clauses of the book
abbrev pub IsVerdict : List Clause → List Clause → List BookEntry → List BookEntry → Net → Log → ℕ → ℕ → ℕ → ℕ → List RunStep → Verdict → Type 0
IsVerdict axioms clauses earlier since net log n k e budget first Certain = IsCertainFound axioms since net log n k e
IsVerdict axioms clauses earlier since net log n k e budget first Excluded = IsExcludedFound axioms since net log n k e
IsVerdict axioms clauses earlier since net log n k e budget first (Possible other) = IsPossibleFound net log n k e first other
IsVerdict axioms clauses earlier since net log n k e budget first Open = IsOpenFound axioms clauses earlier since net log n k e budget first

-- The question was opened by a mark 0 and closed by a mark 1, and the entries between show the verdict. Whatever it is, all axioms of the book pose the question, with some assumptions that each final entry negates, of which there is at most one. At most as many clauses as the budget says were learnt, each of them fresh.
pub record IsJudged (net : Net) (log : Log) (n k e budget : ℕ) (first : List RunStep) (old new : List BookEntry) (verdict : Verdict) : Type 0 where
  pub asked : IsQuestionAbout (axioms_of new) net log n k e first
  pub left : LeavesClosed (NegatesOnly asked.assumed) 1 budget old new
  pub found : IsVerdict (axioms_of new) (clauses_of new) (old ++ mark 0 ∷ []) left.since net log n k e budget first verdict

-- ---- without a verdict

-- The axioms pose the question about the event, with assumptions that this clause negates.
abbrev pub NegatesAsked : List Clause → Net → Log → ℕ → ℕ → ℕ → List RunStep → Clause → Type 0
NegatesAsked axioms net log n k e first clause = (asked : IsQuestionAbout axioms net log n k e first) × NegatesOnly asked.assumed clause

-- The question was opened by a mark 0 and has no verdict: no mark stands behind that one. At most as many clauses as the budget says were learnt, each of them fresh. There is at most one final entry, which negates what the question assumes.
abbrev pub IsVerdictLeftOpen : Net → Log → (n k e budget : ℕ) → List RunStep → (old new : List BookEntry) → Type 0
IsVerdictLeftOpen net log n k e budget first old new = LeavesOpen (NegatesAsked (axioms_of new) net log n k e first) 1 budget old new

-- Out of memory the question about the event is open at most: the book is as it was, or the question is left open in it.
abbrev pub IsVerdictOpenAtMost : Net → Log → ℕ → ℕ → ℕ → ℕ → List RunStep → List BookEntry → List BookEntry → Type 0
IsVerdictOpenAtMost net log n k e budget first old new = (new ≡ old) ⊎ IsVerdictLeftOpen net log n k e budget first old new
