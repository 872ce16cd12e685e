-- What is found of the least number of faults that explains a log, and what each answer means.
use Rattle.std.specs.Prelude.{◌≡◌, ◌⊎◌, ℕ, suc, ◌<◌, ◌≤◌, Bool, true, not, ◌||◌, List, length, Option, Some, None, IfSome, IfNone, count_by, ⊤}
use Rattle.std.specs.List.{list_all}
use Rattle.des_net.specs.Network.{Net}
use Rattle.answers.specs.Explanations.{IsExplanation}
use Rattle.answers.specs.declared.found.Best.{Best}
use Rattle.answers.specs.declared.found.Found.{Found}
use Rattle.answers.specs.declared.found.Found.TheVariants.{Explained, Absent, Many, Undecided}
use Rattle.least_faults.specs.Evidence.{IsEvidence, IsPosed, NegatesAssumed}
use Rattle.log_order.specs.Log.{Log}
use Rattle.proof_ledger.specs.Book.{BookEntry, axioms_of, clauses_of}
use Rattle.proof_ledger.specs.Fresh.{is_learnt}
use Rattle.prop_core.specs.Trail.{Clashes}
use Rattle.prop_core.specs.VariableNames.{Meaning, ReadsAs}
use Rattle.prop_core.specs.declared.lit.Lit.{Lit}
use Rattle.replay.specs.Explanation.{NeedsFaults, IsLeast, IsAbsent, IsMany}
use Rattle.replay.specs.Matching.{is_real}
use Rattle.replay.specs.QuestionSize.{variable_bound}
use Rattle.replay.specs.Traced.{step_faults}
use Rattle.replay.specs.declared.run.RunStep.{RunStep}
use Rattle.run_decode.specs.Drawn.{assumption_literals}
use Rattle.run_decode.specs.QuestionAxioms.{BuiltQuestion}
use Rattle.sat_solve.specs.Leaving.{HasFinal, LeavesOpen, LeavesClosed}
use Rattle.replay.specs.declared.TheConstants.{MOST_FAULTS}

-- the entry of a run is a fault: a fault event, or a false alarm
abbrev pub is_fault_entry : Net → RunStep → Bool
is_fault_entry net entry = step_faults net entry || not (is_real entry)

-- ---- the answers, with what the entries since the question was opened show, where it was built so first

-- no explanation has fewer faults, which the book shows
pub record IsLeastFound (meanings : List (ℕ × Meaning)) (first : BuiltQuestion) (since : List BookEntry) (net : Net) (log : Log) (n : ℕ) (best : Best) : Type 0 where
  pub given : IsExplanation net log n best
  pub few : best.faults ≤ MOST_FAULTS
  pub least : IsLeast net log n best.faults
  pub evidence : (b : ℕ) → best.faults ≡ suc b → IsEvidence meanings first since net log n (Some b)

-- nothing explains the log
pub record IsAbsentFound (meanings : List (ℕ × Meaning)) (first : BuiltQuestion) (since : List BookEntry) (net : Net) (log : Log) (n : ℕ) : Type 0 where
  pub absent : IsAbsent net log n
  pub evidence : IsEvidence meanings first since net log n None

-- all that explains the log has more than 255 faults
pub record IsManyFound (meanings : List (ℕ × Meaning)) (first : BuiltQuestion) (since : List BookEntry) (net : Net) (log : Log) (n : ℕ) (best : Best) : Type 0 where
  pub given : IsExplanation net log n best
  pub above : MOST_FAULTS < best.faults
  pub many : IsMany net log n
  pub evidence : IsEvidence meanings first since net log n (Some MOST_FAULTS)

-- The budget was spent on learnt entries. All explanations have at least lo faults, and lo is one more than the greatest bound that a final entry refutes, or 0; an explanation that is known has more. Where none is known, nothing but learnt entries was put.
pub record IsUndecidedFound (meanings : List (ℕ × Meaning)) (first : BuiltQuestion) (since : List BookEntry) (net : Net) (log : Log) (n budget lo : ℕ) (best : Option Best) : Type 0 where
  pub spent : count_by is_learnt since ≡ budget
  pub above : NeedsFaults net log n lo
  pub evidence : (b : ℕ) → lo ≡ suc b → IsEvidence meanings first since net log n (Some b)
  pub greatest : (b : ℕ) (assumed : List Lit) → ReadsAs meanings assumed (assumption_literals net log n (Some b)) → HasFinal since assumed → b < lo
  pub given : IfSome best (λ run. IsExplanation net log n run × (lo < run.faults))
  pub unknown : IfNone best ((lo ≡ 0) × (list_all is_learnt since ≡ true))

-- what it means that this was found, and what the entries since the question was opened show of it
abbrev pub IsFound : List (ℕ × Meaning) → BuiltQuestion → List BookEntry → Net → Log → ℕ → ℕ → Found → Type 0
IsFound meanings first since net log n budget (Explained best) = IsLeastFound meanings first since net log n best
IsFound meanings first since net log n budget Absent = IsAbsentFound meanings first since net log n
IsFound meanings first since net log n budget (Many best) = IsManyFound meanings first since net log n best
IsFound meanings first since net log n budget (Undecided lo best) = IsUndecidedFound meanings first since net log n budget lo best

-- ---- what the budget was spent on

-- By these meanings the axioms of the book pose the question within the bound, with some assumptions for which there is a further conflict.
pub record HasConflict (meanings : List (ℕ × Meaning)) (book : List BookEntry) (net : Net) (log : Log) (n : ℕ) (bound : Option ℕ) : Type 0 where
  pub assumed : List Lit
  pub posed : IsPosed meanings (axioms_of book) assumed net log n bound
  pub clashes : Clashes (clauses_of book) assumed

-- what was asked last: without a bound where no run is known, else within lo
abbrev pub asked_last : ℕ → Option Best → Option ℕ
asked_last lo None = None
asked_last lo (Some run) = Some lo

-- If it is undecided, that is at a further conflict.
abbrev pub HasConflictFor : List (ℕ × Meaning) → List BookEntry → Net → Log → ℕ → Found → Type 0
HasConflictFor meanings book net log n (Explained best) = ⊤
HasConflictFor meanings book net log n Absent = ⊤
HasConflictFor meanings book net log n (Many best) = ⊤
HasConflictFor meanings book net log n (Undecided lo best) = HasConflict meanings book net log n (asked_last lo best)

-- The axioms of the book were those of the question as it was built first. The question was opened by a mark 0 and closed by a mark 1, and the entries between show what was found. At most as many clauses as the budget says were learnt, each of them fresh. Each final one has no literals but negations of assumptions, and there is at most one for each bound from 0 to 255. The axioms of the whole book pose the question without a bound, by these meanings and under some assumptions; the meanings are no more than network, log and n allow.
pub record IsAnswered (meanings : List (ℕ × Meaning)) (first : BuiltQuestion) (net : Net) (log : Log) (n budget : ℕ) (old new : List BookEntry) (answer : Found) : Type 0 where
  pub begun : first.axioms ≡ axioms_of old
  pub left : LeavesClosed (NegatesAssumed meanings net log n) 256 budget old new
  pub few : length meanings ≤ variable_bound net log n
  pub asks : (assumed : List Lit) × IsPosed meanings (axioms_of new) assumed net log n None
  pub found : IsFound meanings first left.since net log n budget answer
  pub conflict : HasConflictFor meanings new net log n answer

-- ---- without an answer

-- The question was opened by a mark 0 and has no answer: no mark stands behind that one. At most as many clauses as the budget says were learnt, each of them fresh. Each final one has no literals but negations of assumptions, and there is at most one for each bound from 0 to 255. The axioms of the whole book pose the question, as they do where it is answered.
pub record IsLeftOpen (meanings : List (ℕ × Meaning)) (net : Net) (log : Log) (n budget : ℕ) (old new : List BookEntry) : Type 0 where
  pub left : LeavesOpen (NegatesAssumed meanings net log n) 256 budget old new
  pub few : length meanings ≤ variable_bound net log n
  pub asks : (assumed : List Lit) × IsPosed meanings (axioms_of new) assumed net log n None

-- Out of memory a question is open at most: the book is as it was, or the question is left open in it.
abbrev pub IsOpenAtMost : List (ℕ × Meaning) → Net → Log → ℕ → ℕ → List BookEntry → List BookEntry → Type 0
IsOpenAtMost meanings net log n budget old new = (new ≡ old) ⊎ IsLeftOpen meanings net log n budget old new
