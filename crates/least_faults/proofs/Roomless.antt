-- What is built of a question doesn't depend on the room that its counter has for further inputs.
use Rattle.std.proofs.Common.{◌≡◌, ◌∙◌, ℕ, zero, suc, ◌+◌, ◌-◌, Bool, true, false, if◌then◌else◌, List, [], ◌∷◌, ◌++◌, length, Option, Some, None, refl, ap, subst}
use Rattle.std.specs.List.{AllByRecursion}
use Rattle.card_counter.specs.CounterState.{CounterState, with_input}
use Rattle.des_net.specs.Network.{Net}
use Rattle.least_faults.specs.Adding.{KeepsAllButRoom}
use Rattle.least_faults.specs.Answers.{IsAnswered, IsFound}
use Rattle.least_faults.specs.Columns.{columns_built, columns_for, built_within}
use Rattle.least_faults.specs.Evidence.{IsEvidence}
use Rattle.least_faults.specs.Parts.{built_of}
use Rattle.answers.specs.declared.found.Found.{Found}
use Rattle.answers.specs.declared.found.Found.TheVariants.{Explained, Absent, Many, Undecided}
use Rattle.least_faults.specs.declared.parts.Parts.{Parts}
use Rattle.question_clauses.specs.Additions.{Addition, alarm_added, pair_added}
use Rattle.log_encode.specs.CodedLog.{addition_width}
use Rattle.log_order.specs.Log.{Log}
use Rattle.proof_ledger.specs.Book.{BookEntry, final, axioms_of, clauses_of}
use Rattle.prop_core.specs.Clauses.{HasValues}
use Rattle.prop_core.specs.VariableNames.{Meaning}
use Rattle.prop_core.specs.declared.lit.Lit.{Lit}
use Rattle.run_decode.specs.QuestionAxioms.{BuiltQuestion, added_built, column_built, roomless}
use Rattle.run_decode.specs.WholeNaming.{false_input}
use Rattle.replay.specs.declared.TheConstants.{MOST_FAULTS}

-- ---- columns, additions and room

pub columns_roomless : (question : BuiltQuestion) (columns : ℕ) → roomless (columns_built question columns) ≡ columns_built (roomless question) columns
columns_roomless question zero = refl
columns_roomless question (suc columns) = ap column_built (columns_roomless question columns)

-- a counter without its room
abbrev bare : CounterState → CounterState
bare counter = record { inputs = counter.inputs; columns = counter.columns; spare_inputs = 0 }

counter_roomless : (doubtful : Bool) (counter : CounterState) (input : Lit) (first : ℕ) → bare (if doubtful then with_input counter input first else counter) ≡ (if doubtful then with_input (bare counter) input first else bare counter)
counter_roomless true counter input first = refl
counter_roomless false counter input first = refl

pub addition_roomless : (question : BuiltQuestion) (addition : Addition) → roomless (added_built question addition) ≡ added_built (roomless question) addition
addition_roomless question (pair_added i j) = refl
addition_roomless question (alarm_added new) =
    let first = question.vars + addition_width question.code (alarm_added new) in
    ap (λ (counter : CounterState). let q : BuiltQuestion = record (added_built (roomless question) (alarm_added new)) { counter = counter } in q)
    (counter_roomless new.doubtful question.counter (false_input question.code new question.vars) first)

pub room_roomless : {R : Type 0} (old new : Parts R) (old_book new_book : List BookEntry) → KeepsAllButRoom old new old_book new_book → roomless (built_of new new_book) ≡ roomless (built_of old old_book)
room_roomless old new old_book new_book kept =
    let book = ap axioms_of kept.book in
    λ i. record {
      steps = kept.step i;
      code = kept.code i;
      counter = record { inputs = kept.counter.inputs i; columns = kept.counter.columns i; spare_inputs = 0 };
      vars = kept.vars i;
      axioms = book i;
    }

-- ---- what is found

within_roomless : (question : BuiltQuestion) (bound : Option ℕ) → roomless (built_within question bound) ≡ built_within (roomless question) bound
within_roomless question bound = columns_roomless question (columns_for bound - length question.counter.columns)

module _ (names : List (ℕ × Meaning)) (first : BuiltQuestion) (since : List BookEntry) (net : Net) (log : Log) (n : ℕ) where
  evidence_roomless : (bound : Option ℕ) → IsEvidence names first since net log n bound → IsEvidence names (roomless first) since net log n bound
  evidence_roomless bound is =
      let same = within_roomless first bound in
      record {
        assumed = is.assumed;
        refuted = is.refuted;
        listed = is.listed ∙ ap (λ (q : BuiltQuestion). q.axioms) same;
        known = subst (λ (q : BuiltQuestion). AllByRecursion (HasValues q.vars) (first.axioms ++ clauses_of (is.refuted.earlier ++ final is.refuted.clause is.refuted.hints ∷ []))) same is.known;
        known_assumed = subst (λ (q : BuiltQuestion). HasValues q.vars is.assumed) same is.known_assumed;
        posed_before = is.posed_before;
        posed = is.posed;
      }

  found_roomless : (budget : ℕ) (answer : Found) → IsFound names first since net log n budget answer → IsFound names (roomless first) since net log n budget answer
  found_roomless budget (Explained best) is = record { given = is.given; few = is.few; least = is.least; evidence = λ b some. evidence_roomless (Some b) (is.evidence b some) }
  found_roomless budget Absent is = record { absent = is.absent; evidence = evidence_roomless None is.evidence }
  found_roomless budget (Many best) is = record { given = is.given; above = is.above; many = is.many; evidence = evidence_roomless (Some MOST_FAULTS) is.evidence }
  found_roomless budget (Undecided lo best) is = record {
    spent = is.spent;
    above = is.above;
    evidence = λ b some. evidence_roomless (Some b) (is.evidence b some);
    greatest = is.greatest;
    given = is.given;
    unknown = is.unknown;
  }

pub answered_roomless : (names : List (ℕ × Meaning)) (first : BuiltQuestion) (net : Net) (log : Log) (n budget : ℕ) (old new : List BookEntry) (answer : Found) → IsAnswered names first net log n budget old new answer →
    IsAnswered names (roomless first) net log n budget old new answer
answered_roomless names first net log n budget old new answer is = record {
  begun = is.begun;
  left = is.left;
  few = is.few;
  asks = is.asks;
  found = found_roomless names first is.left.since net log n budget answer is.found;
  conflict = is.conflict;
}
