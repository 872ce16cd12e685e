-- How far a session has come: at its beginning, and after a question.
use Rattle.std.proofs.Common.{◌≡◌, ◌∙◌, inl, ℕ, List, [], ◌++◌, length, map, sym, ap, subst}
use Rattle.alarm_session.specs.Session.{KeepsLog, IsToldBy, IsUnanswered, Stage, first_stage, stage_of}
use Rattle.alarm_session.specs.declared.kept.Kept.{Kept}
use Rattle.des_net.specs.Network.{Net}
use Rattle.least_faults.proofs.Roomless.{answered_roomless, columns_roomless}
use Rattle.least_faults.specs.Answers.{IsAnswered, IsOpenAtMost}
use Rattle.least_faults.specs.Growing.{HasGrownWithin, KeepsQuestion}
use Rattle.least_faults.specs.Parts.{IsBuilt, built_of, meanings_of_parts}
use Rattle.answers.specs.declared.found.Found.{Found}
use Rattle.log_order.specs.Log.{no_log}
use Rattle.proof_ledger.specs.Book.{BookEntry, axiomatic, axioms_of, IsValidBook}
use Rattle.run_decode.specs.QuestionAxioms.{BuiltQuestion, question_built, roomless}
use Rattle.step_encode.specs.Coded.{CodedSteps}
use Rattle.proof_ledger.proofs.AxiomLists.{axioms_added}
use Rattle.sat_solve.specs.Leaving.{AddsAxioms}

-- the parts of an empty log's question, and their book
pub stage_begun : {R : Type 0} (net : Net) (n : ℕ) (kept : Kept R) (old : List BookEntry) → kept.log ≡ no_log → old ≡ [] → AddsAxioms old kept.book.entries → kept.parts.counter.columns ≡ [] → IsBuilt net kept.log n kept.parts kept.book.entries →
    stage_of kept ≡ first_stage net n
stage_begun net n kept old log empty adds none built = λ i. record { log = log i; built = roomless (first i); book = book i }
  where
    first : built_of kept.parts kept.book.entries ≡ question_built net no_log n 0
    first = built.determined ∙ ap (λ (columns : List (List ℕ)). question_built net kept.log n (length columns)) none ∙ ap (λ l. question_built net l n 0) log

    whole : kept.book.entries ≡ map axiomatic adds.axioms
    whole = adds.more ∙ ap (λ (o : List BookEntry). o ++ map axiomatic adds.axioms) empty

    book : kept.book.entries ≡ map axiomatic (question_built net no_log n 0).axioms
    book = whole ∙ ap (map axiomatic) (sym (axioms_added [] adds.axioms) ∙ sym (ap axioms_of whole) ∙ ap (λ (q : BuiltQuestion). q.axioms) first)

-- where the book stays, nothing was asked
pub question_unasked : (net : Net) (n budget : ℕ) (old new : Stage) → new.book ≡ old.book → IsUnanswered net n budget old new
question_unasked net n budget old new same = ([], inl same)

module _ {R : Type 0} (budget : ℕ) (old new : Kept R) (keeps : KeepsQuestion old.parts new.parts old.book.entries new.book.entries) where
  pub question_goes_on : new.log ≡ old.log → HasGrownWithin budget old.book.entries new.book.entries → KeepsLog budget (stage_of old) (stage_of new)
  question_goes_on same grown = record {
    log = same;
    columns = length keeps.counter.columns;
    built = ap roomless keeps.built ∙ columns_roomless (built_of old.parts old.book.entries) (length keeps.counter.columns);
    grown = grown;
  }

  pub question_told_by : (net : Net) (n : ℕ) (found : Found) → old.parts.step.steps ≡ n →
      IsAnswered (meanings_of_parts new.parts) (built_of old.parts old.book.entries) net old.log new.parts.step.steps budget old.book.entries new.book.entries found → IsValidBook new.book.entries → IsToldBy net n budget (stage_of old) (stage_of new) found
  question_told_by net n found time answered valid =
      let first = built_of old.parts old.book.entries in
      let steps = ap (λ (s : CodedSteps). s.steps) keeps.step ∙ time in
      record {
        meanings = meanings_of_parts new.parts;
        answered = answered_roomless (meanings_of_parts new.parts) first net old.log n budget old.book.entries new.book.entries found
            (subst (λ k. IsAnswered (meanings_of_parts new.parts) first net old.log k budget old.book.entries new.book.entries found) steps answered);
        valid = valid;
      }

  -- without an answer
  pub question_unanswered : (net : Net) (n : ℕ) → old.parts.step.steps ≡ n → IsOpenAtMost (meanings_of_parts new.parts) net old.log new.parts.step.steps budget old.book.entries new.book.entries → IsUnanswered net n budget (stage_of old) (stage_of new)
  question_unanswered net n time unanswered =
      let steps = ap (λ (s : CodedSteps). s.steps) keeps.step ∙ time in
      (meanings_of_parts new.parts, subst (λ k. IsOpenAtMost (meanings_of_parts new.parts) net old.log k budget old.book.entries new.book.entries) steps unanswered)
