-- A question that is built into an empty book, what is found then, and what is left of it.
use Rattle.std.proofs.Common.{◌≡◌, ◌≤◌, ℕ, List, [], ◌++◌, length, map, Some, None, Result, Ok, Err, IfOk, OnErr, ◌⊎◌, inl, inr, ap, arith, count_by, ◌∙◌, refl, subst, sym}
use Rattle.std.specs.Result.{result_ok}
use Rattle.des_base.specs.declared.TheConstants.{MOST_STEPS}
use Rattle.des_base.specs.declared.memory.Memory.{Memory}
use Rattle.des_net.specs.Network.{Net}
use Rattle.least_faults.proofs.AxiomLists.{adds_both}
use Rattle.sat_solve.proofs.Freshness.{fresh_axioms, fresh_both}
use Rattle.answers.specs.declared.found.Found.{Found}
use Rattle.least_faults.specs.declared.parts.Parts.{Parts}
use Rattle.least_faults.specs.Answers.{IsAnswered, IsOpenAtMost}
use Rattle.least_faults.proofs.Staying.{belong_still, built_still}
use Rattle.least_faults.specs.Building.{AreBuilt}
use Rattle.least_faults.specs.Growing.{HasGrownWithin, KeepsQuestion}
use Rattle.least_faults.specs.Parts.{AreReady, IsBuilt, built_of, meanings_of_parts}
use Rattle.log_order.specs.Log.{Log}
use Rattle.proof_ledger.specs.Book.{BookEntry, axiomatic, axioms_of, IsValidBook}
use Rattle.proof_ledger.specs.Fresh.{is_learnt}
use Rattle.prop_core.specs.Clauses.{Clause}
use Rattle.prop_core.specs.VariableNames.{Meaning}
use Rattle.run_decode.proofs.Faults.{count_append}
use Rattle.run_decode.specs.QuestionAxioms.{BuiltQuestion, question_axioms, question_built}
use Rattle.sat_solve.specs.Solving.{SolverState}
use Rattle.inquiries.specs.Begun.{ArePartsOf, HasAskedWithin, HasBegun, HasLearntWithin, HasQuestion, IsAnsweredOnce, IsOpenOnce, MayLearn, unasked_book}
use Rattle.inquiries.specs.Diagnosed.{IsDiagnosed}
use Rattle.proof_ledger.proofs.AxiomLists.{axioms_added, none_learnt}
use Rattle.sat_solve.specs.Leaving.{HaveLearntFresh, AddsAxioms}

-- what is built is what was answered
pub ok_some : {A B : Type 0} (r : Result A B) (P : A → Type 0) (a : A) → Some a ≡ result_ok r → IfOk r P → P a
ok_some (Ok x) P a is h =
    let same : a ≡ x = cc in
    subst P (sym same) h
ok_some (Err e) P a is h = cc

-- an empty book got the axioms that network, log and n determine
pub axioms_begin : {R : Type 0} (net : Net) (log : Log) (n : ℕ) (parts : Parts R) (old book : List BookEntry) → old ≡ [] → AddsAxioms old book → parts.counter.columns ≡ [] → IsBuilt net log n parts book → book ≡ map axiomatic (question_axioms net log n 0)
axioms_begin net log n parts old book empty adds none built = is ∙ ap (λ axioms. map axiomatic axioms) (sym all ∙ ap (λ (q : BuiltQuestion). q.axioms) built.determined ∙ ap (λ (columns : List (List ℕ)). question_axioms net log n (length columns)) none)
  where
    is : book ≡ map axiomatic adds.axioms
    is = adds.more ∙ ap (λ (o : List BookEntry). o ++ map axiomatic adds.axioms) empty

    all : axioms_of book ≡ adds.axioms
    all = ap axioms_of is ∙ axioms_added [] adds.axioms

-- which are the question without columns
pub question_begins : {R : Type 0} (net : Net) (log : Log) (n : ℕ) (parts : Parts R) (book : List BookEntry) → parts.counter.columns ≡ [] → IsBuilt net log n parts book → built_of parts book ≡ question_built net log n 0
question_begins net log n parts book none built = built.determined ∙ ap (λ (columns : List (List ℕ)). question_built net log n (length columns)) none

-- what was found then, by parts that are still those that were built
pub diagnosed_by : {R : Type 0} (names : List (ℕ × Meaning)) (first : BuiltQuestion) (net : Net) (log : Log) (n steps budget : ℕ) (parts : Parts R) (built new : List BookEntry) (found : Found) → first ≡ question_built net log n 0 → built ≡ map axiomatic (question_axioms net log n 0) → IsBuilt net log n parts new → steps ≡ n
    → IsAnswered names first net log steps budget built new found → IsValidBook new → IsDiagnosed net log n budget new found
diagnosed_by names first net log n steps budget parts built new found is_first begun determined same answered valid = record {
  meanings = names;
  answered = subst (λ (q : BuiltQuestion). IsAnswered names q net log n budget (map axiomatic (question_axioms net log n 0)) new found) is_first
      (subst (λ (o : List BookEntry). IsAnswered names first net log n budget o new found) begun (subst (λ (k : ℕ). IsAnswered names first net log k budget built new found) same answered));
  columns = length parts.counter.columns;
  axioms = ap (λ (q : BuiltQuestion). q.axioms) determined.determined;
  valid = valid;
}

-- a book that got axioms alone has nothing else
pub axioms_alone : (book : List BookEntry) → AddsAxioms [] book → book ≡ map axiomatic (axioms_of book)
axioms_alone book adds = adds.more ∙ ap (λ (cs : List Clause). map axiomatic cs) (sym (ap axioms_of adds.more ∙ axioms_added [] adds.axioms))

-- ---- from the one to the other

-- what is built into an empty book is a question of which nothing has been asked
pub begins : {R : Type 0} (may : R → ℕ → Type 0) (gives : R → ℕ → ℕ → Type 0) (net : Net) (log : Log) (n : ℕ) (solver : SolverState R) (parts : Parts R) (old book : List BookEntry) → n ≤ MOST_STEPS → old ≡ [] → AddsAxioms old book → AreBuilt may gives net log n solver book parts
    → HasBegun may gives net log parts book
begins may gives net log n solver parts old book few empty adds built = record {
  parts_of = record {
    belong = built.belong;
    ready = built.ready;
    built = subst (λ (k : ℕ). IsBuilt net log k parts book) (sym built.steps) built.built;
  };
  axioms = subst (λ (k : ℕ). book ≡ map axiomatic (question_axioms net log k 0)) (sym built.steps) (axioms_begin net log n parts old book empty adds built.columns built.built);
  columns = built.columns;
  few = subst (λ (k : ℕ). k ≤ MOST_STEPS) (sym built.steps) few;
}

module _ {R : Type 0} (may : R → ℕ → Type 0) (gives : R → ℕ → ℕ → Type 0) (net : Net) (log : Log) (parts later : Parts R) (old book : List BookEntry) (begun : HasBegun may gives net log parts old) (kept : KeepsQuestion parts later old book) where
  -- the parts that are left are still those of the question
  pub stays_built : IsBuilt net log parts.step.steps later book
  stays_built = built_still net log parts.step.steps parts later kept begun.parts_of.built

  pub steps_stay : later.step.steps ≡ parts.step.steps
  steps_stay = ap (λ s. s.steps) kept.step

  pub parts_stay : AreReady may gives later book → ArePartsOf may gives net log later book
  parts_stay ready = record {
    belong = belong_still net log parts later kept begun.parts_of.belong;
    ready = ready;
    built = subst (λ (n : ℕ). IsBuilt net log n later book) (sym steps_stay) stays_built;
  }

  pub first_built : built_of parts old ≡ question_built net log parts.step.steps 0
  first_built = question_begins net log parts.step.steps parts old begun.columns begun.parts_of.built

  -- and so are the axioms of the book
  pub question_left : (P : Net → Log → ℕ → List BookEntry → Type 0) → P net log parts.step.steps book → HasQuestion net log parts.step.steps P book
  question_left P beside = record { columns = length later.counter.columns; axioms = ap (λ (q : BuiltQuestion). q.axioms) stays_built.determined; beside = beside }

  -- what a search learnt
  learnt_left : (budget : ℕ) → HasGrownWithin budget old book → IsValidBook book → HasLearntWithin budget book
  learnt_left budget grown valid = record {
    within = (let none = ap (count_by is_learnt) begun.axioms ∙ none_learnt (question_axioms net log parts.step.steps 0) in
        let all = ap (count_by is_learnt) grown.whole ∙ count_append is_learnt old grown.since in
        let few = grown.within in
        omega (arith, none, all, few));
    fresh = (let axioms = question_axioms net log parts.step.steps 0 in
        subst (HaveLearntFresh []) (sym grown.whole) (fresh_both [] old old grown.since refl (subst (HaveLearntFresh []) (sym begun.axioms) (fresh_axioms [] axioms)) grown.fresh));
    valid = valid;
  }

  -- it has an answer, or the question is open at most
  asked_left : (budget : ℕ) (result : Result Found Memory) → IfOk result (IsAnswered (meanings_of_parts later) (built_of parts old) net log later.step.steps budget old book) → OnErr result (IsOpenAtMost (meanings_of_parts later) net log later.step.steps budget old book) →
      IsAnsweredOnce net log parts.step.steps budget book ⊎ IsOpenOnce net log parts.step.steps budget book
  asked_left budget (Ok found) answered unanswered = inl (record {
    meanings = meanings_of_parts later;
    found = found;
    answered = subst (λ (q : BuiltQuestion). IsAnswered (meanings_of_parts later) q net log parts.step.steps budget (unasked_book net log parts.step.steps) book found) first_built
        (subst (λ (o : List BookEntry). IsAnswered (meanings_of_parts later) (built_of parts old) net log parts.step.steps budget o book found) begun.axioms (subst (λ (k : ℕ). IsAnswered (meanings_of_parts later) (built_of parts old) net log k budget old book found) steps_stay answered));
  })
  asked_left budget (Err memory) answered unanswered = inr (record {
    meanings = meanings_of_parts later;
    unanswered = subst (λ (o : List BookEntry). IsOpenAtMost (meanings_of_parts later) net log parts.step.steps budget o book) begun.axioms (subst (λ (k : ℕ). IsOpenAtMost (meanings_of_parts later) net log k budget old book) steps_stay unanswered);
  })

  -- with what a search put, or with further axioms alone
  pub search_left : (budget : ℕ) (result : Result Found Memory) → HasGrownWithin budget old book → IfOk result (IsAnswered (meanings_of_parts later) (built_of parts old) net log later.step.steps budget old book) →
      OnErr result (IsOpenAtMost (meanings_of_parts later) net log later.step.steps budget old book) → IsValidBook book → HasQuestion net log parts.step.steps (HasAskedWithin budget) book
  search_left budget result grown answered unanswered valid = question_left (HasAskedWithin budget) (record { learnt = learnt_left budget grown valid; once = asked_left budget result answered unanswered })

  pub axioms_left : AddsAxioms old book → HasQuestion net log parts.step.steps (MayLearn None) book
  axioms_left adds = question_left (MayLearn None) (axioms_alone book (adds_both [] old book (record { axioms = question_axioms net log parts.step.steps 0; more = begun.axioms }) adds))

  pub diagnosed_begun : (budget : ℕ) (found : Found) → IsValidBook book → IsAnswered (meanings_of_parts later) (built_of parts old) net log later.step.steps budget old book found → IsDiagnosed net log parts.step.steps budget book found
  diagnosed_begun budget found valid answered =
      diagnosed_by (meanings_of_parts later) (built_of parts old) net log parts.step.steps later.step.steps budget later old book found first_built begun.axioms stays_built steps_stay answered valid
