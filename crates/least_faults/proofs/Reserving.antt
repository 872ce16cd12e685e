-- Parts of a question for which further room was made.
use Rattle.std.proofs.Common.{◌≡◌, ◌∙◌, ℕ, ◌*◌, ◌≤◌, Bool, List, length, sym, ap, subst, arith}
use Rattle.card_counter.proofs.States.{room_is_made}
use Rattle.card_counter.specs.CounterState.{CounterState, with_room}
use Rattle.card_counter.specs.Growing.{HasRoom}
use Rattle.des_base.specs.declared.TheConstants.{VAR_LIMIT}
use Rattle.least_faults.specs.Adding.{HasRoomForDraft, IsReserved, KeepsAllButRoom, input_count, is_doubted}
use Rattle.least_faults.specs.Bounds.{question_variables}
use Rattle.least_faults.specs.Parts.{AreParts, AreReady}
use Rattle.least_faults.specs.declared.parts.Parts.{Parts}
use Rattle.question_clauses.specs.Additions.{with_addition}
use Rattle.log_encode.specs.CodedLog.{CodedLog}
use Rattle.log_encode.specs.Drafted.{DraftState, IsDraftOf, LogCodeState}
use Rattle.sat_solve.specs.Searching.{HasAxiomVars}
use Rattle.proof_ledger.specs.Book.{BookEntry, axioms_of, clauses_of}
use Rattle.proof_ledger.specs.Kept.{LedgerState}
use Rattle.prop_core.specs.ClauseStore.{ClauseStore}
use Rattle.prop_core.specs.Clauses.{Clause}
use Rattle.run_decode.proofs.WholeRoom.{room_is_free}
use Rattle.sat_order.specs.Rank.{IsRanked}
use Rattle.sat_solve.specs.Solving.{SolverState}
use Rattle.step_encode.specs.Coded.{CodedSteps}

-- room for further inputs changes nothing else
parts_roomy : (steps : CodedSteps) (code : CodedLog) (counter : CounterState) (vars more : ℕ) (axioms : List Clause) → AreParts steps code counter vars axioms → AreParts steps code (with_room counter more) vars axioms
parts_roomy steps code counter vars more axioms parts =
    let free = room_is_free steps code counter more parts.together in
    let bounded = parts.bounded in
    record {
      together = free.together;
      clauses = free.clauses axioms parts.clauses;
      above = parts.above;
      made = room_is_made vars counter more parts.made;
      bounded = record { columns = bounded.columns; variables = bounded.variables; limit = bounded.limit; lean = bounded.lean };
    }

pub ready_roomy : {R : Type 0} (may : R → ℕ → Type 0) (gives : R → ℕ → ℕ → Type 0) (parts : Parts R) (code : LogCodeState) (counter : CounterState) (solver : SolverState R) (more : ℕ) (book entries : List BookEntry) → AreReady may gives parts book →
    code.coded ≡ parts.code.coded → counter ≡ with_room parts.counter more → solver.adopted ≡ parts.solver.adopted → parts.solver.vars ≤ solver.vars → (IsRanked may gives parts.solver.order → IsRanked may gives solver.order) → entries ≡ book →
    AreReady may gives (record parts { code = code; counter = counter; solver = solver }) entries
ready_roomy may gives parts code counter solver more book entries ready same roomy adopted values ranked kept = record {
  coded = subst (λ (k : CodedLog). AreParts parts.step k counter parts.vars (axioms_of entries)) (sym same)
      (subst (λ (c : CounterState). AreParts parts.step parts.code.coded c parts.vars (axioms_of entries)) (sym roomy)
      (parts_roomy parts.step parts.code.coded parts.counter parts.vars more (axioms_of entries) (subst (λ (b : List BookEntry). AreParts parts.step parts.code.coded parts.counter parts.vars (axioms_of b)) (sym kept) ready.coded)));
  known = subst HasAxiomVars (sym kept) ready.known;
  adopted_all = adopted ∙ ready.adopted_all ∙ ap clauses_of (sym kept);
  enough = (let enough = ready.enough in omega (arith, enough, values));
  ranked = ranked ready.ranked;
}

-- what is reserved for a draft, where the parts are as they were but for their room
pub is_reserved : {R : Type 0} (old new : Parts R) (old_book : List BookEntry) (book : LedgerState) (draft : DraftState) (doubtful : Bool) (clauses : ClauseStore) (cells : ℕ) → IsDraftOf old.code.coded draft.addition old.vars draft → doubtful ≡ is_doubted draft.addition →
    question_variables old.step.net (with_addition old.code.coded.log draft.addition) old.step.steps ≤ VAR_LIMIT → cells ≡ input_count doubtful * length old.counter.columns → clauses.clauses ≡ draft.clauses → HasRoom clauses (2 * cells) (5 * cells) →
    KeepsAllButRoom old new old_book book.entries → HasRoomForDraft draft doubtful cells new book → IsReserved new book (record { draft = draft; doubtful = doubtful; clauses = clauses })
is_reserved old new old_book book draft doubtful clauses cells is doubt fits count same store kept room =
    let counted : cells ≡ input_count doubtful * length new.counter.columns = count ∙ ap (λ (columns : List (List ℕ)). input_count doubtful * length columns) (sym kept.counter.columns) in
    record {
      drafted = subst (λ (k : CodedLog). IsDraftOf k draft.addition new.vars draft) (sym kept.code) (subst (λ (v : ℕ). IsDraftOf old.code.coded draft.addition v draft) (sym kept.vars) is);
      doubted = doubt;
      fits = subst (λ (s : CodedSteps). question_variables s.net (with_addition new.code.coded.log draft.addition) s.steps ≤ VAR_LIMIT) (sym kept.step)
          (subst (λ (k : CodedLog). question_variables old.step.net (with_addition k.log draft.addition) old.step.steps ≤ VAR_LIMIT) (sym kept.code) fits);
      written = same;
      store = subst (λ (k : ℕ). HasRoom clauses (2 * k) (5 * k)) counted store;
      room = subst (λ (k : ℕ). HasRoomForDraft draft doubtful k new book) counted room;
    }
