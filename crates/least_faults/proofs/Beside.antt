-- Columns after columns, where the book has further axioms, and where it has none.
use Rattle.std.proofs.Common.{◌≡◌, ◌∙◌, ℕ, zero, suc, ◌+◌, ◌<◌, ◌≤◌, List, [], ◌++◌, length, refl, sym, ap, subst, arith, append-nil, append_assoc, length-append}
use Rattle.std.proofs.lemmas.List.{append_cancel_left}
use Rattle.card_counter.specs.CounterState.{with_column, next_clauses}
use Rattle.des_base.specs.declared.TheConstants.{MOST_COLUMNS}
use Rattle.least_faults.proofs.Below.{room_of}
use Rattle.least_faults.proofs.Columns.{parts_grow, room_grows}
use Rattle.least_faults.proofs.ColumnsBuilt.{columns_counted}
use Rattle.least_faults.specs.Columns.{columns_built}
use Rattle.least_faults.specs.Growing.{KeepsQuestion}
use Rattle.least_faults.specs.Parts.{AreParts, AreReady, AreReadyBeside, HaveRoom, built_of}
use Rattle.least_faults.specs.declared.parts.Parts.{Parts}
use Rattle.proof_ledger.specs.Book.{BookEntry, axioms_of}
use Rattle.prop_core.specs.Clauses.{Clause}
use Rattle.run_decode.proofs.WholeClauses.{clauses_grow}
use Rattle.run_decode.specs.QuestionAxioms.{BuiltQuestion}
use Rattle.run_decode.specs.WholeNaming.{AreClausesOf}
use Rattle.proof_ledger.proofs.AxiomLists.{axioms_added}
use Rattle.sat_solve.specs.Leaving.{AddsAxioms}

-- ---- what a question is with further columns

abbrev ArePartsOf : BuiltQuestion → Type 0
ArePartsOf question = AreParts question.steps question.code question.counter question.vars question.axioms

abbrev HasRoomIn : BuiltQuestion → Type 0
HasRoomIn question = HaveRoom question.steps question.code question.counter question.vars

inputs_stay : (question : BuiltQuestion) (columns : ℕ) → (columns_built question columns).counter.inputs ≡ question.counter.inputs
inputs_stay question zero = refl
inputs_stay question (suc columns) = inputs_stay question columns

few_before : (question : BuiltQuestion) (columns : ℕ) → length question.counter.columns + suc columns ≤ MOST_COLUMNS → length (columns_built question columns).counter.columns < MOST_COLUMNS
few_before question columns few = let counted = columns_counted question columns in omega (arith, counted, few)

some_before : (question : BuiltQuestion) (columns : ℕ) → 0 < length question.counter.inputs → 0 < length (columns_built question columns).counter.inputs
some_before question columns some = subst (λ inputs. 0 < length inputs) (sym (inputs_stay question columns)) some

parts_by_columns : (question : BuiltQuestion) (columns : ℕ) → ArePartsOf question → 0 < length question.counter.inputs → length question.counter.columns + columns ≤ MOST_COLUMNS → ArePartsOf (columns_built question columns)
parts_by_columns question zero parts some few = parts
parts_by_columns question (suc columns) parts some few =
    let before = columns_built question columns in
    parts_grow before.steps before.code before.counter before.vars before.axioms (parts_by_columns question columns parts some (omega (arith, few))) (some_before question columns some) (few_before question columns few)

room_by_columns : (question : BuiltQuestion) (columns : ℕ) → HasRoomIn question → 0 < length question.counter.inputs → length question.counter.columns + columns ≤ MOST_COLUMNS → HasRoomIn (columns_built question columns)
room_by_columns question zero room some few = room
room_by_columns question (suc columns) room some few =
    let before = columns_built question columns in
    room_grows before.steps before.code before.counter before.vars (room_by_columns question columns room some (omega (arith, few))) (some_before question columns some) (few_before question columns few)

-- the clauses of this many further columns, one column behind the other
further_clauses : BuiltQuestion → ℕ → List Clause
further_clauses question zero = []
further_clauses question (suc columns) = let before = columns_built question columns in further_clauses question columns ++ next_clauses before.counter before.vars

axioms_by_columns : (question : BuiltQuestion) (columns : ℕ) → (columns_built question columns).axioms ≡ question.axioms ++ further_clauses question columns
unfolding further_clauses
axioms_by_columns question zero = sym (append-nil question.axioms)
axioms_by_columns question (suc columns) =
    let before = columns_built question columns in
    ap (λ axioms. axioms ++ next_clauses before.counter before.vars) (axioms_by_columns question columns) ∙ append_assoc question.axioms (further_clauses question columns) (next_clauses before.counter before.vars)

-- clauses of the parts have those of the columns behind them
clauses_by_columns : (question : BuiltQuestion) (columns : ℕ) (own : List Clause) → HasRoomIn question → AreClausesOf question.steps question.code question.counter own → 0 < length question.counter.inputs → length question.counter.columns + columns ≤ MOST_COLUMNS →
    AreClausesOf (columns_built question columns).steps (columns_built question columns).code (columns_built question columns).counter (own ++ further_clauses question columns)
unfolding further_clauses
clauses_by_columns question zero own room clauses some few = subst (AreClausesOf question.steps question.code question.counter) (sym (append-nil own)) clauses
clauses_by_columns question (suc columns) own room clauses some few =
    let before = columns_built question columns in
    let there = room_by_columns question columns room some (omega (arith, few)) in
    let so_far = clauses_by_columns question columns own room clauses some (omega (arith, few)) in
    subst (AreClausesOf before.steps before.code (with_column before.counter before.vars)) (append_assoc own (further_clauses question columns) (next_clauses before.counter before.vars))
    ((clauses_grow before.steps before.code before.counter (own ++ further_clauses question columns) there.together.counted.full so_far).columns before.vars)

-- ---- of parts

pub beside : {R : Type 0} (may : R → ℕ → Type 0) (gives : R → ℕ → ℕ → Type 0) (parts : Parts R) (book : List BookEntry) → AreReady may gives parts book → AreReadyBeside may gives parts book
beside may gives parts book ready = record {
  coded = room_of parts.step parts.code.coded parts.counter parts.vars (axioms_of book) ready.coded;
  known = ready.known;
  adopted_all = ready.adopted_all;
  enough = ready.enough;
  ranked = ready.ranked;
}

few_kept : {R : Type 0} {book entries : List BookEntry} (old new : Parts R) (keeps : KeepsQuestion old new book entries) → length new.counter.columns ≤ MOST_COLUMNS → length old.counter.columns + length keeps.counter.columns ≤ MOST_COLUMNS
few_kept old new keeps few = let more = ap length keeps.counter.more ∙ length-append old.counter.columns keeps.counter.columns in omega (arith, more, few)

-- what was ready with no further axioms still is
pub alone_still : {R : Type 0} (may : R → ℕ → Type 0) (gives : R → ℕ → ℕ → Type 0) (old new : Parts R) (book entries : List BookEntry) → 0 < length old.counter.inputs → AreReadyBeside may gives new entries → KeepsQuestion old new book entries →
    AreReady may gives old book → AreReady may gives new entries
alone_still may gives old new book entries some ready keeps alone = record {
  coded = subst ArePartsOf (sym keeps.built) (parts_by_columns (built_of old book) (length keeps.counter.columns) alone.coded some (few_kept old new keeps ready.coded.columns));
  known = ready.known;
  adopted_all = ready.adopted_all;
  enough = ready.enough;
  ranked = ready.ranked;
}

-- the axioms that were added are those of the columns, and so join whatever list has the clauses of the parts
pub clauses_still : {R : Type 0} (old new : Parts R) (book entries : List BookEntry) (own : List Clause) → 0 < length old.counter.inputs → HaveRoom old.step old.code.coded old.counter old.vars → length new.counter.columns ≤ MOST_COLUMNS →
    KeepsQuestion old new book entries → (adds : AddsAxioms book entries) → AreClausesOf old.step old.code.coded old.counter own → AreClausesOf new.step new.code.coded new.counter (own ++ adds.axioms)
clauses_still old new book entries own some room few keeps adds clauses =
    subst (λ more. AreClausesOf new.step new.code.coded new.counter (own ++ more)) (append_cancel_left (axioms_of book) (further_clauses first columns) adds.axioms (sym (axioms_by_columns first columns) ∙ sym (ap (λ (q : BuiltQuestion). q.axioms) keeps.built) ∙ ap axioms_of adds.more ∙ axioms_added book adds.axioms))
    (subst (λ (q : BuiltQuestion). AreClausesOf q.steps q.code q.counter (own ++ further_clauses first columns)) (sym keeps.built)
    (clauses_by_columns first columns own room clauses some (few_kept old new keeps few)))
  where
    first : BuiltQuestion
    first = built_of old book

    columns : ℕ
    columns = length keeps.counter.columns
