-- The parts of a question, and their book, with a further column.
use Rattle.std.proofs.Common.{◌≡◌, ◌∙◌, ℕ, ◌+◌, ◌-◌, ◌*◌, ◌<◌, ◌≤◌, Contains, List, [], ◌∷◌, ◌++◌, map, take, drop, length, max, refl, sym, ap, subst, arith, append_assoc, append-nil, length-append}
use Rattle.std.proofs.Math.Seq.{take-append_seam, drop-append_seam}
use Rattle.std.proofs.lemmas.List.Elements.{All-weaker, Contains-append_right as append_right}
use Rattle.std.specs.List.{AllByRecursion, range_with_len}
use Rattle.card_counter.proofs.States.{columns_add_clauses, one_more_column, grown_is_made}
use Rattle.card_counter.specs.CounterState.{CounterState, counter_clauses, with_column, next_clauses}
use Rattle.des_base.proofs.Elements.{all_change, all_from}
use Rattle.least_faults.proofs.Below.{counter_below}
use Rattle.least_faults.proofs.Bounded.{bounded_column, one_less}
use Rattle.least_faults.proofs.FewClauses.{AreFew, few_in_column}
use Rattle.least_faults.specs.Growing.{KeepsColumns}
use Rattle.des_base.specs.declared.TheConstants.{MOST_COLUMNS, VAR_LIMIT}
use Rattle.least_faults.specs.Parts.{AreParts, AreReadyBeside, HaveRoom}
use Rattle.log_encode.specs.CodedLog.{CodedLog}
use Rattle.proof_ledger.specs.Book.{BookEntry, axiomatic, clauses_of}
use Rattle.prop_core.specs.Clauses.{Clause, HasValues}
use Rattle.prop_core.specs.declared.lit.Lit.{Lit}
use Rattle.run_decode.proofs.WholeClauses.{clauses_grow}
use Rattle.run_decode.proofs.WholeNames.{together_grow}
use Rattle.sat_prop.specs.Changes.{IsFront}
use Rattle.step_encode.specs.Coded.{CodedSteps}
use Rattle.least_faults.specs.declared.parts.Parts.{Parts}
use Rattle.sat_order.specs.Rank.{IsRanked}
use Rattle.sat_solve.specs.Solving.{SolverState}
use Rattle.proof_ledger.proofs.AxiomLists.{clauses_added}
use Rattle.sat_solve.specs.Leaving.{AddsAxioms}

-- ---- columns that are added to a counter

abbrev pub keeps_none : (counter : CounterState) → KeepsColumns counter counter
keeps_none counter = record { inputs = refl; columns = []; more = sym (append-nil counter.columns) }

abbrev pub keeps_both : (old mid new : CounterState) → KeepsColumns old mid → KeepsColumns mid new → KeepsColumns old new
keeps_both old mid new first second = record {
  inputs = second.inputs ∙ first.inputs;
  columns = first.columns ++ second.columns;
  more = second.more ∙ ap (λ (columns : List (List ℕ)). columns ++ second.columns) first.more ∙ append_assoc old.columns first.columns second.columns;
}

-- ---- the parts with it

columns_then : (counter : CounterState) (first : ℕ) → length (with_column counter first).columns ≡ length counter.columns + 1
columns_then counter first = omega (arith, one_more_column counter.columns (range_with_len first (length counter.inputs)))

pub parts_grow : (steps : CodedSteps) (code : CodedLog) (counter : CounterState) (vars : ℕ) (axioms : List Clause) → AreParts steps code counter vars axioms → 0 < length counter.inputs → length counter.columns < MOST_COLUMNS →
    AreParts steps code (with_column counter vars) (vars + length counter.inputs) (axioms ++ next_clauses counter vars)
parts_grow steps code counter vars axioms parts some few =
    let above = parts.above in record {
      together = (together_grow steps code counter vars parts.together above parts.made).by_column some;
      clauses = (clauses_grow steps code counter axioms parts.together.counted.full parts.clauses).columns vars;
      above = omega (arith, above);
      made = grown_is_made counter vars parts.made;
      bounded = bounded_column steps code counter vars axioms parts.bounded (with_column counter vars) (next_clauses counter vars) few refl (columns_then counter vars) (few_in_column counter vars).few;
    }

-- ---- beside further axioms

-- there is room for the variables of a column
pub column_fits : (steps : CodedSteps) (code : CodedLog) (counter : CounterState) (vars : ℕ) → HaveRoom steps code counter vars → length counter.columns < MOST_COLUMNS → vars + length counter.inputs ≤ VAR_LIMIT
column_fits steps code counter vars room few =
    let one = one_less (length counter.columns) (length counter.inputs) few in
    let fits = room.fits in
    omega (arith, one, fits)

-- and then for those that are left
pub room_grows : (steps : CodedSteps) (code : CodedLog) (counter : CounterState) (vars : ℕ) → HaveRoom steps code counter vars → 0 < length counter.inputs → length counter.columns < MOST_COLUMNS →
    HaveRoom steps code (with_column counter vars) (vars + length counter.inputs)
room_grows steps code counter vars room some few =
    let above = room.above in
    let fits = room.fits in
    let more = columns_then counter vars in
    let one = one_less (length counter.columns) (length counter.inputs) few in
    let left = ap (λ k. (256 - k) * length counter.inputs) more in record {
      together = (together_grow steps code counter vars room.together above room.made).by_column some;
      above = omega (arith, above);
      made = grown_is_made counter vars room.made;
      columns = omega (arith, more, few);
      fits = omega (arith, one, fits, left);
    }

-- the clauses of a column are over variables that were made
column_below : (steps : CodedSteps) (code : CodedLog) (counter : CounterState) (vars : ℕ) → HaveRoom steps code (with_column counter vars) (vars + length counter.inputs) → AllByRecursion (HasValues (vars + length counter.inputs)) (next_clauses counter vars)
column_below steps code counter vars room = all_from (HasValues (vars + length counter.inputs)) (next_clauses counter vars) (λ clause in'.
    counter_below steps code (with_column counter vars) (vars + length counter.inputs) room clause
    (subst (λ cs. Contains cs clause) (sym (columns_add_clauses counter vars)) (append_right (counter_clauses counter) (next_clauses counter vars) clause in')))

-- What a column leaves: its axioms stand behind those of the book, and a solver with enough variables and room can adopt them.
pub record HasColumn (steps : CodedSteps) (code : CodedLog) (old new : CounterState) (vars : ℕ) (adopted : List Clause) (values : ℕ) (book entries : List BookEntry) : Type 0 where
  pub room : HaveRoom steps code new vars
  pub enough : vars ≤ values
  pub front : IsFront adopted (clauses_of entries)
  pub long : length (clauses_of entries) ≤ length adopted + 2 * length old.inputs
  pub known : AllByRecursion (HasValues values) (drop (length adopted) (clauses_of entries))
  pub axioms : AddsAxioms book entries
  pub kept : KeepsColumns old new
  pub columns : length new.columns ≡ length old.columns + 1

column_here : (steps : CodedSteps) (code : CodedLog) (counter : CounterState) (vars : ℕ) (values : ℕ) (book : List BookEntry) →
    HaveRoom steps code counter vars → 0 < length counter.inputs → length counter.columns < MOST_COLUMNS → vars + length counter.inputs ≤ values →
    HasColumn steps code counter (with_column counter vars) (vars + length counter.inputs) (clauses_of book) values book (book ++ map axiomatic (next_clauses counter vars))
column_here steps code counter vars values book room some few enough =
    let grown = room_grows steps code counter vars room some few in
    let all = clauses_added book (next_clauses counter vars) in
    let below = column_below steps code counter vars grown in
    let known = all_change (HasValues (vars + length counter.inputs)) (HasValues values) (next_clauses counter vars)
    (λ clause low. All-weaker (λ (l : Lit). l.var < vars + length counter.inputs) (λ (l : Lit). l.var < values) (λ l less. omega (arith, less, enough)) clause low) below in
    let few' = (few_in_column counter vars).few in
    record {
      room = grown;
      enough = enough;
      front = ap (take (length (clauses_of book))) all ∙ take-append_seam (clauses_of book) (next_clauses counter vars);
      long = let whole = ap length all in omega (arith, whole, length-append (clauses_of book) (next_clauses counter vars), few');
      known = subst (AllByRecursion (HasValues values)) (sym (ap (drop (length (clauses_of book))) all ∙ drop-append_seam (clauses_of book) (next_clauses counter vars))) known;
      axioms = record { axioms = next_clauses counter vars; more = refl };
      kept = record { inputs = refl; columns = range_with_len vars (length counter.inputs) ∷ []; more = refl };
      columns = columns_then counter vars;
    }

pub column_added : (steps : CodedSteps) (code : CodedLog) (old new : CounterState) (vars then : ℕ) (adopted kept : List Clause) (values : ℕ) (book mid entries : List BookEntry) (clauses : List Clause) →
    HaveRoom steps code old vars → adopted ≡ clauses_of book → 0 < length old.inputs → length old.columns < MOST_COLUMNS → vars + length old.inputs ≤ values →
    new ≡ with_column old vars → then ≡ vars + length old.inputs → kept ≡ adopted → mid ≡ book → clauses ≡ next_clauses old vars → entries ≡ mid ++ map axiomatic clauses →
    HasColumn steps code old new then kept values book entries
column_added steps code old new vars then adopted kept values book mid entries clauses room all some few enough grown count same book_same written pushed =
    let own = column_here steps code old vars values book room some few enough in
    let there : entries ≡ book ++ map axiomatic (next_clauses old vars) = pushed ∙ ap (λ (front : List BookEntry). front ++ map axiomatic clauses) book_same ∙ ap (λ (cs : List Clause). book ++ map axiomatic cs) written in
    subst (HasColumn steps code old new then kept values book) (sym there)
    (subst (λ (held : List Clause). HasColumn steps code old new then held values book (book ++ map axiomatic (next_clauses old vars))) (sym (same ∙ all))
    (subst (λ (n : ℕ). HasColumn steps code old new n (clauses_of book) values book (book ++ map axiomatic (next_clauses old vars))) (sym count)
    (subst (λ (counter : CounterState). HasColumn steps code old counter (vars + length old.inputs) (clauses_of book) values book (book ++ map axiomatic (next_clauses old vars))) (sym grown) own)))

-- the clauses of a column that were put in a store that had none
pub written_alone : (none written next : List Clause) → none ≡ [] → written ≡ none ++ next → written ≡ next
written_alone none written next empty is = is ∙ ap (λ (front : List Clause). front ++ next) empty

pub few_written : (counter : CounterState) (first : ℕ) (none written : List Clause) → none ≡ [] → written ≡ none ++ next_clauses counter first → AreFew (2 * length counter.inputs) (5 * length counter.inputs) written
few_written counter first none written empty is =
    subst (AreFew (2 * length counter.inputs) (5 * length counter.inputs)) (sym (written_alone none written (next_clauses counter first) empty is)) (few_in_column counter first)

-- a solver that was asked for them has the variables of the column
pub more_values : (before values made vars count inputs : ℕ) → values ≡ max before (made + count) → made ≡ vars → count ≡ inputs → vars + inputs ≤ values
more_values before values made vars count inputs grown same long = omega (arith, grown, same, long)

-- the parts stay ready where their solver gets variables and room
pub reserved_ready : {R : Type 0} (may : R → ℕ → Type 0) (gives : R → ℕ → ℕ → Type 0) (parts : Parts R) (solver : SolverState R) (book entries : List BookEntry) → AreReadyBeside may gives parts book →
    solver.adopted ≡ parts.solver.adopted → parts.solver.vars ≤ solver.vars → (IsRanked may gives parts.solver.order → IsRanked may gives solver.order) → entries ≡ book → AreReadyBeside may gives (record parts { solver = solver }) entries
reserved_ready may gives parts solver book entries ready same more ranked same_book =
    subst (AreReadyBeside may gives (record parts { solver = solver })) (sym same_book) (record {
      coded = ready.coded;
      known = ready.known;
      adopted_all = same ∙ ready.adopted_all;
      enough = (let enough = ready.enough in omega (arith, enough, more));
      ranked = ranked ready.ranked;
    })
