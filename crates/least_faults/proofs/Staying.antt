-- What stays as it is while a question is asked: the code of its steps and of its log, what they belong to, and what is known of the log.
use Rattle.std.proofs.Common.{◌≡◌, ◌≢◌, ◌∙◌, ℕ, suc, ◌+◌, ◌-◌, List, [], length, max, Option, None, Some, refl, sym, ap, arith, subst, append-nil, length-append}
use Rattle.card_counter.specs.CounterState.{CounterState}
use Rattle.des_net.specs.Network.{Net}
use Rattle.least_faults.proofs.Climbing.{come_on, come_further, HasComeTo, HasComeToBy}
use Rattle.least_faults.proofs.Columns.{keeps_none, keeps_both}
use Rattle.least_faults.proofs.ColumnsBuilt.{columns_both, question_columns, within_further, within_none}
use Rattle.answers.specs.declared.found.Best.{Best}
use Rattle.least_faults.specs.declared.asking.Asked.{Asked}
use Rattle.least_faults.specs.declared.asking.Asked.TheVariants.{Refuted}
use Rattle.least_faults.specs.declared.parts.Parts.{Parts}
use Rattle.answers.specs.Explanations.{IsExplanation}
use Rattle.least_faults.specs.Asking.{GoesOnReady, HasAsked}
use Rattle.least_faults.specs.Columns.{columns_built, columns_for, built_within}
use Rattle.least_faults.specs.Growing.{KeepsQuestion}
use Rattle.least_faults.specs.Parts.{BelongTo, IsBuilt, built_of}
use Rattle.log_encode.specs.Drafted.{LogCodeState}
use Rattle.log_order.specs.Log.{Log}
use Rattle.proof_ledger.specs.Book.{BookEntry, axioms_of}
use Rattle.prop_core.specs.Clauses.{Clause}
use Rattle.run_decode.specs.Decoding.{BelongTogether}
use Rattle.run_decode.specs.QuestionAxioms.{BuiltQuestion, question_built}
use Rattle.sat_solve.specs.Solving.{SolverState}
use Rattle.step_encode.specs.Coded.{CodedSteps}
use Rattle.sat_solve.proofs.Leaving.{searching_further}
use Rattle.sat_solve.specs.Leaving.{IsSearching}

-- the columns that were added are counted
columns_kept : {R : Type 0} {book entries : List BookEntry} (old new : Parts R) (keeps : KeepsQuestion old new book entries) → length new.counter.columns ≡ length old.counter.columns + length keeps.counter.columns
columns_kept old new keeps = ap length keeps.counter.more ∙ length-append old.counter.columns keeps.counter.columns

pub question_same : {R : Type 0} (parts : Parts R) (book : List BookEntry) → KeepsQuestion parts parts book book
question_same parts book = record { step = refl; code = refl; counter = keeps_none parts.counter; rank = refl; built = refl }

pub question_both : {R : Type 0} {book then entries : List BookEntry} (old mid new : Parts R) → KeepsQuestion old mid book then → KeepsQuestion mid new then entries → KeepsQuestion old new book entries
question_both {R} {book} {then} {entries} old mid new first second = record {
  step = second.step ∙ first.step;
  code = second.code ∙ first.code;
  counter = keeps_both old.counter mid.counter new.counter first.counter second.counter;
  rank = second.rank ∙ first.rank;
  built = second.built
      ∙ ap (λ (question : BuiltQuestion). columns_built question (length second.counter.columns)) first.built
      ∙ columns_both (built_of old book) (length first.counter.columns) (length second.counter.columns)
      ∙ ap (columns_built (built_of old book)) (sym (length-append first.counter.columns second.counter.columns));
}

-- parts and book that are as before, but for what a solver learnt and reserved
pub question_kept : {R : Type 0} (parts : Parts R) (counter : CounterState) (vars : ℕ) (solver : SolverState R) (book entries : List BookEntry) → counter ≡ parts.counter → vars ≡ parts.vars → solver.order.rank ≡ parts.solver.order.rank → axioms_of entries ≡ axioms_of book →
    KeepsQuestion parts (record parts { counter = counter; vars = vars; solver = solver }) book entries
question_kept parts counter vars solver book entries same count rank axioms = record {
  step = refl;
  code = refl;
  counter = record { inputs = ap (λ (c : CounterState). c.inputs) same; columns = []; more = ap (λ (c : CounterState). c.columns) same ∙ sym (append-nil parts.counter.columns) };
  rank = rank;
  built = λ i. record { steps = parts.step; code = parts.code.coded; counter = same i; vars = count i; axioms = axioms i };
}

-- what is built with these axioms
abbrev pub with_axioms : {R : Type 0} → Parts R → List Clause → BuiltQuestion
with_axioms parts axioms = record { steps = parts.step; code = parts.code.coded; counter = parts.counter; vars = parts.vars; axioms = axioms }

-- a book that has the same axioms
pub kept_by_axioms : {R : Type 0} (old new : Parts R) (first book last entries : List BookEntry) → axioms_of first ≡ axioms_of book → axioms_of entries ≡ axioms_of last → KeepsQuestion old new book last → KeepsQuestion old new first entries
kept_by_axioms old new first book last entries one two keeps = record {
  step = keeps.step;
  code = keeps.code;
  counter = keeps.counter;
  rank = keeps.rank;
  built = ap (with_axioms new) two ∙ keeps.built ∙ ap (λ (axioms : List Clause). columns_built (with_axioms old axioms) (length keeps.counter.columns)) (sym one);
}

-- ---- what is built

-- Parts and axioms that network, log, n and the number of columns determined are still those that they determine.
pub built_still : {R : Type 0} {book entries : List BookEntry} (net : Net) (log : Log) (n : ℕ) (old new : Parts R) → KeepsQuestion old new book entries → IsBuilt net log n old book → IsBuilt net log n new entries
built_still net log n old new keeps built = record {
  determined = keeps.built
      ∙ ap (λ (question : BuiltQuestion). columns_built question (length keeps.counter.columns)) built.determined
      ∙ question_columns net log n (length old.counter.columns) (length keeps.counter.columns)
      ∙ ap (question_built net log n) (sym (columns_kept old new keeps));
}

-- With the columns that the bound needs, and no more, it is what it was within the bound.
pub built_for : {R : Type 0} {book entries : List BookEntry} (old new : Parts R) (bound : Option ℕ) → KeepsQuestion old new book entries → length new.counter.columns ≡ max (length old.counter.columns) (columns_for bound) →
    built_of new entries ≡ built_within (built_of old book) bound
built_for {R} {book} old new bound keeps wide = keeps.built ∙ ap (columns_built (built_of old book)) (rest (length old.counter.columns) (length new.counter.columns) (length keeps.counter.columns) (columns_kept old new keeps) wide)
  where
    rest : (before after more : ℕ) → after ≡ before + more → after ≡ max before (columns_for bound) → more ≡ columns_for bound - before
    rest before after more all most = omega (arith, all, most)

-- without a bound nothing is added
pub built_same : {R : Type 0} {book entries : List BookEntry} (old new : Parts R) → KeepsQuestion old new book entries → length new.counter.columns ≡ max (length old.counter.columns) (columns_for None) → built_of new entries ≡ built_of old book
built_same {R} {book} old new keeps wide = built_for old new None keeps wide ∙ within_none (built_of old book)

pub belong_still : {R : Type 0} {book entries : List BookEntry} (net : Net) (log : Log) (old new : Parts R) → KeepsQuestion old new book entries → BelongTo net log old → BelongTo net log new
belong_still net log old new keeps belong =
    subst (λ (s : CodedSteps). BelongTogether net log s new.code.coded) (sym keeps.step)
    (subst (λ (c : LogCodeState). BelongTogether net log old.step c.coded) (sym keeps.code) belong)

pub given_still : {R : Type 0} {book entries : List BookEntry} (net : Net) (log : Log) (old new : Parts R) (best : Best) → KeepsQuestion old new book entries → IsExplanation net log old.step.steps best → IsExplanation net log new.step.steps best
given_still net log old new best keeps = subst (λ (s : CodedSteps). IsExplanation net log s.steps best) (sym keeps.step)

-- ---- from bound to bound

-- by the counter alone the parts differ
pub come_by_counter : {R : Type 0} {book entries : List BookEntry} (old new : Parts R) (begun : BuiltQuestion) (net : Net) (log : Log) (k : ℕ) (first last : List BookEntry) (budget left : ℕ) → KeepsQuestion old new book entries →
    HasComeTo old begun net log k first last budget left → HasComeToBy new.code.coded old.counter begun net log new.step.steps k first last budget left
come_by_counter old new begun net log k first last budget left keeps come =
    subst (λ (s : CodedSteps). HasComeToBy new.code.coded old.counter begun net log s.steps k first last budget left) (sym keeps.step)
    (subst (λ (c : LogCodeState). HasComeToBy c.coded old.counter begun net log old.step.steps k first last budget left) (sym keeps.code) come)

-- a bound is refuted
pub comes_further : {R : Type 0} (begin old new : Parts R) (net : Net) (log : Log) (k : ℕ) (first mid last : List BookEntry) (budget before after : ℕ) → KeepsQuestion begin old first mid → KeepsQuestion old new mid last →
    length old.counter.columns ≡ max (length begin.counter.columns) k → HasComeTo old (built_of begin first) net log k first mid budget before → HasAsked new (built_of old mid) net log (Some k) mid last before after Refuted →
    HasComeTo new (built_of begin first) net log (suc k) first last budget after
comes_further begin old new net log k first mid last budget before after kept keeps wide come =
    come_further new.code.coded old.counter new.counter (built_of begin first) (built_of old mid) net log new.step.steps k first mid last budget before after keeps.counter refl refl
    (within_further (built_of begin first) (built_of old mid) (length kept.counter.columns) k kept.built wide)
    (come_by_counter old new (built_of begin first) net log k first mid budget before keeps come)

-- none is
pub comes_on : {R : Type 0} {book entries : List BookEntry} (old new : Parts R) (begun now : BuiltQuestion) (net : Net) (log : Log) (k : ℕ) (first mid last : List BookEntry) (budget before after : ℕ) (what : Asked) → KeepsQuestion old new book entries → what ≢ Refuted →
    HasComeTo old begun net log k first mid budget before → HasAsked new now net log (Some k) mid last before after what → HasComeTo new begun net log k first last budget after
comes_on old new begun now net log k first mid last budget before after what keeps not come =
    come_on new.code.coded old.counter new.counter begun now net log new.step.steps k first mid last budget before after what keeps.counter not (come_by_counter old new begun net log k first mid budget before keeps come)

-- ---- the search goes on

pub goes_both : {R : Type 0} (may : R → ℕ → Type 0) (gives : R → ℕ → ℕ → Type 0) (old mid new : Parts R) (first then last : List BookEntry) (budget before after : ℕ) → KeepsQuestion old mid first then → IsSearching first then budget before → GoesOnReady may gives mid new then last before after →
    GoesOnReady may gives old new first last budget after
goes_both may gives old mid new first then last budget before after kept searching two = record {
  ready = two.ready;
  kept = question_both old mid new kept two.kept;
  searching = searching_further first then last budget before after searching two.searching;
}
