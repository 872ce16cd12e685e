-- What the solver is asked under what is assumed of a question, and what its answer shows.
use Rattle.std.proofs.Common.{◌≡◌, ◌∙◌, ℕ, List, Option, IfNone, IfOk, Result, Ok, Err, refl, sym, ap, subst}
use Rattle.card_counter.specs.Counting.{true_count}
use Rattle.card_counter.specs.CounterState.{CounterState}
use Rattle.des_net.specs.Network.{Net, IsNetwork}
use Rattle.least_faults.proofs.Asked.{asked_explained, asked_refuted, asked_spent, begun_true, none_added, true_run}
use Rattle.least_faults.proofs.Assuming.{assumed_below, compatible}
use Rattle.least_faults.proofs.Posing.{poses}
use Rattle.least_faults.proofs.Staying.{belong_still, built_for}
use Rattle.answers.specs.declared.found.Best.{Best}
use Rattle.least_faults.specs.declared.asking.Asked.TheVariants.{Explained, Refuted, Spent}
use Rattle.least_faults.specs.declared.parts.Parts.{Parts}
use Rattle.answers.specs.Explanations.{IsExplanation}
use Rattle.least_faults.specs.Asking.{AreAssumed, HasAsked, IsSolvedWithin}
use Rattle.least_faults.specs.Columns.{built_within}
use Rattle.least_faults.specs.Evidence.{IsPosed}
use Rattle.least_faults.specs.Growing.{KeepsQuestion}
use Rattle.least_faults.specs.Parts.{AreParts, AreReady, BelongTo, built_of, meanings_of_parts}
use Rattle.log_order.specs.Log.{Log, IsValidLog}
use Rattle.proof_ledger.specs.Book.{BookEntry, axioms_of, IsValidBook}
use Rattle.prop_core.specs.Clauses.{AreConsistent, HasValues, value_in}
use Rattle.prop_core.specs.declared.lit.Lit.{Lit}
use Rattle.prop_core.proofs.Literals.{wider}
use Rattle.run_decode.specs.Decoding.{IsTrueRun}
use Rattle.run_decode.specs.QuestionAxioms.{BuiltQuestion}
use Rattle.sat_solve.specs.Searching.{HasAxiomVars, HasPut, IsAnswer, IsSearched}
use Rattle.sat_solve.specs.Solving.{SolverState}
use Rattle.sat_solve.specs.declared.answer.Answer.{Answer}
use Rattle.sat_solve.specs.declared.answer.Answer.TheVariants as solver
use Rattle.sat_solve.proofs.Entries.{same_axioms}
use Rattle.sat_solve.specs.Leaving.{PutsNoFinal, AddsAxioms}
use Rattle.sat_solve.proofs.Leaving.{axioms_and_learnt}

-- ---- the question to the solver

-- the solver can be asked: what is assumed is of known variables, and compatible
pub record CanSearch (vars : ℕ) (assumed : List Lit) : Type 0 where
  pub known : HasValues vars assumed
  pub compatible : AreConsistent assumed

pub can_search : {R : Type 0} (may : R → ℕ → Type 0) (gives : R → ℕ → ℕ → Type 0) (old parts : Parts R) (first book : List BookEntry) (net : Net) (log : Log) (bound : Option ℕ) (assumed slice : List Lit) → AreReady may gives parts book → KeepsQuestion old parts first book → BelongTo net log old → IsNetwork net → IsValidLog log →
    AreAssumed old.counter parts bound assumed → slice ≡ assumed → CanSearch parts.solver.vars slice
can_search may gives old parts first book net log bound assumed slice ready kept belonged network valid are same = subst (CanSearch parts.solver.vars) (sym same) (record {
  known = wider parts.vars parts.solver.vars assumed ready.enough (assumed_below parts.step parts.code.coded parts.counter parts.vars (axioms_of book) (axioms_of book) assumed parts.step.net log parts.step.steps bound ready.coded asks);
  compatible = compatible assumed asks.faithful.consistent;
})
  where
    belong : BelongTo net log parts
    belong = belong_still net log old parts kept belonged

    asks : IsPosed (meanings_of_parts parts) (axioms_of book) assumed parts.step.net log parts.step.steps bound
    asks = poses parts.step parts.code.coded parts.counter parts.vars (axioms_of book) bound assumed ready.coded are.assumptions log (subst IsNetwork (sym belong.of_steps) network) valid belong.same_log

pub solved : {R E : Type 0} (before : CounterState) (parts : Parts R) (solver : SolverState R) (bound : Option ℕ) (assumed slice : List Lit) (old mid new : List BookEntry) (left after : ℕ) (result : Result Answer E) → AreAssumed before parts bound assumed → slice ≡ assumed → AddsAxioms old mid → IfNone bound (mid ≡ old) →
    HasAxiomVars mid → IsSearched mid new left after → IfOk result (HasPut mid new) → IfOk result (IsAnswer solver.assignment new slice after) → IfOk result (IsSolvedWithin before (record parts { solver = solver }) bound old new left after)
solved before parts solver bound assumed slice old mid new left after (Err error) are same adds none known searched put says = tt
solved before parts solver bound assumed slice old mid new left after (Ok answer) are same adds none known searched put says = record {
  mid = mid;
  axioms = adds;
  none = none;
  known = known;
  assumed = assumed;
  are = record { listed = are.listed; assumptions = are.assumptions; columns = are.columns };
  searched = searched;
  put = put;
  says = subst (λ (xs : List Lit). IsAnswer solver.assignment new xs after answer) same says;
}

-- ---- what its answer shows

module _ {R : Type 0} (may : R → ℕ → Type 0) (gives : R → ℕ → ℕ → Type 0) (begun parts : Parts R) (net : Net) (log : Log) (bound : Option ℕ) (old new : List BookEntry) (before after : ℕ) (answer : Answer) (ready : AreReady may gives parts new) (kept : KeepsQuestion begun parts old new) (belonged : BelongTo net log begun)
    (network : IsNetwork net) (valid : IsValidLog log) (is : IsSolvedWithin begun.counter parts bound old new before after answer) where
  belong : BelongTo net log parts
  belong = belong_still net log begun parts kept belonged

  same_now : axioms_of new ≡ axioms_of is.mid
  same_now = ap axioms_of is.searched.whole ∙ same_axioms is.mid is.searched.since is.searched.derived

  coded : AreParts parts.step parts.code.coded parts.counter parts.vars (axioms_of is.mid)
  coded = subst (AreParts parts.step parts.code.coded parts.counter parts.vars) same_now ready.coded

  built : built_of parts new ≡ built_within (built_of begun old) bound
  built = built_for begun parts bound kept is.are.columns

  listed : axioms_of is.mid ≡ (built_within (built_of begun old) bound).axioms
  listed = sym same_now ∙ ap (λ (question : BuiltQuestion). question.axioms) built

  counted : parts.vars ≡ (built_within (built_of begun old) bound).vars
  counted = ap (λ (question : BuiltQuestion). question.vars) built

  put_as : (other : Answer) → answer ≡ other → HasPut is.mid new other
  put_as other same = subst (HasPut is.mid new) same is.put

  says : (other : Answer) → answer ≡ other → IsAnswer parts.solver.assignment new is.assumed after other
  says other same = subst (IsAnswer parts.solver.assignment new is.assumed after) same is.says

  pub shown_refuted : (number : ℕ) → answer ≡ solver.Unsat number → IsValidBook new → HasAsked parts (built_of begun old) net log bound old new before after Refuted
  shown_refuted number same book =
      asked_refuted parts.step parts.code.coded parts.counter parts.vars net log is.mid coded belong.of_steps network valid belong.same_log bound is.assumed is.are.assumptions old new before after is.axioms is.searched is.known (built_of begun old) refl is.are.columns listed counted
      number (put_as (solver.Unsat number) same) (says (solver.Unsat number) same) book

  pub shown_spent : answer ≡ solver.Spent → HasAsked parts (built_of begun old) net log bound old new before after Spent
  shown_spent same =
      asked_spent parts.step parts.code.coded parts.counter parts.vars net log is.mid coded belong.of_steps network valid belong.same_log bound is.assumed is.are.assumptions old new before after is.axioms is.searched is.known (built_of begun old) refl is.are.columns listed counted
      (none_added bound old is.mid is.axioms is.none) (put_as solver.Spent same) (says solver.Spent same)

  -- nothing is refuted where there is a model
  pub shown_none : answer ≡ solver.Sat → PutsNoFinal old new
  shown_none same = let put = put_as solver.Sat same in axioms_and_learnt old is.mid new is.axioms (record { since = put.since; whole = put.whole; all_learnt = put.put })

  pub shown_run : answer ≡ solver.Sat → IsTrueRun parts.step parts.code.coded (value_in parts.solver.assignment)
  shown_run same =
      let model = says solver.Sat same in
      let value = value_in parts.solver.assignment in
      true_run parts.step parts.code.coded parts.counter parts.vars (axioms_of is.mid) bound is.assumed value coded is.are.assumptions (begun_true value is.mid new before after is.searched model.clauses) model.assumptions

  pub shown_explained : (best : Best) → answer ≡ solver.Sat → IsExplanation net log parts.step.steps best → best.faults ≡ true_count (value_in parts.solver.assignment) parts.counter.inputs → HasAsked parts (built_of begun old) net log bound old new before after (Explained best)
  shown_explained best same given faults =
      let model = says solver.Sat same in
      let value = value_in parts.solver.assignment in
      asked_explained parts.step parts.code.coded parts.counter parts.vars net log is.mid coded belong.of_steps network valid belong.same_log bound is.assumed is.are.assumptions old new before after is.axioms is.searched is.known (built_of begun old) refl is.are.columns listed counted
      value best (none_added bound old is.mid is.axioms is.none) (put_as solver.Sat same) (begun_true value is.mid new before after is.searched model.clauses) model.assumptions given faults
