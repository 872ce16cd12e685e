-- Parts with a scale beside them: as the scale is written, as the solver searches, and behind marks.
use Rattle.std.proofs.Common.{◌≡◌, ◌∙◌, ℕ, ◌+◌, ◌*◌, ◌≤◌, List, [], ◌++◌, map, refl, sym, ap, subst}
use Rattle.event_costs.specs.declared.TheConstants.{MOST_COST}
use Rattle.card_counter.specs.CounterState.{CounterState}
use Rattle.sat_solve.proofs.Leaving.{searching_further, searching_none, searching_searched}
use Rattle.least_faults.proofs.Ranking.{still_ranked}
use Rattle.sat_solve.specs.Leaving.{AddsAxioms}
use Rattle.least_faults.specs.Parts.{AreParts, BelongTo}
use Rattle.least_faults.specs.declared.parts.Parts.{Parts}
use Rattle.des_net.specs.Network.{Net}
use Rattle.log_encode.specs.CodedLog.{CodedLog}
use Rattle.log_encode.specs.Drafted.{LogCodeState}
use Rattle.log_order.specs.Log.{Log}
use Rattle.proof_ledger.specs.Book.{BookEntry, axiomatic, axioms_of, clauses_of}
use Rattle.prop_core.specs.Clauses.{Clause}
use Rattle.run_decode.specs.Decoding.{BelongTogether}
use Rattle.sat_order.specs.Rank.{KeepsRanks}
use Rattle.sat_solve.specs.Searching.{HasAxiomVars, IsSearched}
use Rattle.sat_solve.specs.Solving.{KeepsSize, SolverState}
use Rattle.step_encode.specs.Coded.{CodedSteps}
use Rattle.weight_counter.specs.Scales.{AddsScale, place_variable, scale_clauses}
use Rattle.weight_counter.specs.declared.scale.Scale.{Scale}
use Rattle.weight_counter.specs.declared.weighted.Weighted.{Weighted}
use Rattle.cost_least.specs.Searching.{GoesOnWeighed}
use Rattle.cost_least.specs.Weighed.{AreWeightedInputs, AreWeighedParts, AreWeighed, KeepsCode}
use Rattle.proof_ledger.proofs.AxiomLists.{axioms_added}
use Rattle.sat_solve.proofs.Entries.{same_axioms}

-- ---- as it is written

pub parts_weighed : (cost : ℕ → ℕ) (steps : CodedSteps) (code : CodedLog) (counter : CounterState) (vars next : ℕ) (inputs : List Weighted) (amounts : ℕ) (none all : List Clause) (scale : Scale) (book mid entries : List BookEntry) →
    AreParts steps code counter vars (axioms_of book) → AreWeightedInputs steps code cost inputs → amounts ≡ 1 + MOST_COST → AddsScale inputs amounts vars none scale next all → none ≡ [] → mid ≡ book → entries ≡ mid ++ map axiomatic all →
    AreWeighedParts cost steps code counter next (axioms_of entries) scale
parts_weighed cost steps code counter vars next inputs amounts none all scale book mid entries parts weighted many adds empty same pushed = record {
  own = axioms_of book;
  coded = subst (λ (s : Scale). AreParts steps code counter s.first (axioms_of book)) (sym adds.scale_is) parts;
  inputs = inputs;
  weighted = weighted;
  counted = ap (λ (s : Scale). s.inputs) adds.scale_is;
  amounts = amounts_are ∙ many;
  vars_are = adds.vars ∙ sym (ap (λ (s : Scale). s.first + s.inputs * s.amounts) adds.scale_is);
  within = adds.within;
  whole = ap axioms_of (pushed ∙ ap (λ (front : List BookEntry). front ++ map axiomatic all) same) ∙ axioms_added book all ∙ ap (λ (cs : List Clause). axioms_of book ++ cs) written;
}
  where
    amounts_are : scale.amounts ≡ amounts
    amounts_are = ap (λ (s : Scale). s.amounts) adds.scale_is

    written : all ≡ scale_clauses (place_variable scale) scale.amounts inputs
    written = adds.clauses ∙ ap (λ (cs : List Clause). cs ++ scale_clauses (place_variable scale) amounts inputs) empty ∙ ap (λ (n : ℕ). scale_clauses (place_variable scale) n inputs) (sym amounts_are)

pub adds_pushed : (book mid entries : List BookEntry) (clauses : List Clause) → mid ≡ book → entries ≡ mid ++ map axiomatic clauses → AddsAxioms book entries
adds_pushed book mid entries clauses same pushed = record { axioms = clauses; more = pushed ∙ ap (λ (front : List BookEntry). front ++ map axiomatic clauses) same }

-- ---- as the solver searches

weighed_after : {R : Type 0} (may : R → ℕ → Type 0) (gives : R → ℕ → ℕ → Type 0) (cost : ℕ → ℕ) (parts : Parts R) (scale : Scale) (solver : SolverState R) (before after : ℕ) (mid new : List BookEntry) → AreWeighed may gives cost parts scale mid →
    IsSearched mid new before after → solver.adopted ≡ clauses_of new → solver.vars ≡ parts.solver.vars → KeepsRanks parts.solver.order solver.order → AreWeighed may gives cost (record parts { solver = solver }) scale new
weighed_after may gives cost parts scale solver before after mid new weighed searched all same same_ranks = record {
  coded = subst (λ (axioms : List Clause). AreWeighedParts cost parts.step parts.code.coded parts.counter parts.vars axioms scale) (sym (ap axioms_of searched.whole ∙ same_axioms mid searched.since searched.derived)) weighed.coded;
  known = searched.known weighed.known;
  adopted_all = all;
  enough = subst (λ (v : ℕ). parts.vars ≤ v) (sym same) weighed.enough;
  ranked = still_ranked may gives parts.solver.order solver.order same_ranks weighed.ranked;
}

-- ---- what stays

pub keeps_same : {R : Type 0} (parts : Parts R) → KeepsCode parts parts
keeps_same parts = record { step = refl; code = refl; counter = refl; rank = refl }

pub keeps_both : {R : Type 0} (old mid new : Parts R) → KeepsCode old mid → KeepsCode mid new → KeepsCode old new
keeps_both old mid new one two = record { step = two.step ∙ one.step; code = two.code ∙ one.code; counter = two.counter ∙ one.counter; rank = two.rank ∙ one.rank }

pub belongs_still : {R : Type 0} (net : Net) (log : Log) (old new : Parts R) → KeepsCode old new → BelongTo net log old → BelongTo net log new
belongs_still net log old new keeps belong =
    subst (λ (s : CodedSteps). BelongTogether net log s new.code.coded) (sym keeps.step)
    (subst (λ (c : LogCodeState). BelongTogether net log old.step c.coded) (sym keeps.code) belong)

-- ---- the search goes on

pub goes_none : {R : Type 0} (may : R → ℕ → Type 0) (gives : R → ℕ → ℕ → Type 0) (parts : Parts R) (scale : Scale) (book : List BookEntry) (left : ℕ) → GoesOnWeighed may gives parts parts scale book book left left
goes_none may gives parts scale book left = record {
  still = λ cost weighed. weighed;
  kept = keeps_same parts;
  searching = searching_none book left;
}

pub goes_both : {R : Type 0} (may : R → ℕ → Type 0) (gives : R → ℕ → ℕ → Type 0) (old mid new : Parts R) (scale : Scale) (first then last : List BookEntry) (budget before after : ℕ) → GoesOnWeighed may gives old mid scale first then budget before → GoesOnWeighed may gives mid new scale then last before after →
    GoesOnWeighed may gives old new scale first last budget after
goes_both may gives old mid new scale first then last budget before after one two = record {
  still = λ cost weighed. two.still cost (one.still cost weighed);
  kept = keeps_both old mid new one.kept two.kept;
  searching = searching_further first then last budget before after one.searching two.searching;
}

-- as the solver searches
pub goes_by_search : {R : Type 0} (may : R → ℕ → Type 0) (gives : R → ℕ → ℕ → Type 0) (parts : Parts R) (scale : Scale) (solver : SolverState R) (before after : ℕ) (mid new : List BookEntry) → HasAxiomVars mid → IsSearched mid new before after → solver.adopted ≡ clauses_of new → KeepsSize parts.solver solver →
    GoesOnWeighed may gives parts (record parts { solver = solver }) scale mid new before after
goes_by_search may gives parts scale solver before after mid new known searched all same = record {
  still = λ cost weighed. weighed_after may gives cost parts scale solver before after mid new weighed searched all same.vars same.order;
  kept = record { step = refl; code = refl; counter = refl; rank = same.order.rank };
  searching = searching_searched mid new before after searched known;
}
