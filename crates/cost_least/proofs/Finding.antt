-- From the entries of a search to those of a whole answer: what came before, and the marks.
use Rattle.std.proofs.Common.{◌≡◌, ◌∙◌, ℕ, ◌+◌, ◌≤◌, Bool, false, List, [], ◌∷◌, ◌++◌, Option, None, Some, IfSome, IfNone, refl, sym, ap, subst, arith, count_by}
use Rattle.std.specs.List.{list_any}
use Rattle.event_costs.specs.declared.TheConstants.{MOST_COST}
use Rattle.des_net.specs.Network.{Net}
use Rattle.log_order.specs.Log.{Log}
use Rattle.sat_solve.specs.Leaving.{IsSearching, PutsNoFinal, AddsAxioms, EachFinal}
use Rattle.least_faults.proofs.Closing.{grown_opened}
use Rattle.least_faults.specs.Evidence.{is_final}
use Rattle.least_faults.specs.Growing.{HasGrownWithin}
use Rattle.least_faults.specs.declared.parts.Parts.{Parts}
use Rattle.log_encode.specs.CodedLog.{CodedLog}
use Rattle.log_encode.specs.Drafted.{LogCodeState}
use Rattle.proof_ledger.specs.Book.{BookEntry, mark, axioms_of, clauses_of}
use Rattle.proof_ledger.specs.Fresh.{is_learnt}
use Rattle.prop_core.specs.Clauses.{Clause}
use Rattle.prop_core.specs.Trail.{Clashes}
use Rattle.prop_core.specs.declared.lit.Lit.{Lit}
use Rattle.sat_solve.specs.Searching.{IsPutFor}
use Rattle.sat_solve.specs.declared.answer.Answer.{Answer}
use Rattle.sat_solve.specs.declared.answer.Answer.TheVariants.{Sat}
use Rattle.step_encode.specs.Coded.{CodedSteps}
use Rattle.weight_counter.specs.declared.scale.Scale.{Scale}
use Rattle.cost_least.specs.Answers.{CostAsked, NegatesCost, PoseCostQuestion, IsCostEvidence, IsCheapFound, HasConflictOf, HasConflictAt, HasCostConflict, IsCostAnswered, IsCostLeftOpen, IsKnownAbove}
use Rattle.cost_least.specs.Asking.{HasAskedCost}
use Rattle.cost_least.specs.Searching.{HasFoundCost, HasRefusedCosts, IsSolvedUnder, asked_of}
use Rattle.cost_least.specs.Weighed.{AreWeighedParts, KeepsCode, assumed_at}
use Rattle.answers.specs.declared.cheap.Cheap.{Cheap}
use Rattle.answers.specs.declared.cheap.Cheap.TheVariants.{Found, Absent, Dear, Undecided}
use Rattle.answers.specs.declared.cheap.Priced.{Priced}
use Rattle.cost_least.specs.declared.asking.CostAnswer.{CostAnswer}
use Rattle.cost_least.specs.declared.asking.CostAnswer.TheVariants.{Refuted, Spent}
use Rattle.proof_ledger.proofs.AxiomLists.{marked_axioms, marked_clauses}
use Rattle.sat_solve.proofs.Entries.{learnt_no_final, none_counted, none_final, none_joined, counted_both}
use Rattle.sat_solve.proofs.Leaving.{each_none, final_later, last_later, searching_axioms, searching_further, leaves_searched, leaves_both, leaves_later, leaves_open, leaves_closed, closed_counted, closed_each, closed_last}

-- ---- by the parts as they were

pub asked_back : {R : Type 0} (net : Net) (cost : ℕ → ℕ) (log : Log) (old new : Parts R) (scale : Scale) (bound : Option ℕ) (book then : List BookEntry) (before after : ℕ) (given asked : CostAnswer) → KeepsCode old new → given ≡ asked →
    HasAskedCost (asked_of net cost log new) new.code.coded scale bound book then before after given → HasAskedCost (asked_of net cost log old) old.code.coded scale bound book then before after asked
asked_back net cost log old new scale bound book then before after given asked keeps is has =
    subst (λ (s : CodedSteps). HasAskedCost (record { net = net; cost = cost; log = log; steps = s.steps }) old.code.coded scale bound book then before after asked) keeps.step
    (subst (λ (c : LogCodeState). HasAskedCost (asked_of net cost log new) c.coded scale bound book then before after asked) keeps.code
    (subst (HasAskedCost (asked_of net cost log new) new.code.coded scale bound book then before after) is has))

pub found_still : {R : Type 0} (net : Net) (cost : ℕ → ℕ) (log : Log) (old new : Parts R) (budget : ℕ) (book then : List BookEntry) (cheap : Cheap) → KeepsCode old new → HasFoundCost (asked_of net cost log old) budget book then cheap → HasFoundCost (asked_of net cost log new) budget book then cheap
found_still net cost log old new budget book then cheap keeps = subst (λ (s : CodedSteps). HasFoundCost (record { net = net; cost = cost; log = log; steps = s.steps }) budget book then cheap) (sym keeps.step)

pub coded_back : {R : Type 0} (cost : ℕ → ℕ) (old new : Parts R) (axioms : List Clause) (scale : Scale) → KeepsCode old new → AreWeighedParts cost new.step new.code.coded new.counter new.vars axioms scale → AreWeighedParts cost old.step old.code.coded new.counter new.vars axioms scale
coded_back cost old new axioms scale keeps coded =
    subst (λ (s : CodedSteps). AreWeighedParts cost s old.code.coded new.counter new.vars axioms scale) keeps.step
    (subst (λ (c : LogCodeState). AreWeighedParts cost new.step c.coded new.counter new.vars axioms scale) keeps.code coded)

-- ---- what a search puts

pub found_by : (q : CostAsked) (old new : List BookEntry) (budget left : ℕ) (searching : IsSearching old new budget left) (cheap : Cheap) → HasConflictOf q new cheap → EachFinal (NegatesCost q (axioms_of new)) searching.since → count_by is_final searching.since ≤ 1 + MOST_COST → IsCheapFound q (axioms_of new) searching.since budget cheap → HasFoundCost q budget old new cheap
found_by q old new budget left searching cheap conflict finals few is = record { put = leaves_searched (NegatesCost q (axioms_of new)) (1 + MOST_COST) budget left old new searching finals few; found = is; conflict = conflict }

-- ---- without a bound

module _ (q : CostAsked) (code : CodedLog) (scale : Scale) (old new : List BookEntry) (before after : ℕ) where
  -- the one final entry negates what is assumed without a bound
  final_without : PoseCostQuestion q None (axioms_of new) (assumed_at code scale None) → (asked : HasAskedCost q code scale None old new before after Refuted) → EachFinal (NegatesCost q (axioms_of new)) asked.searching.since
  final_without told asked clause hints in' =
      record { bound = None; few = tt; assumed = assumed_at code scale None; told = told; negates = closed_each asked.searching.since (assumed_at code scale None) asked.means.ends asked.means.negates clause hints in' }

  pub found_absent : PoseCostQuestion q None (axioms_of new) (assumed_at code scale None) → HasAskedCost q code scale None old new before after Refuted → HasFoundCost q before old new Absent
  found_absent told asked = found_by q old new before after asked.searching Absent tt (final_without told asked) (let one = closed_counted asked.searching.since asked.means.ends in omega (arith, one)) (record {
    absent = asked.means.out;
    evidence = record {
      assumed = assumed_at code scale None;
      refuted = closed_last asked.searching.since (assumed_at code scale None) asked.means.ends asked.means.negates;
      told = told;
    };
  })

  pub found_nothing : PoseCostQuestion q None (axioms_of new) (assumed_at code scale None) → HasAskedCost q code scale None old new before after Spent → HasFoundCost q before old new (Undecided 0 None)
  found_nothing told asked = found_by q old new before after asked.searching (Undecided 0 None) (record { assumed = assumed_at code scale None; told = told; clashes = asked.means.clashes })
      (each_none (NegatesCost q (axioms_of new)) asked.searching.since (learnt_no_final asked.searching.since asked.means.learnt)) (let none = none_counted asked.searching.since (learnt_no_final asked.searching.since asked.means.learnt) in omega (arith, none)) (record {
        spent = (let paid = asked.searching.paid in let nothing = asked.means.nothing in omega (arith, paid, nothing));
        needs = λ word order explains. omega arith;
        evidence = λ b is. absurd (omega (arith, is));
        given = tt;
        unknown = (refl, learnt_no_final asked.searching.since asked.means.learnt);
      })

-- ---- where entries came before, none of which is final

module _ (q : CostAsked) (axioms : List Clause) (front since : List BookEntry) (none : list_any is_final front ≡ false) where
  evidence_later : (bound : Option ℕ) → IsCostEvidence q bound axioms since → IsCostEvidence q bound axioms (front ++ since)
  evidence_later bound shown = record { assumed = shown.assumed; refuted = last_later front since shown.assumed shown.refuted; told = shown.told }

  known_later : (lo : ℕ) (best : Option Priced) → IfSome best (IsKnownAbove q axioms since lo) → IfSome best (IsKnownAbove q axioms (front ++ since) lo)
  known_later lo None given = tt
  known_later lo (Some priced) given = record {
    given = given.given;
    above = given.above;
    greatest = record {
      code = given.greatest.code;
      scale = given.greatest.scale;
      told = given.greatest.told;
      finals = λ b few has. given.greatest.finals b few (final_later front since (assumed_at given.greatest.code given.greatest.scale (Some b)) none has);
      last = λ b is. last_later front since (assumed_at given.greatest.code given.greatest.scale (Some b)) (given.greatest.last b is);
    };
  }

  unknown_later : (lo : ℕ) (best : Option Priced) → IfNone best ((lo ≡ 0) × (list_any is_final since ≡ false)) → IfNone best ((lo ≡ 0) × (list_any is_final (front ++ since) ≡ false))
  unknown_later lo None alone = (alone.0, none_joined front since none alone.1)
  unknown_later lo (Some priced) alone = tt

  pub is_found_later : (budget left : ℕ) (answer : Cheap) → count_by is_learnt front + left ≡ budget → IsCheapFound q axioms since left answer → IsCheapFound q axioms (front ++ since) budget answer
  is_found_later budget left (Found priced) paid is = record { given = is.given; few = is.few; cheapest = is.cheapest; evidence = λ b cost. evidence_later (Some b) (is.evidence b cost) }
  is_found_later budget left Absent paid is = record { absent = is.absent; evidence = evidence_later None is.evidence }
  is_found_later budget left (Dear run) paid is = record { total = is.total; given = is.given; above = is.above; dear = is.dear; evidence = evidence_later (Some MOST_COST) is.evidence }
  is_found_later budget left (Undecided lo best) paid is = record {
    spent = (let count = counted_both is_learnt front since in let spent = is.spent in omega (arith, count, spent, paid));
    needs = is.needs;
    evidence = λ b at. evidence_later (Some b) (is.evidence b at);
    given = known_later lo best is.given;
    unknown = unknown_later lo best is.unknown;
  }

-- a search behind entries of which none is final
pub found_later : (q : CostAsked) (budget left : ℕ) (old mid new : List BookEntry) (answer : Cheap) → (searching : IsSearching old mid budget left) → list_any is_final searching.since ≡ false → HasFoundCost q left mid new answer → HasFoundCost q budget old new answer
found_later q budget left old mid new answer searching none found = record {
  put = leaves_later (NegatesCost q (axioms_of new)) (1 + MOST_COST) budget left old mid new searching none found.put;
  found = is_found_later q (axioms_of new) searching.since found.put.since none budget left answer searching.paid found.found;
  conflict = found.conflict;
}

-- ---- marks

conflict_by : (q : CostAsked) (book new : List BookEntry) (bound : Option ℕ) → axioms_of new ≡ axioms_of book → clauses_of new ≡ clauses_of book → HasCostConflict q bound book → HasCostConflict q bound new
conflict_by q book new bound axioms clauses has = record {
  assumed = has.assumed;
  told = subst (λ (cs : List Clause). PoseCostQuestion q bound cs has.assumed) (sym axioms) has.told;
  clashes = subst (λ (cs : List Clause). Clashes cs has.assumed) (sym clauses) has.clashes;
}

conflict_at : (q : CostAsked) (book new : List BookEntry) (lo : ℕ) (best : Option Priced) → axioms_of new ≡ axioms_of book → clauses_of new ≡ clauses_of book → HasConflictAt q book lo best → HasConflictAt q new lo best
conflict_at q book new lo None axioms clauses has = conflict_by q book new None axioms clauses has
conflict_at q book new lo (Some priced) axioms clauses has = (has.0, has.1, conflict_by q book new (Some has.0) axioms clauses has.2)

conflict_closed : (q : CostAsked) (book new : List BookEntry) (answer : Cheap) → axioms_of new ≡ axioms_of book → clauses_of new ≡ clauses_of book → HasConflictOf q book answer → HasConflictOf q new answer
conflict_closed q book new (Found priced) axioms clauses has = tt
conflict_closed q book new Absent axioms clauses has = tt
conflict_closed q book new (Dear run) axioms clauses has = tt
conflict_closed q book new (Undecided lo best) axioms clauses has = conflict_at q book new lo best axioms clauses has

-- an answer between marks, behind the axioms of the scale
pub answered : (q : CostAsked) (budget : ℕ) (old opened mid searched new : List BookEntry) (answer : Cheap) → opened ≡ old ++ mark 0 ∷ [] → AddsAxioms opened mid → new ≡ searched ++ mark 1 ∷ [] → HasFoundCost q budget mid searched answer → IsCostAnswered q budget old new answer
answered q budget old opened mid searched new answer begins adds ends found =
    let all = found_later q budget budget opened mid searched answer (searching_axioms opened mid budget adds) (none_final adds.axioms) found in
    let axioms = ap axioms_of ends ∙ marked_axioms searched 1 in
    let clauses = ap clauses_of ends ∙ marked_clauses searched 1 in record {
      left = leaves_closed (NegatesCost q (axioms_of searched)) (NegatesCost q (axioms_of new)) (1 + MOST_COST) budget old opened searched new begins ends (λ clause. subst (λ (cs : List Clause). NegatesCost q cs clause) (sym axioms)) all.put;
      found = subst (λ (cs : List Clause). IsCheapFound q cs all.put.since budget answer) (sym axioms) all.found;
      conflict = conflict_closed q searched new answer axioms clauses all.conflict;
    }

-- ---- how the book grows

pub grown_weighed : (budget : ℕ) (old opened mid : List BookEntry) → opened ≡ old ++ mark 0 ∷ [] → AddsAxioms opened mid → HasGrownWithin budget old mid
grown_weighed budget old opened mid begins adds = grown_opened budget budget old opened mid begins (searching_axioms opened mid budget adds)

pub grown_searched : (budget left : ℕ) (old opened mid searched : List BookEntry) → opened ≡ old ++ mark 0 ∷ [] → AddsAxioms opened mid → IsSearching mid searched budget left → HasGrownWithin budget old searched
grown_searched budget left old opened mid searched begins adds searching = grown_opened budget left old opened searched begins (searching_further opened mid searched budget budget left (searching_axioms opened mid budget adds) searching)

-- ---- without an answer

-- what a search puts for a model has no final entry
pub model_alone : (assumed : List Lit) (values : List Bool) (old new : List BookEntry) (before after : ℕ) (answer : Answer) → IsSolvedUnder assumed values old new before after answer → answer ≡ Sat → PutsNoFinal old new
model_alone assumed values old new before after answer is same =
    record { since = is.searching.since; whole = is.searching.whole; none = learnt_no_final is.searching.since (subst (λ (a : Answer). IsPutFor a is.searching.since) same is.put) }

pub refused_still : {R : Type 0} (net : Net) (cost : ℕ → ℕ) (log : Log) (old new : Parts R) (book then : List BookEntry) → KeepsCode old new → HasRefusedCosts (asked_of net cost log old) book then → HasRefusedCosts (asked_of net cost log new) book then
refused_still net cost log old new book then keeps = subst (λ (s : CodedSteps). HasRefusedCosts (record { net = net; cost = cost; log = log; steps = s.steps }) book then) (sym keeps.step)

-- behind the opening mark and the axioms of the scale
pub left_open : (q : CostAsked) (budget left : ℕ) (old opened mid searched : List BookEntry) → opened ≡ old ++ mark 0 ∷ [] → AddsAxioms opened mid → IsSearching mid searched budget left → HasRefusedCosts q mid searched → IsCostLeftOpen q budget old searched
left_open q budget left old opened mid searched begins adds searching refused =
    let negates = NegatesCost q (axioms_of searched) in
    leaves_open negates (1 + MOST_COST) budget old opened searched begins
    (leaves_later negates (1 + MOST_COST) budget budget opened mid searched (searching_axioms opened mid budget adds) (none_final adds.axioms) (leaves_both negates (1 + MOST_COST) budget left mid searched searching refused))
