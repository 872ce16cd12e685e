-- What a question of costs leaves in the book, and what its answer means.
use Rattle.std.proofs.Common.{◌≡◌, ◌∙◌, ℕ, ◌-◌, ◌<◌, ◌≤◌, Bool, List, [], ◌∷◌, length, Option, None, Some, IfSome, IfOk, Result, Ok, Err, refl, sym, subst, arith, IsTrue}
use Rattle.std.proofs.lemmas.List.Elements.{All-append, All-nil, All-cons}
use Rattle.card_counter.specs.CounterState.{CounterState, negative}
use Rattle.des_base.proofs.Elements.{all_split}
use Rattle.des_net.specs.Network.{Net, IsNetwork}
use Rattle.least_faults.proofs.Asked.{axioms_true, true_run}
use Rattle.least_faults.proofs.Assuming.{compatible, without_bound}
use Rattle.least_faults.proofs.Below.{names_below, read_below}
use Rattle.least_faults.proofs.Entailing.{final_entailed}
use Rattle.least_faults.proofs.Solved.{CanSearch}
use Rattle.least_faults.specs.Parts.{BelongTo}
use Rattle.least_faults.specs.declared.parts.Parts.{Parts}
use Rattle.question_clauses.specs.LogClauses.{guard_literals}
use Rattle.log_encode.specs.CodedLog.{CodedLog, read_meanings, log_guards}
use Rattle.log_order.specs.Log.{Log, IsValidLog}
use Rattle.proof_ledger.specs.Book.{BookEntry, axioms_of, IsValidBook}
use Rattle.prop_core.specs.Clauses.{Clause, HasValues, AllClausesTrue, AllLiteralsTrue, clause_true, literal_true, value_in}
use Rattle.prop_core.specs.VariableNames.{ReadsAs}
use Rattle.prop_core.specs.declared.lit.Lit.{Lit}
use Rattle.run_decode.specs.Decoding.{IsTrueRun}
use Rattle.run_decode.specs.Faithful.{IsWithin}
use Rattle.run_decode.specs.WholeNaming.{whole_meanings}
use Rattle.sat_solve.specs.Searching.{HasAxiomVars, IsAnswer, IsSearched, HasPut}
use Rattle.sat_solve.specs.declared.answer.Answer.{Answer}
use Rattle.sat_solve.specs.declared.answer.Answer.TheVariants as solver
use Rattle.step_encode.specs.Coded.{CodedSteps}
use Rattle.weight_counter.proofs.Written.{scales_are_exact}
use Rattle.weight_counter.specs.Scales.{place_variable, scale_clauses}
use Rattle.weight_counter.specs.Weighing.{weight_true}
use Rattle.weight_counter.specs.declared.scale.Scale.{Scale}
use Rattle.weight_counter.specs.declared.weighted.Weighted.{Weighted}
use Rattle.cost_least.proofs.Asked.{told_at, costs_are_ruled_out, within_limit}
use Rattle.cost_least.proofs.Asks.{asks_costs}
use Rattle.sat_solve.proofs.Leaving.{searching_searched}
use Rattle.cost_least.specs.Answers.{PoseCostQuestion, IsPriced}
use Rattle.cost_least.specs.Asking.{HasAskedCost, IsTrueCostAnswer}
use Rattle.cost_least.specs.Pricing.{PosesCosts, cost_limit}
use Rattle.cost_least.specs.Searching.{IsSolvedUnder, IsTotalOf, MayBound, asked_of}
use Rattle.cost_least.specs.Weighed.{AreWeighed, AreWeighedParts, assumed_at}
use Rattle.answers.specs.declared.cheap.Priced.{Priced}
use Rattle.cost_least.specs.declared.asking.CostAnswer.{CostAnswer}
use Rattle.cost_least.specs.declared.asking.CostAnswer.TheVariants.{Explained, Refuted, Spent}
use Rattle.prop_core.proofs.Literals.{wider}
use Rattle.sat_solve.proofs.Entries.{last_final_for, put_since}

-- ---- what is assumed

module _ (cost : ℕ → ℕ) (steps : CodedSteps) (code : CodedLog) (counter : CounterState) (vars : ℕ) (axioms : List Clause) (scale : Scale) (parts : AreWeighedParts cost steps code counter vars axioms scale) (net : Net) (log : Log) (of_net : steps.net ≡ net)
    (network : IsNetwork net) (valid : IsValidLog log) (same : code.log ≡ log) (read : ReadsAs (read_meanings code) (log_guards code) (guard_literals code.net code.log)) where
  -- within each bound that may be asked for
  pub told : (bound : Option ℕ) → IfSome bound (MayBound scale) → PoseCostQuestion (record { net = net; cost = cost; log = log; steps = steps.steps }) bound axioms (assumed_at code scale bound)
  told bound may =
      subst (λ (m : Net). PosesCosts m cost log steps.steps bound axioms (assumed_at code scale bound)) of_net
      (told_at cost steps code counter vars axioms scale log parts (subst IsNetwork (sym of_net) network) valid same read bound may)

  first_within : scale.first ≤ vars
  first_within = let all = parts.vars_are in omega (arith, all)

  -- the guards are variables before those of the scale
  pub guards_before : HasValues scale.first (log_guards code)
  guards_before =
      let assumes = (asks_costs cost steps code counter vars axioms scale parts log same read).asks.assumes in
      read_below scale.first (whole_meanings steps code counter) (log_guards code) assumes.read (names_below steps code counter scale.first parts.own parts.coded) assumes.by_name

  guards_below : HasValues vars (log_guards code)
  guards_below = wider scale.first vars (log_guards code) first_within guards_before

  limit_below : (bound : Option ℕ) → IfSome bound (MayBound scale) → HasValues vars (cost_limit scale bound)
  limit_below None may = All-nil (λ (l : Lit). l.var < vars)
  limit_below (Some b) may =
      let some = may.some in
      let place = (scales_are_exact scale parts.inputs).own (scale.inputs - 1) b (record { input = omega (arith, some); amount = may.few }) in
      let all = parts.vars_are in
      All-cons (λ (l : Lit). l.var < vars) (negative (place_variable scale (scale.inputs - 1) b)) [] (omega (arith, place.1, all)) (All-nil (λ (l : Lit). l.var < vars))

  pub assumed_known : (values : ℕ) → vars ≤ values → (bound : Option ℕ) → IfSome bound (MayBound scale) → HasValues values (assumed_at code scale bound)
  assumed_known values enough bound may =
      wider vars values (assumed_at code scale bound) enough (All-append (λ (l : Lit). l.var < vars) (log_guards code) (cost_limit scale bound) guards_below (limit_below bound may))

  -- ---- a model

  own_true : (value : ℕ → Bool) → AllClausesTrue value axioms → AllClausesTrue value parts.own × AllClausesTrue value (scale_clauses (place_variable scale) scale.amounts parts.inputs)
  own_true value all = all_split (λ (c : Clause). IsTrue (clause_true value c)) parts.own (scale_clauses (place_variable scale) scale.amounts parts.inputs) (subst (AllClausesTrue value) parts.whole all)

  assumed_true : (value : ℕ → Bool) (bound : Option ℕ) → AllLiteralsTrue value (assumed_at code scale bound) → AllLiteralsTrue value (log_guards code) × AllLiteralsTrue value (cost_limit scale bound)
  assumed_true value bound literals = all_split (λ (l : Lit). IsTrue (literal_true value l)) (log_guards code) (cost_limit scale bound) literals

  pub model_run : (value : ℕ → Bool) (bound : Option ℕ) → AllClausesTrue value axioms → AllLiteralsTrue value (assumed_at code scale bound) → IsTrueRun steps code value
  model_run value bound all literals =
      true_run steps code counter scale.first parts.own None (log_guards code) value parts.coded (without_bound code counter (log_guards code) (log_guards code) read refl) (own_true value all).0 (assumed_true value bound literals).0

  -- a total that the true inputs weigh is within the bound
  pub model_within : (value : ℕ → Bool) (bound : Option ℕ) → IfSome bound (MayBound scale) → AllClausesTrue value axioms → AllLiteralsTrue value (assumed_at code scale bound) → (total : ℕ) → total ≡ weight_true value parts.inputs → IsWithin bound total
  model_within value None may all literals total is = tt
  model_within value (Some b) may all literals total is =
      let less = within_limit scale parts.inputs (scale_clauses (place_variable scale) scale.amounts parts.inputs) value b (scales_are_exact scale parts.inputs).clauses (own_true value all).1 parts.counted may (assumed_true value (Some b) literals).1.0 in
      omega (arith, less, is)

  pub model_counted : (value : ℕ → Bool) (total : ℕ) → total ≡ weight_true value parts.inputs → 0 < total → 0 < scale.inputs
  model_counted value total is more = let some = some_input value parts.inputs (omega (arith, is, more)) in let count = parts.counted in omega (arith, some, count)
    where
      some_input : (v : ℕ → Bool) (inputs : List Weighted) → 0 < weight_true v inputs → 0 < length inputs
      some_input v [] more' = more'
      some_input v (x ∷ xs) more' = omega arith

-- so the solver can be asked under what is assumed
pub can_search : {R : Type 0} (may : R → ℕ → Type 0) (gives : R → ℕ → ℕ → Type 0) (cost : ℕ → ℕ) (parts : Parts R) (scale : Scale) (book : List BookEntry) (net : Net) (log : Log) (bound : Option ℕ) (slice assumed : List Lit) → AreWeighed may gives cost parts scale book → BelongTo net log parts → IsNetwork net → IsValidLog log →
    ReadsAs (read_meanings parts.code.coded) (log_guards parts.code.coded) (guard_literals parts.code.coded.net parts.code.coded.log) → IfSome bound (MayBound scale) → slice ≡ assumed → assumed ≡ assumed_at parts.code.coded scale bound → CanSearch parts.solver.vars slice
can_search may gives cost parts scale book net log bound slice assumed weighed belong network valid read may_bound same is = subst (CanSearch parts.solver.vars) (sym (same ∙ is)) (record {
  known = assumed_known cost parts.step parts.code.coded parts.counter parts.vars (axioms_of book) scale weighed.coded net log belong.of_steps network valid belong.same_log read parts.solver.vars weighed.enough bound may_bound;
  compatible = compatible (assumed_at parts.code.coded scale bound) (told cost parts.step parts.code.coded parts.counter parts.vars (axioms_of book) scale weighed.coded net log belong.of_steps network valid belong.same_log read bound may_bound).tells.consistent;
})

-- ---- what is answered

pub solved : {E : Type 0} (slice items assumed : List Lit) (values : List Bool) (mid new : List BookEntry) (before after : ℕ) (result : Result Answer E) → slice ≡ items → items ≡ assumed → HasAxiomVars mid → IsSearched mid new before after → IfOk result (HasPut mid new) → IfOk result (IsAnswer values new slice after) →
    IfOk result (IsSolvedUnder assumed values mid new before after)
solved slice items assumed values mid new before after (Err error) same is known searched put says = tt
solved slice items assumed values mid new before after (Ok answer) same is known searched put says = record {
  searching = searching_searched mid new before after searched known;
  put = put_since mid new (searching_searched mid new before after searched known).since answer (searching_searched mid new before after searched known).whole put;
  says = subst (λ (xs : List Lit). IsAnswer values new xs after answer) (same ∙ is) says;
}

module _ {R : Type 0} (may : R → ℕ → Type 0) (gives : R → ℕ → ℕ → Type 0) (cost : ℕ → ℕ) (parts : Parts R) (scale : Scale) (net : Net) (log : Log) (bound : Option ℕ) (old new : List BookEntry) (before after : ℕ) (answer : Answer) (weighed : AreWeighed may gives cost parts scale new) (belong : BelongTo net log parts)
    (network : IsNetwork net) (valid : IsValidLog log) (read : ReadsAs (read_meanings parts.code.coded) (log_guards parts.code.coded) (guard_literals parts.code.coded.net parts.code.coded.log)) (may_bound : IfSome bound (MayBound scale))
    (says : IsSolvedUnder (assumed_at parts.code.coded scale bound) parts.solver.assignment old new before after answer) where
  given_as : (other : Answer) → answer ≡ other → IsSolvedUnder (assumed_at parts.code.coded scale bound) parts.solver.assignment old new before after other
  given_as other same = subst (IsSolvedUnder (assumed_at parts.code.coded scale bound) parts.solver.assignment old new before after) same says

  with_meaning : (other : Answer) (is : IsSolvedUnder (assumed_at parts.code.coded scale bound) parts.solver.assignment old new before after other) (asked : CostAnswer) → IsTrueCostAnswer (asked_of net cost log parts) scale bound (assumed_at parts.code.coded scale bound) is.searching.since new after asked →
      HasAskedCost (asked_of net cost log parts) parts.code.coded scale bound old new before after asked
  with_meaning other is asked means = record { searching = is.searching; means = means }

  pub shown_spent : answer ≡ solver.Spent → HasAskedCost (asked_of net cost log parts) parts.code.coded scale bound old new before after Spent
  shown_spent same = let is = given_as solver.Spent same in with_meaning solver.Spent is Spent (record { nothing = is.says.nothing; clashes = is.says.clashes; learnt = is.put })

  pub shown_refuted : (number : ℕ) → answer ≡ solver.Unsat number → IsValidBook new → HasAskedCost (asked_of net cost log parts) parts.code.coded scale bound old new before after Refuted
  shown_refuted number same book =
      let is = given_as (solver.Unsat number) same in
      let ends = last_final_for (assumed_at parts.code.coded scale bound) old new is.searching.since number is.searching.whole is.put is.says in
      let tells = told cost parts.step parts.code.coded parts.counter parts.vars (axioms_of new) scale weighed.coded net log belong.of_steps network valid belong.same_log read bound may_bound in
      with_meaning (solver.Unsat number) is Refuted (record {
        out = costs_are_ruled_out (asked_of net cost log parts) bound (axioms_of new) (assumed_at parts.code.coded scale bound) is.put.clause tells (final_entailed new is.put.clause is.put.hints book ends.there) ends.negates;
        ends = is.put;
        negates = ends.negates;
      })

  pub shown_run : answer ≡ solver.Sat → IsTrueRun parts.step parts.code.coded (value_in parts.solver.assignment)
  shown_run same =
      let is = given_as solver.Sat same in
      let value = value_in parts.solver.assignment in
      model_run cost parts.step parts.code.coded parts.counter parts.vars (axioms_of new) scale weighed.coded net log belong.of_steps network valid belong.same_log read value bound (axioms_true value new is.says.clauses) is.says.assumptions

  pub shown_explained : (priced : Priced) → answer ≡ solver.Sat → IsPriced (asked_of net cost log parts) priced → IsTotalOf cost parts priced.cost → HasAskedCost (asked_of net cost log parts) parts.code.coded scale bound old new before after (Explained priced)
  shown_explained priced same given totals =
      let is = given_as solver.Sat same in
      let value = value_in parts.solver.assignment in
      let total = totals weighed.coded.inputs weighed.coded.weighted in
      with_meaning solver.Sat is (Explained priced) (record {
        given = given;
        within = model_within cost parts.step parts.code.coded parts.counter parts.vars (axioms_of new) scale weighed.coded net log belong.of_steps network valid belong.same_log read value bound may_bound (axioms_true value new is.says.clauses) is.says.assumptions priced.cost total;
        counted = model_counted cost parts.step parts.code.coded parts.counter parts.vars (axioms_of new) scale weighed.coded net log belong.of_steps network valid belong.same_log read value priced.cost total;
        learnt = is.put;
      })
