-- The formula of a question whose parts are built: what it asks, its variables, and what makes it true.
use Rattle.std.proofs.Common.{◌≡◌, ◌∙◌, ◌↔◌, ℕ, ◌<◌, Bool, true, false, List, [], ◌∷◌, ◌++◌, length, map, nat_eq, Option, Some, None, All, refl, sym, ap, subst, append-nil, arith}
use Rattle.std.specs.Prelude.{IsTrue, ◌||◌, if◌then◌else◌}
use Rattle.std.proofs.lemmas.Bool.Decides.{nat_tests}
use Rattle.std.specs.List.{AllByRecursion}
use Rattle.std.proofs.lemmas.List.Elements.{All-from_recursion, All-head, All-tail, All-cons, All-nil}
use Rattle.card_counter.specs.CounterState.{CounterState}
use Rattle.des_base.proofs.Elements.{all_append, all_split}
use Rattle.des_net.specs.Network.{Net, IsNetwork}
use Rattle.least_faults.proofs.AxiomLists.{adds_both}
use Rattle.least_faults.proofs.Assuming.{assumed_below}
use Rattle.least_faults.proofs.Below.{axioms_below}
use Rattle.least_faults.proofs.Posing.{poses, asks_poses}
use Rattle.least_faults.proofs.Staying.{belong_still, built_still}
use Rattle.least_faults.specs.declared.parts.Parts.{Parts}
use Rattle.least_faults.specs.Asking.{AreAssumed, AreAssumptions, assumed_by}
use Rattle.least_faults.specs.Columns.{columns_for}
use Rattle.least_faults.specs.Evidence.{IsPosed}
use Rattle.least_faults.specs.Growing.{KeepsQuestion}
use Rattle.least_faults.specs.Parts.{AreParts, AreReady, BelongTo, IsBuilt, built_of, meanings_of_parts}
use Rattle.question_clauses.specs.LogClauses.{guard_literals}
use Rattle.log_encode.specs.CodedLog.{CodedLog}
use Rattle.log_order.specs.Log.{Log, IsValidLog}
use Rattle.proof_ledger.specs.Book.{BookEntry, axiomatic, axioms_of, clauses_of}
use Rattle.proof_text.specs.CnfText.{Formula, formula}
use Rattle.proof_text.specs.Refutation.{unit_clauses}
use Rattle.prop_core.specs.Clauses.{Clause, HasValues, literal_true, clause_true, AllClausesTrue, AllLiteralsTrue}
use Rattle.prop_core.specs.VariableNames.{Meaning, NamedLiteral, ReadsAs, named_clause}
use Rattle.prop_core.specs.declared.lit.Lit.{Lit}
use Rattle.run_decode.proofs.WholeNames.{together_ask, together_one_naming}
use Rattle.run_decode.specs.Drawn.{bound_literals, fault_inputs, at_most}
use Rattle.run_decode.specs.Faithful.{IsFaithful, IsExplainedWithin}
use Rattle.run_decode.specs.Question.{Asks, HasColumn}
use Rattle.run_decode.specs.QuestionAxioms.{BuiltQuestion, question_built}
use Rattle.run_decode.specs.WholeNaming.{whole_meanings}
use Rattle.step_encode.specs.Coded.{CodedSteps}
use Rattle.inquiries.proofs.Diagnosing.{axioms_alone}
use Rattle.inquiries.specs.Formula.{IsFormulaOf, IsSatisfiable, bound_within, counted_bound, question_assumed, question_formula, question_within}
use Rattle.proof_ledger.proofs.AxiomLists.{axioms_added, clauses_added}
use Rattle.sat_solve.specs.Leaving.{AddsAxioms}

-- ---- what makes it true

units_true : (value : ℕ → Bool) (assumed : List Lit) → AllLiteralsTrue value assumed → AllClausesTrue value (unit_clauses assumed)
units_true value [] h = tt
units_true value (l ∷ assumed) h = (one (literal_true value l) h.0, units_true value assumed h.1)
  where
    one : (b : Bool) → IsTrue b → IsTrue (b || false)
    one true is = is
    one false is = is

true_units : (value : ℕ → Bool) (assumed : List Lit) → AllClausesTrue value (unit_clauses assumed) → AllLiteralsTrue value assumed
true_units value [] h = tt
true_units value (l ∷ assumed) h = (one (literal_true value l) h.0, true_units value assumed h.1)
  where
    one : (b : Bool) → IsTrue (b || false) → IsTrue b
    one true is = is
    one false is = is

-- an assignment makes it true exactly if something explains within the bound
pub satisfied_where_explained : (clauses : List Clause) (assumed : List Lit) (net : Net) (log : Log) (n : ℕ) (bound : Option ℕ) → IsFaithful clauses assumed net log n bound →
    IsSatisfiable (clauses ++ unit_clauses assumed) ↔ IsExplainedWithin net log n bound
satisfied_where_explained clauses assumed net log n bound faithful = (sound, complete)
  where
    sound : IsSatisfiable (clauses ++ unit_clauses assumed) → IsExplainedWithin net log n bound
    sound (value, all) =
        let parts = all_split (λ c. IsTrue (clause_true value c)) clauses (unit_clauses assumed) all in
        faithful.sound value (record { clauses_true = parts.0; assumed_true = true_units value assumed parts.1 })

    complete : IsExplainedWithin net log n bound → IsSatisfiable (clauses ++ unit_clauses assumed)
    complete explained =
        let found = faithful.complete explained.word explained.order explained.explains explained.within in
        (found.0, all_append (λ c. IsTrue (clause_true found.0 c)) clauses (unit_clauses assumed) found.1.clauses_true (units_true found.0 assumed found.1.assumed_true))

-- ---- its variables

units_below : (vars : ℕ) (assumed : List Lit) → HasValues vars assumed → AllByRecursion (HasValues vars) (unit_clauses assumed)
units_below vars [] h = tt
units_below vars (l ∷ assumed) h = (
  All-cons (λ (x : Lit). x.var < vars) l [] (All-head (λ (x : Lit). x.var < vars) l assumed h) (All-nil (λ (x : Lit). x.var < vars)),
  units_below vars assumed (All-tail (λ (x : Lit). x.var < vars) l assumed h),
)

pub clauses_below : (vars : ℕ) (clauses : List Clause) (assumed : List Lit) → AllByRecursion (HasValues vars) clauses → HasValues vars assumed → All (HasValues vars) (clauses ++ unit_clauses assumed)
clauses_below vars clauses assumed below h =
    All-from_recursion (HasValues vars) (clauses ++ unit_clauses assumed) (all_append (HasValues vars) clauses (unit_clauses assumed) below (units_below vars assumed h))

-- ---- what it asks

no_inputs_read : (names : List (ℕ × Meaning)) (inputs : List Lit) (named : List NamedLiteral) → length inputs ≡ 0 → named_clause names inputs ≡ Some named → named ≡ []
no_inputs_read names [] named none read = cc
no_inputs_read names (l ∷ inputs) named none read = absurd (omega (arith, none))

-- of no inputs there is nothing to say
bound_of_none : (net : Net) (log : Log) (n : ℕ) (bound : Option ℕ) → fault_inputs net log n ≡ [] → bound_literals net log n bound ≡ []
bound_of_none net log n None none = refl
bound_of_none net log n (Some k) none = ap (λ (inputs : List NamedLiteral). at_most (length inputs) k) none

-- so a question without a bound is that of each bound
asks_within : (net : Net) (log : Log) (n : ℕ) (bound : Option ℕ) (names : List (ℕ × Meaning)) (clauses : List Clause) (guards : List Lit) → fault_inputs net log n ≡ [] → Asks net log n None names clauses guards → Asks net log n bound names clauses guards
asks_within net log n bound names clauses guards none asks = record {
  columns = asks.columns;
  question = asks.question;
  column = column bound;
  assumes = subst (λ (more : List NamedLiteral). ReadsAs names guards (guard_literals net log ++ more)) (sym (bound_of_none net log n bound none)) asks.assumes;
}
  where
    column : (b : Option ℕ) → HasColumn net log n asks.columns b
    column None = tt
    column (Some k) = λ some. let count = ap length none in absurd (omega (arith, some, count))

module _ (steps : CodedSteps) (code : CodedLog) (counter : CounterState) (vars : ℕ) (axioms : List Clause) (parts : AreParts steps code counter vars axioms) (bound : Option ℕ) (assumed : List Lit) (log : Log)
    (network : IsNetwork steps.net) (valid : IsValidLog log) (same : code.log ≡ log) where
  -- the counter counts nothing
  uncounted : length counter.inputs ≡ 0 → AreAssumptions code counter None assumed → IsPosed (whole_meanings steps code counter) axioms assumed steps.net log steps.steps bound
  uncounted none assumptions =
      let named = no_inputs_read (whole_meanings steps code counter) counter.inputs (fault_inputs steps.net code.log steps.steps) none (together_one_naming steps code counter parts.together).of_faults in
      let guards : assumptions.guards ≡ assumed = sym (assumptions.whole ∙ append-nil assumptions.guards) in
      let asks = subst (Asks steps.net code.log steps.steps None (whole_meanings steps code counter) axioms) guards
      (together_ask steps code counter axioms assumptions.guards parts.together parts.clauses assumptions.read).unbounded in
      let within = asks_within steps.net code.log steps.steps bound (whole_meanings steps code counter) axioms assumed named asks in
      asks_poses steps.net log steps.steps bound (whole_meanings steps code counter) axioms assumed network valid
      (subst (λ l. Asks steps.net l steps.steps bound (whole_meanings steps code counter) axioms assumed) same within)

  pub posed_by : AreAssumptions code counter (counted_bound counter bound) assumed → IsPosed (whole_meanings steps code counter) axioms assumed steps.net log steps.steps bound
  posed_by = by (nat_eq (length counter.inputs) 0) refl
    where
      by : (none : Bool) → nat_eq (length counter.inputs) 0 ≡ none → AreAssumptions code counter (if none then None else bound) assumed → IsPosed (whole_meanings steps code counter) axioms assumed steps.net log steps.steps bound
      by true none assumptions = uncounted (grind (arith, nat_tests)) assumptions
      by false some assumptions = poses steps code counter vars axioms bound assumed parts assumptions log network valid same

-- ---- the book

axioms_are_clauses : (book : List BookEntry) → AddsAxioms [] book → clauses_of book ≡ axioms_of book
axioms_are_clauses book adds = ap clauses_of adds.more ∙ clauses_added [] adds.axioms ∙ sym (ap axioms_of adds.more ∙ axioms_added [] adds.axioms)

-- ---- all of it

-- a question that was built into an empty book, and to which what the bound needs was added
pub record IsAsked {R : Type 0} (may : R → ℕ → Type 0) (gives : R → ℕ → ℕ → Type 0) (old parts : Parts R) (built book : List BookEntry) (net : Net) (log : Log) (n : ℕ) (bound counted : Option ℕ) (assumed : List Lit) : Type 0 where
  pub belong : BelongTo net log old
  pub steps : old.step.steps ≡ n
  pub none : old.counter.columns ≡ []
  pub begun : IsBuilt net log n old built
  pub first : AddsAxioms [] built
  pub keeps : KeepsQuestion old parts built book
  pub ready : AreReady may gives parts book
  pub more : AddsAxioms built book
  pub network : IsNetwork net
  pub valid : IsValidLog log
  pub counts : counted ≡ counted_bound old.counter bound
  pub assumes : AreAssumed old.counter parts counted assumed

module _ {R : Type 0} (may : R → ℕ → Type 0) (gives : R → ℕ → ℕ → Type 0) (old parts : Parts R) (built book : List BookEntry) (net : Net) (log : Log) (n : ℕ) (bound counted : Option ℕ) (assumed : List Lit)
    (a : IsAsked may gives old parts built book net log n bound counted assumed) where
  whole : AddsAxioms [] book
  whole = adds_both [] built book a.first a.more

  counted_is : counted ≡ bound_within net log n bound
  counted_is = a.counts ∙ ap (λ (q : BuiltQuestion). counted_bound q.counter bound) (a.begun.determined ∙ ap (λ (columns : List (List ℕ)). question_built net log n (length columns)) a.none)

  columns_are : length parts.counter.columns ≡ columns_for (bound_within net log n bound)
  columns_are = let none = ap (λ (columns : List (List ℕ)). length columns) a.none in let more = a.assumes.columns in let all : length parts.counter.columns ≡ columns_for counted = omega (arith, none, more) in all ∙ ap columns_for counted_is

  question_is : built_of parts book ≡ question_within net log n bound
  question_is = (built_still net log n old parts a.keeps a.begun).determined ∙ ap (question_built net log n) columns_are

  assumed_is : assumed ≡ question_assumed net log n bound
  assumed_is = a.assumes.listed ∙ ap (assumed_by parts.code.coded parts.counter) counted_is ∙ ap (λ (q : BuiltQuestion). assumed_by q.code q.counter (bound_within net log n bound)) question_is

  posed : IsPosed (meanings_of_parts parts) (axioms_of book) assumed net log n bound
  posed =
      let here = belong_still net log old parts a.keeps a.belong in
      let same = a.counts ∙ ap (λ (inputs : List Lit). if nat_eq (length inputs) 0 then None else bound) (sym a.keeps.counter.inputs) in
      let assumptions = subst (λ b. AreAssumptions parts.code.coded parts.counter b assumed) same a.assumes.assumptions in
      let by_parts = posed_by parts.step parts.code.coded parts.counter parts.vars (axioms_of book) a.ready.coded bound assumed log (subst IsNetwork (sym here.of_steps) a.network) a.valid here.same_log assumptions in
      let of_net = subst (λ net'. IsPosed (meanings_of_parts parts) (axioms_of book) assumed net' log parts.step.steps bound) here.of_steps by_parts in
      subst (λ k. IsPosed (meanings_of_parts parts) (axioms_of book) assumed net log k bound) (ap (λ (s : CodedSteps). s.steps) a.keeps.step ∙ a.steps) of_net

  pub is_formula : (vars : ℕ) (f : Formula) → vars ≡ parts.vars → f ≡ formula vars (clauses_of book ++ unit_clauses assumed) → IsFormulaOf net log n bound book f
  is_formula vars f count is = record {
    is = all;
    known = known;
    exact = exact;
    alone = axioms_alone book whole ∙ ap (λ (q : BuiltQuestion). map axiomatic q.axioms) question_is;
    meanings = meanings_of_parts parts;
    posed = subst (λ (lits : List Lit). IsPosed (meanings_of_parts parts) (axioms_of book) lits net log n bound) assumed_is posed;
  }
    where
      clauses : f ≡ formula parts.vars (axioms_of book ++ unit_clauses assumed)
      clauses = is ∙ ap (λ v. formula v (clauses_of book ++ unit_clauses assumed)) count ∙ ap (λ (cs : List Clause). formula parts.vars (cs ++ unit_clauses assumed)) (axioms_are_clauses book whole)

      all : f ≡ question_formula net log n bound
      all = clauses ∙ ap (λ (lits : List Lit). formula parts.vars (axioms_of book ++ unit_clauses lits)) assumed_is ∙ ap (λ (q : BuiltQuestion). formula q.vars (q.axioms ++ unit_clauses (question_assumed net log n bound))) question_is

      assumed_known : HasValues parts.vars assumed
      assumed_known = assumed_below parts.step parts.code.coded parts.counter parts.vars (axioms_of book) (axioms_of book) assumed net log n bound a.ready.coded posed

      known : All (HasValues f.vars) f.clauses
      known = subst (λ (x : Formula). All (HasValues x.vars) x.clauses) (sym clauses) (clauses_below parts.vars (axioms_of book) assumed (axioms_below parts.step parts.code.coded parts.counter parts.vars (axioms_of book) a.ready.coded) assumed_known)

      exact : IsSatisfiable f.clauses ↔ IsExplainedWithin net log n bound
      exact = subst (λ (x : Formula). IsSatisfiable x.clauses ↔ IsExplainedWithin net log n bound) (sym clauses) (satisfied_where_explained (axioms_of book) assumed net log n bound posed.faithful)
