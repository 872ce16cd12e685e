-- What a question assumes: variables that were made, no contradiction, and the same where the counter gets a column.
use Rattle.std.proofs.Common.{◌≡◌, ◌≢◌, ◌∙◌, ℕ, ◌+◌, ◌<◌, true, false, ◌⊎◌, inl, inr, List, [], ◌∷◌, ◌++◌, length, map, max, Option, None, Some, sym, ap, subst, arith, ◌-◌, append-nil, length-append}
use Rattle.card_counter.specs.CounterState.{CounterState, column_at, var_at, bound_literal, negative}
use Rattle.des_base.proofs.BoolLemmas.{otherwise as as_false, either as or_cases}
use Rattle.des_base.specs.Lists.{EachPair}
use Rattle.least_faults.proofs.Below.{read_below, names_below}
use Rattle.least_faults.specs.Asking.{AreAssumed, AreAssumptions}
use Rattle.least_faults.specs.Evidence.{IsPosed}
use Rattle.least_faults.specs.Growing.{KeepsColumns}
use Rattle.least_faults.specs.Parts.{AreParts}
use Rattle.least_faults.specs.declared.parts.Parts.{Parts}
use Rattle.des_net.specs.Network.{Net}
use Rattle.question_clauses.proofs.Lists.{all_at}
use Rattle.question_clauses.specs.LogClauses.{guard_literals}
use Rattle.log_encode.specs.CodedLog.{CodedLog, IsCodedLog, read_meanings}
use Rattle.log_encode.specs.Drafted.{LogCodeState}
use Rattle.log_order.specs.Log.{Log}
use Rattle.prop_core.proofs.FamilyLemmas.{reads_whole}
use Rattle.prop_core.proofs.Literals.{same_is, not_self, negation_twice}
use Rattle.prop_core.specs.Clauses.{Clause, HasValues, is_true, is_false, negation, same_literal, AreConsistent}
use Rattle.prop_core.specs.Listings.{literal_by}
use Rattle.prop_core.specs.VariableNames.{ReadsAs, named_clause}
use Rattle.prop_core.specs.declared.lit.Lit.{Lit}
use Rattle.run_decode.specs.WholeNaming.{whole_meanings}
use Rattle.std.proofs.Math.ListN.{get_or-append}
use Rattle.step_encode.specs.Coded.{CodedSteps}
use Rattle.sat_solve.proofs.Entries.{true_there}
use Rattle.log_encode.proofs.Guards.{guards_listed}

pub assumed_below : (steps : CodedSteps) (code : CodedLog) (counter : CounterState) (vars : ℕ) (axioms clauses : List Clause) (assumed : List Lit) (net : Net) (log : Log) (n : ℕ) (bound : Option ℕ) →
    AreParts steps code counter vars axioms → IsPosed (whole_meanings steps code counter) clauses assumed net log n bound → HasValues vars assumed
assumed_below steps code counter vars axioms clauses assumed net log n bound parts posed =
    read_below vars (whole_meanings steps code counter) assumed posed.assumes.read (names_below steps code counter vars axioms parts) posed.assumes.by_name

-- ---- no contradiction

not_both : (l x : Lit) → same_literal l x ≡ true → same_literal (negation l) x ≡ true → ⊥
not_both l x same other = clash (sym (ap (λ y. same_literal (negation l) y) (same_is l x same)) ∙ not_self l)
  where
    clash : same_literal (negation l) x ≡ false → ⊥
    clash e = cc

opposites : (assumed : List Lit) (l : Lit) → EachPair (λ a b. a ≢ negation b) assumed → is_true assumed l ≡ true → is_true assumed (negation l) ≡ true → ⊥
opposites [] l apart h k = cc
opposites (x ∷ assumed) l apart h k = by (or_cases (same_literal l x) (is_true assumed l) h) (or_cases (same_literal (negation l) x) (is_true assumed (negation l)) k) (opposites assumed l apart.1)
  where
    first : (y : Lit) → is_true assumed y ≡ true → x ≡ negation y → ⊥
    first y in' is = all_at (λ b. x ≢ negation b) assumed apart.0 y (true_there assumed y in') is

    by : (same_literal l x ≡ true) ⊎ (is_true assumed l ≡ true) → (same_literal (negation l) x ≡ true) ⊎ (is_true assumed (negation l) ≡ true) → (is_true assumed l ≡ true → is_true assumed (negation l) ≡ true → ⊥) → ⊥
    by (inl same) (inl other) later = not_both l x same other
    by (inl same) (inr other) later = first (negation l) other (sym (same_is l x same) ∙ sym (negation_twice l))
    by (inr same) (inl other) later = first l same (sym (same_is (negation l) x other))
    by (inr same) (inr other) later = later same other

pub compatible : (assumed : List Lit) → EachPair (λ a b. a ≢ negation b) assumed → AreConsistent assumed
compatible assumed apart l h = as_false (is_false assumed l) (λ k. opposites assumed l apart h k)

-- ---- the guards, and then the literal for the bound

pub without_bound : (code : CodedLog) (counter : CounterState) (guards assumed : List Lit) → ReadsAs (read_meanings code) guards (guard_literals code.net code.log) → assumed ≡ guards → AreAssumptions code counter None assumed
without_bound code counter guards assumed read whole = record { guards = guards; read = read; whole = whole ∙ sym (append-nil guards); column = tt }

pub with_bound : (code : CodedLog) (counter : CounterState) (k columns : ℕ) (guards : List Lit) (literal : Lit) (assumed : List Lit) → ReadsAs (read_meanings code) guards (guard_literals code.net code.log) →
    length counter.columns ≡ max columns (k + 1) → literal ≡ bound_literal counter k → assumed ≡ guards ++ literal ∷ [] → AreAssumptions code counter (Some k) assumed
with_bound code counter k columns guards literal assumed read there is whole =
    record { guards = guards; read = read; whole = whole ∙ ap (λ l. guards ++ l ∷ []) is; column = omega (arith, there) }

-- ---- both in their order

pub assumed_alone : {R : Type 0} (parts : Parts R) (guards assumed : List Lit) → IsCodedLog parts.code.coded → named_clause (read_meanings parts.code.coded) guards ≡ Some (guard_literals parts.code.coded.net parts.code.coded.log) → assumed ≡ guards →
    AreAssumed parts.counter parts None assumed
assumed_alone parts guards assumed whole listed is = record {
  listed = is ∙ guards_listed parts.code.coded guards whole listed ∙ sym (append-nil (map (literal_by (read_meanings parts.code.coded)) (guard_literals parts.code.coded.net parts.code.coded.log)));
  assumptions = without_bound parts.code.coded parts.counter guards assumed (reads_whole (read_meanings parts.code.coded) guards (guard_literals parts.code.coded.net parts.code.coded.log) listed) is;
  columns = omega arith;
}

pub assumed_bound : {R : Type 0} (old new : Parts R) (k : ℕ) (guards : List Lit) (literal : Lit) (assumed : List Lit) → IsCodedLog old.code.coded → named_clause (read_meanings old.code.coded) guards ≡ Some (guard_literals old.code.coded.net old.code.coded.log) →
    new.code ≡ old.code → length new.counter.columns ≡ max (length old.counter.columns) (k + 1) → literal ≡ bound_literal new.counter k → assumed ≡ guards ++ literal ∷ [] → AreAssumed old.counter new (Some k) assumed
assumed_bound old new k guards literal assumed whole listed same columns literal_is is = record {
  listed = is ∙ ap (λ (l : Lit). guards ++ l ∷ []) literal_is ∙ ap (λ (gs : List Lit). gs ++ bound_literal new.counter k ∷ []) (guards_listed new.code.coded guards (subst (λ (c : LogCodeState). IsCodedLog c.coded) (sym same) whole) here);
  assumptions = with_bound new.code.coded new.counter k (length old.counter.columns) guards literal assumed (reads_whole (read_meanings new.code.coded) guards (guard_literals new.code.coded.net new.code.coded.log) here) columns literal_is is;
  columns = columns;
}
  where
    here : named_clause (read_meanings new.code.coded) guards ≡ Some (guard_literals new.code.coded.net new.code.coded.log)
    here = subst (λ (c : LogCodeState). named_clause (read_meanings c.coded) guards ≡ Some (guard_literals c.coded.net c.coded.log)) (sym same) listed

-- ---- where the counter gets a column

bound_stays : (old new : CounterState) (k : ℕ) → KeepsColumns old new → k < length old.columns → bound_literal new k ≡ bound_literal old k
bound_stays old new k keeps less =
    ap (λ (inputs : List Lit). negative (var_at (column_at new.columns k) (length inputs - 1))) keeps.inputs
    ∙ ap (λ (columns : List (List ℕ)). negative (var_at (column_at columns k) (length old.inputs - 1))) keeps.more
    ∙ ap (λ (column : List ℕ). negative (var_at column (length old.inputs - 1))) (get_or-append old.columns keeps.columns [] k less)

pub assumptions_stay : (code : CodedLog) (old new : CounterState) (bound : Option ℕ) (assumed : List Lit) → KeepsColumns old new → AreAssumptions code old bound assumed → AreAssumptions code new bound assumed
assumptions_stay code old new None assumed keeps assumptions = record { guards = assumptions.guards; read = assumptions.read; whole = assumptions.whole; column = tt }
assumptions_stay code old new (Some k) assumed keeps assumptions = record {
  guards = assumptions.guards;
  read = assumptions.read;
  whole = assumptions.whole ∙ ap (λ l. assumptions.guards ++ l ∷ []) (sym (bound_stays old new k keeps assumptions.column));
  column = (let count = ap length keeps.more ∙ length-append old.columns keeps.columns in omega (arith, count, assumptions.column));
}
