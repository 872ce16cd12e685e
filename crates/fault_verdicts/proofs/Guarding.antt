-- The guards with the bound, where there is something to count.
use Rattle.std.proofs.Common.{◌≡◌, ℕ, zero, suc, ◌+◌, ◌<◌, List, [], ◌∷◌, ◌++◌, length, max, None, Some, refl, sym, subst, arith}
use Rattle.card_counter.specs.CounterState.{CounterState, bound_literal}
use Rattle.fault_verdicts.specs.Judging.{at_most_of, bound_for}
use Rattle.least_faults.proofs.Assuming.{with_bound, without_bound}
use Rattle.least_faults.specs.Asking.{AreAssumptions}
use Rattle.question_clauses.specs.LogClauses.{guard_literals}
use Rattle.log_encode.specs.CodedLog.{CodedLog, read_meanings}
use Rattle.log_encode.specs.Drafted.{LogCodeState}
use Rattle.prop_core.specs.VariableNames.{ReadsAs}
use Rattle.prop_core.specs.declared.lit.Lit.{Lit}

some_of : (m k : ℕ) → 0 < m → at_most_of m k ≡ Some k
some_of zero k some = absurd (omega (arith, some))
some_of (suc m) k some = refl

none_of : (m k : ℕ) → m ≡ 0 → at_most_of m k ≡ None
none_of zero k none = refl
none_of (suc m) k none = absurd (omega (arith, none))

pub guards_bound : (before now : LogCodeState) (counter : CounterState) (k columns : ℕ) (guards : List Lit) (literal : Lit) (assumed : List Lit) → ReadsAs (read_meanings before.coded) guards (guard_literals before.coded.net before.coded.log) → now ≡ before → 0 < length counter.inputs →
    length counter.columns ≡ max columns (k + 1) → literal ≡ bound_literal counter k → assumed ≡ guards ++ literal ∷ [] → AreAssumptions now.coded counter (bound_for counter k) assumed
guards_bound before now counter k columns guards literal assumed read same some there is whole =
    subst (λ bound. AreAssumptions now.coded counter bound assumed) (sym (some_of (length counter.inputs) k some))
    (with_bound now.coded counter k columns guards literal assumed (subst (λ (c : LogCodeState). ReadsAs (read_meanings c.coded) guards (guard_literals c.coded.net c.coded.log)) (sym same) read) there is whole)

pub guards_alone : (code : CodedLog) (counter : CounterState) (k : ℕ) (guards assumed : List Lit) → ReadsAs (read_meanings code) guards (guard_literals code.net code.log) → length counter.inputs ≡ 0 → assumed ≡ guards → AreAssumptions code counter (bound_for counter k) assumed
guards_alone code counter k guards assumed read none whole =
    subst (λ bound. AreAssumptions code counter bound assumed) (sym (none_of (length counter.inputs) k none)) (without_bound code counter guards assumed read whole)
