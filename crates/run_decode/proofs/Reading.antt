-- How the literals of the counter read.
use Rattle.std.proofs.Common.{◌≡◌, ◌∙◌, ℕ, suc, zero, ◌-◌, List, [], ◌∷◌, length, Option, Some, None, refl, sym, ap, subst, arith, option_map}
use Rattle.card_counter.proofs.CodeLemmas.{read_length}
use Rattle.card_counter.specs.CounterState.{variable, negative, bound_literal}
use Rattle.question_clauses.proofs.LogCodes.{read_of, has_name, named_entry}
use Rattle.question_clauses.specs.LogCodes.{AreAmong}
use Rattle.prop_core.proofs.FamilyLemmas.{reads_whole}
use Rattle.prop_core.specs.Clauses.{Clause}
use Rattle.prop_core.specs.VariableNames.{Meaning, NamedLiteral, reaches, no, HasEachOnce, meaning_of, named_literal, named_clause, with_literal, ReadsAs}
use Rattle.prop_core.specs.declared.lit.Lit.{Lit}
use Rattle.run_decode.specs.DecodedRuns.{FaultLiteralsStay}
use Rattle.run_decode.specs.Drawn.{fault_inputs, at_most, bound_literals}
use Rattle.run_decode.specs.QuestionLaws.{BoundIsRead}

-- ---- the inputs, by more names

literal_stays : (own names : List (ℕ × Meaning)) → HasEachOnce names → AreAmong own names → (l : Lit) (m : NamedLiteral) → named_literal own l ≡ Some m → named_literal names l ≡ Some m
literal_stays own names once among l m h = by (meaning_of own l.var) refl h
  where
    by : (o : Option Meaning) → meaning_of own l.var ≡ o → option_map (λ (meaning : Meaning). record { meaning = meaning; positive = l.positive }) o ≡ Some m → named_literal names l ≡ Some m
    by None e is = cc
    by (Some meaning) e is = rw (has_name names (l.var, meaning) once (among (l.var, meaning) (named_entry own l.var meaning e))) is

pub clause_stays : (own names : List (ℕ × Meaning)) → HasEachOnce names → AreAmong own names → (clause : Clause) (read : List NamedLiteral) → named_clause own clause ≡ Some read → named_clause names clause ≡ Some read
clause_stays own names once among [] read h = h
clause_stays own names once among (l ∷ clause) read h =
    let parts = read_of own l clause read h in
    rw (literal_stays own names once among l parts.first parts.literal, clause_stays own names once among clause parts.rest parts.later) (ap Some (sym parts.whole))

pub fault_literals_stay : FaultLiteralsStay
fault_literals_stay own names net log n inputs once among reads = clause_stays own names once among inputs (fault_inputs net log n) reads

-- ---- the bound

negative_reads : (names : List (ℕ × Meaning)) (var : ℕ) (meaning : Meaning) → meaning_of names var ≡ Some meaning → named_clause names (negative var ∷ []) ≡ Some (no meaning ∷ [])
negative_reads names var meaning h = ap (λ o. with_literal (option_map (λ (meaning' : Meaning). record { meaning = meaning'; positive = (negative var).positive }) o) (Some [])) h

pub bound_is_read : BoundIsRead
bound_is_read net log n names state k counter named less = by (length state.inputs) refl
  where
    size : length (fault_inputs net log n) ≡ length state.inputs
    size = read_length names state.inputs (fault_inputs net log n) named.inputs_read

    by : (m : ℕ) → length state.inputs ≡ m → ReadsAs names (bound_literal state k ∷ []) (bound_literals net log n (Some k))
    by zero h = let some = counter.filled (omega (arith, less)) in absurd (omega (arith, some, h))
    by (suc m) h =
        let last : length state.inputs - 1 ≡ m = omega (arith, h) in
        let called = named.called m k (record { input = omega (arith, h); column = less }) in
        subst (λ i. ReadsAs names (negative (variable state i k) ∷ []) (bound_literals net log n (Some k))) (sym last)
        (subst (λ c. ReadsAs names (negative (variable state m k) ∷ []) (at_most c k)) (sym (size ∙ h))
        (reads_whole names (negative (variable state m k) ∷ []) (no (reaches (suc m) (suc k)) ∷ []) (negative_reads names (variable state m k) (reaches (suc m) (suc k)) called)))
