-- A final clause shows which bound it refutes: where something explains the log, it negates the literal of that bound.
use Rattle.std.proofs.Common.{◌≡◌, ◌∙◌, ℕ, zero, suc, ◌-◌, ◌<◌, true, false, ◌⊎◌, inl, inr, List, [], ◌∷◌, length, None, Some, option_map, map, refl, sym, ap, subst, arith, Contains, append-nil}
use Rattle.std.specs.List.{AllByRecursion}
use Rattle.card_counter.specs.CounterState.{CounterState, bound_literal}
use Rattle.des_base.proofs.Elements.{cons_cases, here_first, here_later, none_in_nil}
use Rattle.des_net.specs.Network.{Net, IsNetwork, observable_events}
use Rattle.least_faults.proofs.Posing.{poses}
use Rattle.least_faults.specs.Asking.{AreAssumptions}
use Rattle.least_faults.specs.Parts.{AreParts}
use Rattle.question_clauses.proofs.LogCodes.{IsReadOf, read_of}
use Rattle.question_clauses.proofs.Lists.{all_at}
use Rattle.question_clauses.specs.LogClauses.{guard_literals, chain}
use Rattle.log_encode.specs.CodedLog.{CodedLog}
use Rattle.log_order.specs.Log.{Log, IsValidLog}
use Rattle.prop_core.specs.Clauses.{Clause, negation, NegatesOnly}
use Rattle.prop_core.specs.VariableNames.{Meaning, reaches, closed, NamedLiteral, yes, no, named_literal, named_clause, ReadsAs}
use Rattle.prop_core.specs.declared.lit.Lit.{Lit}
use Rattle.replay.specs.Explanation.{IsExplained}
use Rattle.run_decode.proofs.Decided.{refuted_is_decided}
use Rattle.run_decode.proofs.WholeNames.{together_one_naming}
use Rattle.run_decode.specs.Decided.{Entails}
use Rattle.run_decode.specs.Drawn.{at_most, bound_literals, assumption_literals, fault_inputs}
use Rattle.run_decode.specs.WholeNaming.{whole_meanings}
use Rattle.std.proofs.lemmas.List.Elements.{Contains-append_cases as append_cases}
use Rattle.std.proofs.lemmas.Option.{same_Some}
use Rattle.step_encode.specs.Coded.{CodedSteps}
use Rattle.prop_core.proofs.Negations.{NegatesLast, split_negates}

-- ---- a literal that is assumed, by name

record IsNamedIn (names : List (ℕ × Meaning)) (read : List NamedLiteral) (l : Lit) : Type 0 where
  m : NamedLiteral
  literal : named_literal names l ≡ Some m
  there : Contains read m

named_in : (names : List (ℕ × Meaning)) (clause : Clause) (read : List NamedLiteral) (l : Lit) → named_clause names clause ≡ Some read → Contains clause l → IsNamedIn names read l
named_in names [] read l h in' = absurd (none_in_nil l in')
named_in names (x ∷ clause) read l h in' = by (cons_cases x clause l in') (λ later. named_in names clause parts.rest l parts.later later)
  where
    parts : IsReadOf names x clause read
    parts = read_of names x clause read h

    by : (x ≡ l) ⊎ Contains clause l → (Contains clause l → IsNamedIn names parts.rest l) → IsNamedIn names read l
    by (inl is) later = record { m = parts.first; literal = subst (λ y. named_literal names y ≡ Some parts.first) is parts.literal; there = subst (λ r. Contains r parts.first) (sym parts.whole) (here_first parts.first parts.rest parts.first refl) }
    by (inr rest) later = let found = later rest in record { m = found.m; literal = found.literal; there = subst (λ r. Contains r found.m) (sym parts.whole) (here_later parts.first parts.rest found.m found.there) }

guards_positive : (net : Net) (log : Log) (es : List ℕ) → AllByRecursion (λ (m : NamedLiteral). m.positive ≡ true) (map (λ e. yes (closed e (length (chain net log e)))) es)
guards_positive net log [] = tt
guards_positive net log (e ∷ es) = (refl, guards_positive net log es)

-- among the assumptions within b there is one bound alone
bound_among : (net : Net) (log : Log) (n i j b : ℕ) → Contains (assumption_literals net log n (Some b)) (no (reaches i (suc j))) → j ≡ b
bound_among net log n i j b in' = by (append_cases (guard_literals net log) (bound_literals net log n (Some b)) (no (reaches i (suc j))) in')
  where
    positive_not : (m : NamedLiteral) → m.positive ≡ true → m ≡ no (reaches i (suc j)) → ⊥
    positive_not m sign is = let other : m.positive ≡ false = ap (λ (x : NamedLiteral). x.positive) is in cc

    same_reach : (x y : Meaning) → no x ≡ no y → x ≡ y
    same_reach x y h = ap (λ (m : NamedLiteral). m.meaning) h

    number_of : Meaning → ℕ
    number_of (reaches a k) = k
    number_of other = 0

    last : (count : ℕ) → Contains (at_most count b) (no (reaches i (suc j))) → j ≡ b
    last zero in'' = absurd (none_in_nil (no (reaches i (suc j))) in'')
    last (suc m) in'' = only (cons_cases (no (reaches (suc m) (suc b))) [] (no (reaches i (suc j))) in'')
      where
        only : (no (reaches (suc m) (suc b)) ≡ no (reaches i (suc j))) ⊎ Contains [] (no (reaches i (suc j))) → j ≡ b
        only (inl is) = let numbers : suc b ≡ suc j = ap number_of (same_reach (reaches (suc m) (suc b)) (reaches i (suc j)) is) in omega (arith, numbers)
        only (inr none) = absurd (none_in_nil (no (reaches i (suc j))) none)

    by : Contains (guard_literals net log) (no (reaches i (suc j))) ⊎ Contains (bound_literals net log n (Some b)) (no (reaches i (suc j))) → j ≡ b
    by (inl guard) = absurd (positive_not (no (reaches i (suc j))) (all_at (λ (m : NamedLiteral). m.positive ≡ true) (guard_literals net log) (refl, guards_positive net log (observable_events net)) (no (reaches i (suc j))) guard) refl)
    by (inr bound) = last (length (fault_inputs net log n)) bound

-- ---- the bound that a final clause refutes

module _ (steps : CodedSteps) (code : CodedLog) (counter : CounterState) (vars : ℕ) (axioms : List Clause) (parts : AreParts steps code counter vars axioms) where
  bound_called : (j : ℕ) → j < length counter.columns → named_literal (whole_meanings steps code counter) (bound_literal counter j) ≡ Some (no (reaches (suc (length counter.inputs - 1)) (suc j)))
  bound_called j less =
      let some = parts.together.counted.filled (omega (arith, less)) in
      let meaning = (together_one_naming steps code counter parts.together).of_counter.called (length counter.inputs - 1) j (record { input = omega (arith, some); column = less }) in
      ap (λ o. option_map (λ (meaning' : Meaning). let m : NamedLiteral = record { meaning = meaning'; positive = false } in m) o) meaning

  pub tells_bound : (log : Log) (j b faults : ℕ) (first second : List Lit) (clause : Clause) → IsNetwork steps.net → IsValidLog log → code.log ≡ log →
      AreAssumptions code counter (Some j) first → NegatesOnly first clause → ReadsAs (whole_meanings steps code counter) second (assumption_literals steps.net log steps.steps (Some b)) → NegatesOnly second clause →
      Entails axioms clause → IsExplained steps.net log steps.steps faults → j ≡ b
  tells_bound log j b faults first second clause network valid same assumptions negates reads others entails explained =
      by (split_negates assumptions.guards (bound_literal counter j) clause (subst (λ xs. NegatesOnly xs clause) assumptions.whole negates))
    where
      unbounded : AreAssumptions code counter None assumptions.guards
      unbounded = record { guards = assumptions.guards; read = assumptions.read; whole = sym (append-nil assumptions.guards); column = tt }

      by : NegatesOnly assumptions.guards clause ⊎ NegatesLast (bound_literal counter j) clause → j ≡ b
      by (inl guards) =
          let posed = poses steps code counter vars axioms None assumptions.guards parts unbounded log network valid same in
          absurd (refuted_is_decided steps.net log steps.steps None axioms assumptions.guards clause posed.faithful entails guards explained.word explained.order explained.explains)
      by (inr found) =
          let in' = subst (λ x. Contains second x) found.is (all_at (λ l. Contains second (negation l)) clause others found.l found.there) in
          let named = named_in (whole_meanings steps code counter) second reads.read (bound_literal counter j) reads.by_name in' in
          let is = same_Some named.m (no (reaches (suc (length counter.inputs - 1)) (suc j))) (sym named.literal ∙ bound_called j assumptions.column) in
          bound_among steps.net log steps.steps (suc (length counter.inputs - 1)) j b ((reads.same (no (reaches (suc (length counter.inputs - 1)) (suc j)))).0 (subst (λ m. Contains reads.read m) is named.there))
