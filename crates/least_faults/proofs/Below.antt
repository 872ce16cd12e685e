-- The clauses of the parts of a question have no variables but those that were made.
use Rattle.std.proofs.Common.{◌≡◌, ℕ, ◌+◌, ◌-◌, ◌*◌, ◌<◌, ◌≤◌, ◌⊎◌, inl, inr, List, [], ◌∷◌, ◌++◌, Option, None, Some, option_map, refl, ap, subst, arith, Contains}
use Rattle.std.specs.List.{AllByRecursion}
use Rattle.std.proofs.lemmas.List.Elements.{All-nil, All-cons, Contains-append_cases as append_cases}
use Rattle.card_counter.proofs.CodeLemmas.{counter_is_code}
use Rattle.card_counter.proofs.NameLemmas.{counter_meanings_stand}
use Rattle.card_counter.specs.CounterState.{CounterState, counter_meanings, counter_clauses}
use Rattle.des_base.proofs.Elements.{all_from as all_of}
use Rattle.least_faults.specs.Parts.{AreParts, HaveRoom}
use Rattle.question_clauses.proofs.LogCodes.{read_of, named_entry}
use Rattle.question_clauses.proofs.Lists.{all_at}
use Rattle.log_encode.proofs.CodeLemmas.{asked_below}
use Rattle.log_encode.specs.CodedLog.{CodedLog, log_meanings, read_meanings}
use Rattle.prop_core.specs.Clauses.{Clause, HasValues}
use Rattle.prop_core.specs.NamedClauses.{IsCode}
use Rattle.prop_core.specs.VariableNames.{Meaning, NamedLiteral, meaning_of, named_literal, named_clause, ReadsAs}
use Rattle.prop_core.specs.declared.grid.Grid.{Grid}
use Rattle.prop_core.specs.declared.lit.Lit.{Lit}
use Rattle.run_decode.proofs.RunNames.{step_entry}
use Rattle.run_decode.proofs.WholeNames.{together_one_naming}
use Rattle.run_decode.specs.Drawn.{fault_inputs}
use Rattle.run_decode.specs.WholeNaming.{AreClausesOf, whole_meanings, HaveOneNaming}
use Rattle.step_encode.proofs.Codes.{grid_ends}
use Rattle.step_encode.specs.Coded.{CodedSteps, code_meanings, variable_count}

-- ---- by names of variables below a number

-- each of the variables that have a name is below this number
abbrev pub AreBelow : ℕ → List (ℕ × Meaning) → Type 0
AreBelow vars names = (entry : ℕ × Meaning) → Contains names entry → entry.0 < vars

literal_below : (vars : ℕ) (names : List (ℕ × Meaning)) (l : Lit) (read : NamedLiteral) → AreBelow vars names → named_literal names l ≡ Some read → l.var < vars
literal_below vars names l read below h = by (meaning_of names l.var) (λ meaning is. below (l.var, meaning) (named_entry names l.var meaning is)) h
  where
    by : (o : Option Meaning) → ((meaning : Meaning) → o ≡ Some meaning → l.var < vars) → option_map (λ (meaning : Meaning). let m : NamedLiteral = record { meaning = meaning; positive = l.positive } in m) o ≡ Some read → l.var < vars
    by None known is = cc
    by (Some meaning) known is = known meaning refl

pub read_below : (vars : ℕ) (names : List (ℕ × Meaning)) (clause : Clause) (read : List NamedLiteral) → AreBelow vars names → named_clause names clause ≡ Some read → HasValues vars clause
read_below vars names [] read below h = All-nil (λ (l : Lit). l.var < vars)
read_below vars names (l ∷ clause) read below h =
    let of' = read_of names l clause read h in
    All-cons (λ (x : Lit). x.var < vars) l clause (literal_below vars names l of'.first below of'.literal) (read_below vars names clause of'.rest below of'.later)

-- so is each clause of a code by these names
code_below : (vars : ℕ) (names : List (ℕ × Meaning)) (family : List NamedLiteral → Type 0) (clauses : List Clause) (clause : Clause) → AreBelow vars names → IsCode names family clauses → Contains clauses clause → HasValues vars clause
code_below vars names family clauses clause below code in' =
    let found = all_at (λ (c : Clause). (named : List NamedLiteral) × family named × ReadsAs names c named) clauses code.only clause in' in
    let reads = found.2 in
    read_below vars names clause reads.read below reads.by_name

-- ---- the names of the parts

-- parts with all their axioms have room
pub room_of : (steps : CodedSteps) (code : CodedLog) (counter : CounterState) (vars : ℕ) (axioms : List Clause) → AreParts steps code counter vars axioms → HaveRoom steps code counter vars
room_of steps code counter vars axioms parts =
    let bounded = parts.bounded in
    let variables = bounded.variables in
    let limit = bounded.limit in record {
      together = parts.together;
      above = parts.above;
      made = parts.made;
      columns = bounded.columns;
      fits = omega (arith, variables, limit);
    }

module _ (steps : CodedSteps) (code : CodedLog) (counter : CounterState) (vars : ℕ) (room : HaveRoom steps code counter vars) where
  steps_end : steps.first + variable_count steps.net steps.steps ≤ vars
  steps_end =
      let made = subst (λ (grid : Grid). grid.first + grid.events * grid.steps ≤ code.asked) room.together.beside.grid room.together.beside.logged.made in
      let ends = grid_ends steps in
      let asked = asked_below code room.together.beside.logged in
      let above = room.above in
      omega (arith, made, ends, asked, above)

  pub room_names_below : AreBelow vars (whole_meanings steps code counter)
  room_names_below entry in' = by (append_cases (code_meanings steps) (log_meanings code ++ counter_meanings counter) entry in')
    where
      of_counter : Contains (counter_meanings counter) entry → entry.0 < vars
      of_counter here =
          let found = (counter_meanings_stand counter room.together.counted).only entry here in
          let below = room.made.columns found.0 found.1 found.2 in
          let same = ap (λ (e : ℕ × Meaning). e.0) found.3 in
          omega (arith, below, same)

      of_others : Contains (log_meanings code) entry ⊎ Contains (counter_meanings counter) entry → entry.0 < vars
      of_others (inl here) =
          let low = all_at (λ (e : ℕ × Meaning). e.0 < code.vars) (log_meanings code) room.together.beside.logged.meanings.below entry here in
          let above = room.above in
          omega (arith, low, above)
      of_others (inr here) = of_counter here

      by : Contains (code_meanings steps) entry ⊎ Contains (log_meanings code ++ counter_meanings counter) entry → entry.0 < vars
      by (inl here) = let low = (step_entry steps code room.together.beside entry here).1 in let end = steps_end in omega (arith, low, end)
      by (inr here) = of_others (append_cases (log_meanings code) (counter_meanings counter) entry here)

  naming : HaveOneNaming steps code counter
  naming = together_one_naming steps code counter room.together

  -- so are those of the counter
  pub counter_below : (clause : Clause) → Contains (counter_clauses counter) clause → HasValues vars clause
  counter_below clause here =
      code_below vars (whole_meanings steps code counter) _ (counter_clauses counter) clause room_names_below (counter_is_code (whole_meanings steps code counter) (fault_inputs steps.net code.log steps.steps) counter naming.of_counter) here

  -- and all clauses of the parts
  pub clause_below : (axioms : List Clause) (are : AreClausesOf steps code counter axioms) (clause : Clause) → Contains are.stepped clause ⊎ (Contains are.written clause ⊎ Contains (counter_clauses counter) clause) → HasValues vars clause
  clause_below axioms are clause (inl here) = code_below vars (code_meanings steps) _ are.stepped clause (λ entry in'. room_names_below entry (naming.of_steps entry in')) are.step_code here
  clause_below axioms are clause (inr (inl here)) = code_below vars (read_meanings code) _ are.written clause (λ entry in'. room_names_below entry (naming.of_log entry in')) are.log_code.clauses here
  clause_below axioms are clause (inr (inr here)) = counter_below clause here

pub names_below : (steps : CodedSteps) (code : CodedLog) (counter : CounterState) (vars : ℕ) (axioms : List Clause) → AreParts steps code counter vars axioms → AreBelow vars (whole_meanings steps code counter)
names_below steps code counter vars axioms parts = room_names_below steps code counter vars (room_of steps code counter vars axioms parts)

pub axioms_below : (steps : CodedSteps) (code : CodedLog) (counter : CounterState) (vars : ℕ) (axioms : List Clause) → AreParts steps code counter vars axioms → AllByRecursion (HasValues vars) axioms
axioms_below steps code counter vars axioms parts = all_of (HasValues vars) axioms (λ clause in'. clause_below steps code counter vars (room_of steps code counter vars axioms parts) axioms parts.clauses clause ((parts.clauses.same clause).0 in'))
