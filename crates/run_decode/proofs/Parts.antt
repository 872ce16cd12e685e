-- A question from its parts.
use Rattle.std.proofs.Common.{ℕ, ◌⊎◌, inl, inr, List, ◌++◌, Contains}
use Rattle.card_counter.specs.CounterClauses.{IsNamedCount}
use Rattle.des_base.proofs.Elements.{all_from}
use Rattle.question_clauses.proofs.LogCodes.{readings_stay, code_stays}
use Rattle.question_clauses.proofs.Lists.{all_at}
use Rattle.question_clauses.specs.LogClauses.{guard_literals}
use Rattle.question_clauses.specs.LogCodes.{IsNamedLog}
use Rattle.prop_core.proofs.FamilyLemmas.{read_append}
use Rattle.prop_core.specs.Clauses.{Clause}
use Rattle.prop_core.specs.NamedClauses.{IsCode, IsThere}
use Rattle.prop_core.specs.VariableNames.{Meaning, NamedLiteral, HasEachOnce, ReadsAs}
use Rattle.question_clauses.specs.StepCodes.{IsNamedStep}
use Rattle.run_decode.specs.Drawn.{fault_inputs, bound_literals}
use Rattle.run_decode.specs.Question.{IsNamedQuestion, IsCodeAmong}
use Rattle.run_decode.specs.QuestionLaws.{PartsMakeQuestion, PartsAreAssumed}
use Rattle.std.proofs.lemmas.List.Elements.{Contains-append_cases, Contains-append_left, Contains-append_right}

part_code : (names : List (ℕ × Meaning)) (family : List NamedLiteral → Type 0) (written : List Clause) → HasEachOnce names → IsCodeAmong names family written → IsCode names family written
part_code names family written once part = code_stays part.own names family written once part.among part.code

pub parts_make_question : PartsMakeQuestion
parts_make_question net log n columns names clauses stepped logged counted once steps logs counts same = record {
  once = once;
  code = record {
    all = all;
    only = all_from (λ clause. (named : List NamedLiteral) × IsNamedQuestion net log n columns named × ReadsAs names clause named) clauses (λ clause in'. only clause ((same clause).0 in'));
  };
}
  where
    step_code : IsCode names (IsNamedStep net n) stepped
    step_code = part_code names (IsNamedStep net n) stepped once steps

    log_code : IsCode names (IsNamedLog net log n) logged
    log_code = part_code names (IsNamedLog net log n) logged once logs

    count_code : IsCode names (IsNamedCount (fault_inputs net log n) columns) counted
    count_code = part_code names (IsNamedCount (fault_inputs net log n) columns) counted once counts

    all : (named : List NamedLiteral) → IsNamedQuestion net log n columns named → IsThere names clauses named
    all named (inl is) = let there = step_code.all named is in (there.0, (same there.0).1 (inl there.1), there.2)
    all named (inr (inl is)) = let there = log_code.all named is in (there.0, (same there.0).1 (inr (inl there.1)), there.2)
    all named (inr (inr is)) = let there = count_code.all named is in (there.0, (same there.0).1 (inr (inr there.1)), there.2)

    only : (clause : Clause) → Contains stepped clause ⊎ (Contains logged clause ⊎ Contains counted clause) → (named : List NamedLiteral) × IsNamedQuestion net log n columns named × ReadsAs names clause named
    only clause (inl in') = let found = all_at (λ c. (named : List NamedLiteral) × IsNamedStep net n named × ReadsAs names c named) stepped step_code.only clause in' in (found.0, inl found.1, found.2)
    only clause (inr (inl in')) = let found = all_at (λ c. (named : List NamedLiteral) × IsNamedLog net log n named × ReadsAs names c named) logged log_code.only clause in' in (found.0, inr (inl found.1), found.2)
    only clause (inr (inr in')) =
        let found = all_at (λ c. (named : List NamedLiteral) × IsNamedCount (fault_inputs net log n) columns named × ReadsAs names c named) counted count_code.only clause in' in
        (found.0, inr (inr found.1), found.2)

-- lists with the same elements, one after another
both_ways : (xs as' ys bs : List NamedLiteral) → ((y : NamedLiteral) → Contains xs y → Contains as' y) → ((y : NamedLiteral) → Contains ys y → Contains bs y) → (x : NamedLiteral) → Contains (xs ++ ys) x → Contains (as' ++ bs) x
both_ways xs as' ys bs f g x in' = by (Contains-append_cases xs ys x in')
  where
    by : Contains xs x ⊎ Contains ys x → Contains (as' ++ bs) x
    by (inl a) = Contains-append_left as' bs x (f x a)
    by (inr b) = Contains-append_right as' bs x (g x b)

pub parts_are_assumed : PartsAreAssumed
parts_are_assumed net log n bound names guards bounds once guarded bounded =
    let first = readings_stay guarded.own names guards (guard_literals net log) once guarded.among guarded.reads in
    let second = readings_stay bounded.own names bounds (bound_literals net log n bound) once bounded.among bounded.reads in
    record {
      read = first.read ++ second.read;
      by_name = read_append names guards bounds first.read second.read first.by_name second.by_name;
      same = λ x. (
        both_ways first.read (guard_literals net log) second.read (bound_literals net log n bound) (λ y. (first.same y).0) (λ y. (second.same y).0) x,
        both_ways (guard_literals net log) first.read (bound_literals net log n bound) second.read (λ y. (first.same y).1) (λ y. (second.same y).1) x,
      );
    }
