-- Clauses and assumptions that ask a question say what it asks, and are drawn from its families.
use Rattle.std.proofs.Common.{ℕ, Bool, false, inl, inr, List, Option, refl, sym, subst, IsTrue}
use Rattle.card_counter.specs.CounterClauses.{IsNamedCount}
use Rattle.des_base.proofs.Elements.{all_append, all_split, all_from}
use Rattle.des_net.specs.Network.{Net}
use Rattle.des_net.specs.Width.{joined}
use Rattle.question_clauses.proofs.Guards.{literals_by_name}
use Rattle.question_clauses.proofs.Lists.{all_at}
use Rattle.question_clauses.specs.Decoded.{decoded, decoded_order}
use Rattle.question_clauses.specs.LogClauses.{log_clause, guard_literals}
use Rattle.question_clauses.specs.LogTruth.{LogClausesHold, GuardsHold}
use Rattle.log_order.specs.Log.{Log}
use Rattle.prop_core.proofs.NameLemmas.{values_match, assignments_match, code_holds}
use Rattle.prop_core.specs.Clauses.{Clause, AllClausesTrue}
use Rattle.prop_core.specs.NamedClauses.{named_true, named_clause_true, Match, value_by, assignment_by, AllHold}
use Rattle.prop_core.specs.VariableNames.{Meaning, NamedLiteral, ReadsAs}
use Rattle.prop_core.specs.declared.lit.Lit.{Lit}
use Rattle.question_clauses.proofs.StepCode.{steps_from_all, all_from_steps}
use Rattle.question_clauses.specs.Steps.{StepClausesHold}
use Rattle.run_decode.proofs.Assumptions.{assumptions_are_consistent}
use Rattle.run_decode.proofs.RunsGiven.{decoded_by_name, gives_explanation}
use Rattle.run_decode.proofs.Truths.{QuestionHolds, BoundHolds, bound_says, explained_has_truth, question_has_truth}
use Rattle.run_decode.specs.Drawn.{IsNamedClause, IsInstance, fault_inputs, bound_literals, assumption_literals}
use Rattle.run_decode.specs.Faithful.{IsWithin, MakesTrue}
use Rattle.run_decode.specs.Question.{IsNamedQuestion, Asks}
use Rattle.run_decode.specs.QuestionLaws.{QuestionIsFaithful, QuestionIsDrawn, QuestionGivesExplanations}

-- ---- the clauses, by name

-- the clauses of the question with these columns alone
record HoldsWith (net : Net) (log : Log) (n columns : ℕ) (value : Meaning → Bool) : Type 0 where
  steps : StepClausesHold net n value
  logged : LogClausesHold net log n value
  count : AllHold (IsNamedCount (fault_inputs net log n) columns) value

holds_from_all : (net : Net) (log : Log) (n columns : ℕ) (value : Meaning → Bool) → AllHold (IsNamedQuestion net log n columns) value → HoldsWith net log n columns value
holds_from_all net log n columns value all = record {
  steps = steps_from_all net n value (λ named is. all named (inl is));
  logged = λ which is. all (log_clause net log n which) (inr (inl (which, is, refl)));
  count = λ named is. all named (inr (inr is));
}

all_from_holds : (net : Net) (log : Log) (n columns : ℕ) (value : Meaning → Bool) → QuestionHolds net log n value → AllHold (IsNamedQuestion net log n columns) value
all_from_holds net log n columns value holds named (inl is) = all_from_steps net n value holds.steps named is
all_from_holds net log n columns value holds named (inr (inl (which, is, same))) = subst (λ clause. IsTrue (named_clause_true value clause)) same (holds.logged which is)
all_from_holds net log n columns value holds named (inr (inr is)) = holds.count columns named is

-- ---- the clauses and assumptions, by variable

pub instances_of : (net : Net) (log : Log) (n columns : ℕ) (named : List NamedLiteral) → IsNamedQuestion net log n columns named → IsNamedClause net log n named
instances_of net log n columns named (inl is) = inl is
instances_of net log n columns named (inr (inl is)) = inr (inl is)
instances_of net log n columns named (inr (inr (which, is, few, same))) = inr (inr (which, is, same))

module _ (net : Net) (log : Log) (n : ℕ) (bound : Option ℕ) (names : List (ℕ × Meaning)) (clauses : List Clause) (assumed : List Lit) (asks : Asks net log n bound names clauses assumed) where
  pub clauses_true : (assignment : ℕ → Bool) (value : Meaning → Bool) → Match names assignment value → QuestionHolds net log n value → AllClausesTrue assignment clauses
  clauses_true assignment value match holds =
      (code_holds (IsNamedQuestion net log n asks.columns) names clauses assignment value asks.question.code match).1 (all_from_holds net log n asks.columns value holds)

  -- what is true by name is true by variable
  pub made_true : (value : Meaning → Bool) (given : ℕ → Bool) → QuestionHolds net log n value → GuardsHold net log value → BoundHolds net log n bound value → MakesTrue (assignment_by names value given) clauses assumed
  made_true value given holds guards bounds =
      let match = assignments_match names value given in record {
        clauses_true = clauses_true (assignment_by names value given) value match holds;
        assumed_true = (literals_by_name names (assignment_by names value given) value match assumed (assumption_literals net log n bound) asks.assumes).1
            (all_append (λ l. IsTrue (named_true value l)) (guard_literals net log) (bound_literals net log n bound) guards bounds);
      }

  -- and the other way round
  record SaysByName (value : Meaning → Bool) : Type 0 where
    holds : HoldsWith net log n asks.columns value
    guards : GuardsHold net log value
    bounds : BoundHolds net log n bound value

  says : (assignment : ℕ → Bool) → MakesTrue assignment clauses assumed → SaysByName (value_by names assignment)
  says assignment makes =
      let value = value_by names assignment in
      let match = values_match names asks.question.once assignment in
      let all = (code_holds (IsNamedQuestion net log n asks.columns) names clauses assignment value asks.question.code match).0 makes.clauses_true in
      let both = all_split (λ l. IsTrue (named_true value l)) (guard_literals net log) (bound_literals net log n bound)
      ((literals_by_name names assignment value match assumed (assumption_literals net log n bound) asks.assumes).0 makes.assumed_true) in
      record { holds = holds_from_all net log n asks.columns value all; guards = both.0; bounds = both.1 }

pub question_gives_explanations : QuestionGivesExplanations
question_gives_explanations net log n bound names clauses assumed assignment alarms network valid complete kept asks makes =
    let true' = says net log n bound names clauses assumed asks assignment makes in
    let gives = decoded_by_name net log n (value_by names assignment) alarms network valid complete kept true'.holds.steps true'.holds.logged true'.guards in
    let explanation = gives_explanation net log n names assignment alarms asks.question.once gives in record {
      explanation = explanation;
      within = subst (IsWithin bound) (sym explanation.faults) (bound_says net log n asks.columns bound (value_by names assignment) asks.column true'.holds.count true'.bounds);
    }

pub question_is_faithful : QuestionIsFaithful
question_is_faithful net log n bound names clauses assumed network valid asks = record {
  complete = λ word order explains within.
      let made = explained_has_truth net log n bound word order network explains within in
      (assignment_by names made.value (λ var. false), made_true net log n bound names clauses assumed asks made.value (λ var. false) made.holds made.guards made.bounds);
  sound = λ assignment makes.
      let given = question_gives_explanations net log n bound names clauses assumed assignment valid.order network valid valid.complete valid.kept asks makes in record {
        word = joined (decoded net log (value_by names assignment) valid.order n);
        order = decoded_order net log (value_by names assignment) valid.order n;
        explains = given.explanation.gives.explains;
        within = given.within;
      };
  satisfiable =
      let made = question_has_truth net log n network in
      (assignment_by names made.0 (λ var. false), clauses_true net log n bound names clauses assumed asks (assignment_by names made.0 (λ var. false)) made.0 (assignments_match names made.0 (λ var. false)) made.1);
  consistent = assumptions_are_consistent net log n bound names assumed asks.assumes;
}

pub question_is_drawn : QuestionIsDrawn
question_is_drawn net log n bound names clauses assumed asks = record {
  meanings = names;
  once = asks.question.once;
  instances = all_from (IsInstance net log n names) clauses (λ clause in'.
      let found = all_at (λ c. (named : List NamedLiteral) × IsNamedQuestion net log n asks.columns named × ReadsAs names c named) clauses asks.question.code.only clause in' in
      (found.0, instances_of net log n asks.columns found.0 found.1, found.2));
  assumes = asks.assumes;
}
