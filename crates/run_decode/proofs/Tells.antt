-- What faithful questions tell, what a refutation says of it, assumptions that are true together, and questions with riders.
use Rattle.std.proofs.Common.{◌≡◌, ◌≢◌, ◌↔◌, ◌⊎◌, inl, inr, ℕ, Bool, true, false, not, List, [], ◌∷◌, ◌++◌, Option, None, option_map, unwrap_or, Contains, sym, ap, subst, IsTrue}
use Rattle.des_base.proofs.Elements.{all_append, all_from as all_of, all_split}
use Rattle.des_base.specs.Lists.{EachPair}
use Rattle.des_net.specs.Network.{Net, IsNetwork}
use Rattle.des_net.specs.Width.{joined}
use Rattle.question_clauses.proofs.Guards.{literals_by_name}
use Rattle.question_clauses.proofs.Lists.{all_at}
use Rattle.question_clauses.specs.Decoded.{decoded, decoded_order}
use Rattle.log_order.specs.Log.{Log, IsValidLog}
use Rattle.prop_core.proofs.NameLemmas.{assignments_match}
use Rattle.prop_core.proofs.Premises.{opposite}
use Rattle.prop_core.specs.Clauses.{Clause, negation, literal_true, clause_true, AllClausesTrue, AllLiteralsTrue, NegatesOnly}
use Rattle.prop_core.specs.NamedClauses.{same_sign, named_true, value_by, assignment_by}
use Rattle.prop_core.specs.VariableNames.{Meaning, meaning_of, ReadsAs}
use Rattle.prop_core.specs.declared.lit.Lit.{Lit}
use Rattle.run_decode.proofs.Assumptions.{is_guard, HasSign, assumptions_signed}
use Rattle.run_decode.proofs.Decided.{refuted_by}
use Rattle.run_decode.proofs.Questions.{clauses_true, made_true, question_gives_explanations}
use Rattle.run_decode.proofs.Truths.{explained_has_truth, question_has_truth}
use Rattle.run_decode.specs.Drawn.{assumption_literals}
use Rattle.run_decode.specs.Question.{Asks}
use Rattle.run_decode.specs.Tells.{Property, Tells, ExplainsWithin, FaithfulTells, AreBoth}
use Rattle.replay.specs.Explanation.{Entry}
use Rattle.run_decode.specs.Decided.{Entails}
use Rattle.question_clauses.specs.LogLaws.{HasFalse}
use Rattle.question_clauses.specs.Steps.{AreSteps}
use Rattle.run_decode.specs.Faithful.{MakesTrue}

-- Further clauses and assumptions say something of the truth of meanings, whatever it is: they may read the variables that have meanings, and choose others.
pub record Rides (meanings : List (ℕ × Meaning)) (rider : List Clause) (further : List Lit) (says : (Meaning → Bool) → Type 0) : Type 0 where
  -- if it holds, the other variables can be chosen
  pub complete : (value : Meaning → Bool) → says value → (given : ℕ → Bool) × MakesTrue (assignment_by meanings value given) rider further
  -- and if all is true, it holds
  pub sound : (assignment : ℕ → Bool) → MakesTrue assignment rider further → says (value_by meanings assignment)
  -- the clauses alone never stand against a truth of meanings
  pub free : (value : Meaning → Bool) → (given : ℕ → Bool) × AllClausesTrue (assignment_by meanings value given) rider

-- What is said of a truth of meanings holds of the words whose events are those of its steps, with orders that have as many false alarms.
abbrev pub SaysOfWords : Net → Log → ℕ → ((Meaning → Bool) → Type 0) → Property → Type 0
SaysOfWords net log n says has = (value : Meaning → Bool) (pieces : List (List ℕ)) (order : List Entry) → AreSteps net n value pieces → HasFalse log value order → says value ↔ has (joined pieces) order

-- Where the clauses entail a clause of negated assumptions, nothing has the property that they tell.
abbrev pub ToldIsRefuted : Type 1
ToldIsRefuted = (has : Property) (clauses : List Clause) (assumed : List Lit) (clause : Clause) → Tells clauses assumed has → Entails clauses clause → NegatesOnly assumed clause →
    (word : List ℕ) (order : List Entry) → has word order → ⊥

-- Properties of the same words and orders are told by the same clauses.
abbrev pub SamePropertyTold : Type 1
SamePropertyTold = (has other : Property) (clauses : List Clause) (assumed : List Lit) → ((word : List ℕ) (order : List Entry) → has word order ↔ other word order) → Tells clauses assumed has → Tells clauses assumed other

-- A question with a rider tells which of its explanations have what the rider says.
abbrev pub RiddenTells : Type 1
RiddenTells = (net : Net) (log : Log) (n : ℕ) (bound : Option ℕ) (meanings : List (ℕ × Meaning)) (clauses rider whole : List Clause) (assumed further : List Lit)
    (says : (Meaning → Bool) → Type 0) (has : Property) → IsNetwork net → IsValidLog log → Asks net log n bound meanings clauses assumed →
    Rides meanings rider further says → SaysOfWords net log n says has → AreBoth whole clauses rider → EachPair (λ a b. a ≢ negation b) (assumed ++ further) →
    Tells whole (assumed ++ further) (λ word order. ExplainsWithin net log n bound word order × has word order)

pub faithful_tells : FaithfulTells
faithful_tells net log n bound clauses assumed faithful = record {
  complete = λ word order has. faithful.complete word order has.0 has.1;
  sound = λ assignment makes. let given = faithful.sound assignment makes in (given.word, given.order, (given.explains, given.within));
  satisfiable = faithful.satisfiable;
  consistent = faithful.consistent;
}

pub told_is_refuted : ToldIsRefuted
told_is_refuted has clauses assumed clause tells entails negates word order is =
    let found = tells.complete word order is in
    refuted_by clauses assumed clause entails negates found.0 found.1

pub same_property_told : SamePropertyTold
same_property_told has other clauses assumed same tells = record {
  complete = λ word order is. tells.complete word order ((same word order).1 is);
  sound = λ assignment makes. let given = tells.sound assignment makes in (given.0, given.1, (same given.0 given.1).0 given.2);
  satisfiable = tells.satisfiable;
  consistent = tells.consistent;
}

-- ---- assumptions that are true together

-- literals that an assignment makes true don't contradict each other
pub consistent_by : (assignment : ℕ → Bool) (literals : List Lit) → AllLiteralsTrue assignment literals → EachPair (λ a b. a ≢ negation b) literals
consistent_by assignment [] all = tt
consistent_by assignment (a ∷ literals) all = (
  all_of (λ b. a ≢ negation b) literals (λ b in' is.
      opposite (assignment b.var) b.positive (subst (λ (l : Lit). literal_true assignment l ≡ true) is all.0) (all_at (λ l. IsTrue (literal_true assignment l)) literals all.1 b in')),
  consistent_by assignment literals all.1,
)

-- a variable without a name keeps what is given
pub unnamed : (names : List (ℕ × Meaning)) (value : Meaning → Bool) (given : ℕ → Bool) (var : ℕ) → meaning_of names var ≡ None → assignment_by names value given var ≡ given var
unnamed names value given var none = ap (λ o. unwrap_or (option_map value o) (given var)) none

signed_true : (a b : Bool) → a ≡ b → same_sign a b ≡ true
signed_true true b h = sym h
signed_true false b h = ap not (sym h)

-- what a question assumes is true where the guards are true and nothing else is
pub guards_true : (names : List (ℕ × Meaning)) (net : Net) (log : Log) (n : ℕ) (bound : Option ℕ) (given : ℕ → Bool) (assumed : List Lit) → ReadsAs names assumed (assumption_literals net log n bound) →
    AllLiteralsTrue (assignment_by names is_guard given) assumed
guards_true names net log n bound given assumed reads = (literals_by_name names (assignment_by names is_guard given) is_guard (assignments_match names is_guard given) assumed (assumption_literals net log n bound) reads).1
    (all_of (λ m. IsTrue (named_true is_guard m)) (assumption_literals net log n bound) (λ m in'. signed_true m.positive (is_guard m.meaning) (all_at HasSign (assumption_literals net log n bound) (assumptions_signed net log n bound) m in')))

-- ---- clauses together

whole_true : (whole clauses rider : List Clause) (assignment : ℕ → Bool) → AreBoth whole clauses rider → AllClausesTrue assignment clauses → AllClausesTrue assignment rider → AllClausesTrue assignment whole
whole_true whole clauses rider assignment both first second = all_of (λ c. IsTrue (clause_true assignment c)) whole (λ c in'. by c ((both c).0 in'))
  where
    by : (c : Clause) → Contains clauses c ⊎ Contains rider c → IsTrue (clause_true assignment c)
    by c (inl here) = all_at (λ d. IsTrue (clause_true assignment d)) clauses first c here
    by c (inr there) = all_at (λ d. IsTrue (clause_true assignment d)) rider second c there

first_true : (whole clauses rider : List Clause) (assignment : ℕ → Bool) → AreBoth whole clauses rider → AllClausesTrue assignment whole → AllClausesTrue assignment clauses
first_true whole clauses rider assignment both all = all_of (λ c. IsTrue (clause_true assignment c)) clauses (λ c in'. all_at (λ d. IsTrue (clause_true assignment d)) whole all c ((both c).1 (inl in')))

second_true : (whole clauses rider : List Clause) (assignment : ℕ → Bool) → AreBoth whole clauses rider → AllClausesTrue assignment whole → AllClausesTrue assignment rider
second_true whole clauses rider assignment both all = all_of (λ c. IsTrue (clause_true assignment c)) rider (λ c in'. all_at (λ d. IsTrue (clause_true assignment d)) whole all c ((both c).1 (inr in')))

pub ridden_tells : RiddenTells
ridden_tells net log n bound names clauses rider whole assumed further says has network valid asks rides of_words both apart = record {
  complete = λ word order is.
      let made = explained_has_truth net log n bound word order network is.0.0 is.0.1 in
      let said = (of_words made.value made.pieces order made.steps made.false_alarms).1 (subst (λ w. has w order) made.whole is.1) in
      let rest = rides.complete made.value said in
      let first = made_true net log n bound names clauses assumed asks made.value rest.0 made.holds made.guards made.bounds in (
        assignment_by names made.value rest.0,
        record {
          clauses_true = whole_true whole clauses rider (assignment_by names made.value rest.0) both first.clauses_true rest.1.clauses_true;
          assumed_true = all_append (λ l. IsTrue (literal_true (assignment_by names made.value rest.0) l)) assumed further first.assumed_true rest.1.assumed_true;
        },
      );
  sound = λ assignment makes.
      let parts = all_split (λ l. IsTrue (literal_true assignment l)) assumed further makes.assumed_true in
      let value = value_by names assignment in
      let given = question_gives_explanations net log n bound names clauses assumed assignment valid.order network valid valid.complete valid.kept asks
      (record { clauses_true = first_true whole clauses rider assignment both makes.clauses_true; assumed_true = parts.0 }) in
      let said = rides.sound assignment (record { clauses_true = second_true whole clauses rider assignment both makes.clauses_true; assumed_true = parts.1 }) in
      let gives = given.explanation.gives in (
        joined (decoded net log value valid.order n),
        decoded_order net log value valid.order n,
        ((gives.explains, given.within), (of_words value (decoded net log value valid.order n) (decoded_order net log value valid.order n) gives.steps gives.false_alarms).0 said),
      );
  satisfiable =
      let made = question_has_truth net log n network in
      let rest = rides.free made.0 in (
        assignment_by names made.0 rest.0,
        whole_true whole clauses rider (assignment_by names made.0 rest.0) both
            (clauses_true net log n bound names clauses assumed asks (assignment_by names made.0 rest.0) made.0 (assignments_match names made.0 rest.0) made.1) rest.1,
      );
  consistent = apart;
}
