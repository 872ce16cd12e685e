-- What the refutation of a question decides.
use Rattle.std.proofs.Common.{◌≡◌, ℕ, suc, ◌<◌, ◌≤◌, ◌⊎◌, inl, inr, Bool, true, List, [], ◌∷◌, None, Some, subst, arith, IsTrue}
use Rattle.std.proofs.lemmas.Bool.{cases_lt}
use Rattle.des_base.proofs.BoolLemmas.{either}
use Rattle.des_net.specs.Network.{Net}
use Rattle.question_clauses.proofs.Lists.{all_at}
use Rattle.log_order.specs.Log.{Log}
use Rattle.prop_core.proofs.Premises.{opposite}
use Rattle.prop_core.specs.Clauses.{Clause, literal_true, clause_true, negation, AllLiteralsTrue, NegatesOnly}
use Rattle.prop_core.specs.declared.lit.Lit.{Lit}
use Rattle.replay.specs.Explanation.{NeedsFaults, faults_of}
use Rattle.run_decode.proofs.Questions.{question_is_faithful}
use Rattle.run_decode.specs.Decided.{AreUnsatisfiable, Entails, FaithfulDecides, RefutedIsDecided, NoneIsLeast, QuestionIsDecided}
use Rattle.run_decode.specs.Faithful.{IsFaithful}

above : (net : Net) (log : Log) (n b : ℕ) (clauses : List Clause) (assumed : List Lit) → IsFaithful clauses assumed net log n (Some b) → AreUnsatisfiable clauses assumed → NeedsFaults net log n (suc b)
above net log n b clauses assumed faithful refuted word order explains = by (cases_lt b (faults_of net word order))
  where
    by : (b < faults_of net word order) ⊎ (faults_of net word order ≤ b) → suc b ≤ faults_of net word order
    by (inl more) = omega (arith, more)
    by (inr few) = absurd (let found = faithful.complete word order explains few in refuted found.0 found.1)

pub faithful_decides : FaithfulDecides
faithful_decides net log n None clauses assumed faithful refuted = λ word order explains. let found = faithful.complete word order explains tt in refuted found.0 found.1
faithful_decides net log n (Some b) clauses assumed faithful refuted =
    let needs = above net log n b clauses assumed faithful refuted in record {
      above = needs;
      least = λ explained. record { reached = explained; least = needs };
      many = λ is faults explained. record { faults = faults; explained = explained; above = subst (λ c. NeedsFaults net log n (suc c)) is needs };
    }

pub none_is_least : NoneIsLeast
none_is_least net log n explained = record { reached = explained; least = λ word order explains. omega arith }

-- ---- by a clause of negated assumptions

-- where the assumptions are true, a clause of their negations is not
not_true : (assignment : ℕ → Bool) (assumed : List Lit) → AllLiteralsTrue assignment assumed → (clause : Clause) → NegatesOnly assumed clause → clause_true assignment clause ≡ true → ⊥
not_true assignment assumed all [] negates h = cc
not_true assignment assumed all (l ∷ clause) negates h = by (either (literal_true assignment l) (clause_true assignment clause) h) (not_true assignment assumed all clause negates.1)
  where
    by : (literal_true assignment l ≡ true) ⊎ (clause_true assignment clause ≡ true) → (clause_true assignment clause ≡ true → ⊥) → ⊥
    by (inl here) later = opposite (assignment l.var) l.positive (all_at (λ m. IsTrue (literal_true assignment m)) assumed all (negation l) negates.0) here
    by (inr rest) later = later rest

pub refuted_by : (clauses : List Clause) (assumed : List Lit) (clause : Clause) → Entails clauses clause → NegatesOnly assumed clause → AreUnsatisfiable clauses assumed
refuted_by clauses assumed clause entails negates assignment makes = not_true assignment assumed makes.assumed_true clause negates (entails assignment makes.clauses_true)

pub refuted_is_decided : RefutedIsDecided
refuted_is_decided net log n bound clauses assumed clause faithful entails negates = faithful_decides net log n bound clauses assumed faithful (refuted_by clauses assumed clause entails negates)

pub question_is_decided : QuestionIsDecided
question_is_decided net log n bound names clauses assumed clause network valid asks entails negates =
    refuted_is_decided net log n bound clauses assumed clause (question_is_faithful net log n bound names clauses assumed network valid asks) entails negates
