-- What each answer of the solver says of an event, where a best run is known.
use Rattle.std.proofs.Common.{◌≡◌, ◌↔◌, ◌∙◌, ◌⊎◌, inl, inr, ℕ, suc, ◌<◌, ◌≤◌, ◌==◌, Bool, true, false, List, [], ◌∷◌, refl, sym, ap, subst, arith, Contains, IsTrue}
use Rattle.std.proofs.lemmas.Bool.{eqb-true, eq-eqb}
use Rattle.std.specs.Bool.{beq}
use Rattle.card_counter.specs.CounterState.{positive}
use Rattle.des_base.proofs.Elements.{cons_cases, here_first, here_later, map_from, map_has, none_in_nil, any_has}
use Rattle.des_base.proofs.BoolLemmas.{clash, beq_true}
use Rattle.des_base.specs.Lists.{numbers_below}
use Rattle.des_net.specs.Network.{Net}
use Rattle.fault_verdicts.proofs.Asking.{HasPosed, IsFor}
use Rattle.fault_verdicts.proofs.Telling.{event_of_true}
use Rattle.fault_verdicts.specs.Asked.{Question, without, with_event, IsPosedOf, asked_for, no_step_literals, some_step_clause, some_step_clauses}
use Rattle.fault_verdicts.specs.Judged.{IsBestRun, IsVerdict, IsPossibleFound, IsAskedBeside}
use Rattle.fault_verdicts.specs.Judging.{IsAbout, verdict_of}
use Rattle.fault_verdicts.specs.Verdicts.{IsBest}
use Rattle.answers.specs.declared.verdict.Verdict.TheVariants.{Possible, Open}
use Rattle.sat_solve.specs.Leaving.{HasFinal}
use Rattle.question_clauses.proofs.Lists.{all_at, from_numbers, in_numbers}
use Rattle.log_order.specs.Log.{Log}
use Rattle.proof_ledger.specs.Book.{BookEntry}
use Rattle.proof_ledger.specs.Fresh.{AreFresh}
use Rattle.prop_core.specs.Clauses.{Clause, clause_true, literal_true, negation, AllClausesTrue, AllLiteralsTrue}
use Rattle.prop_core.specs.Grids.{grid_variable}
use Rattle.prop_core.specs.Trail.{Clashes}
use Rattle.prop_core.specs.declared.grid.Grid.{Grid}
use Rattle.prop_core.specs.declared.lit.Lit.{Lit}
use Rattle.replay.proofs.AnswerLemmas.{least_is_one}
use Rattle.replay.specs.Explanation.{Entry, Explains, faults_of}
use Rattle.replay.specs.Matching.{IsWellMatched, order_of}
use Rattle.replay.specs.Traced.{word_of}
use Rattle.replay.specs.declared.run.RunStep.{RunStep}
use Rattle.run_decode.proofs.Tells.{told_is_refuted}
use Rattle.run_decode.specs.Decided.{Entails}
use Rattle.step_encode.specs.FaultInputs.{event_literal, event_literals}

-- ---- whether a word has an event

pub has_or_not : (word : List ℕ) (e : ℕ) → Contains word e ⊎ (Contains word e → ⊥)
has_or_not [] e = inr (λ in'. none_in_nil e in')
has_or_not (x ∷ word) e = by (x == e) refl (has_or_not word e)
  where
    by : (b : Bool) → (x == e) ≡ b → Contains word e ⊎ (Contains word e → ⊥) → Contains (x ∷ word) e ⊎ (Contains (x ∷ word) e → ⊥)
    by true is later = inl (here_first x word e (eqb-true x e is))
    by false is (inl in') = inl (here_later x word e in')
    by false is (inr out) = inr (λ in'. either (cons_cases x word e in'))
      where
        either : (x ≡ e) ⊎ Contains word e → ⊥
        either (inl same) = clash (x == e) (eq-eqb x e same) is
        either (inr in') = out in'

-- ---- a refutation

-- a best explanation is within the number of faults that is least
within_least : (net : Net) (log : Log) (n k : ℕ) (first : List RunStep) → IsBestRun net log n k first → (j : ℕ) (word : List ℕ) (order : List Entry) → IsBest net log n j word order → faults_of net word order ≤ k
within_least net log n k first best j word order is =
    let faults = is.faults in
    let same = least_is_one net log n j k is.least best.best.least in
    omega (arith, faults, same)

pub refuted_found : (axioms clauses : List Clause) (earlier since : List BookEntry) (net : Net) (log : Log) (n k e budget : ℕ) (first : List RunStep) (there : Bool) (assumed : List Lit) → IsBestRun net log n k first →
    (final_entry : HasFinal since assumed) → Entails axioms final_entry.clause → (has : HasPosed axioms assumed net log n k e there) → IsVerdict axioms clauses earlier since net log n k e budget first (verdict_of there)
refuted_found axioms clauses earlier since net log n k e budget first true assumed best final_entry entails has =
    let posed = subst (IsPosedOf axioms assumed net log n k e) has.is_for has.posed in record {
      certain = λ j word order is. by word order is (within_least net log n k first best j word order is) posed (has_or_not word e);
      refuted = record { assumed = assumed; posed = posed; final_entry = final_entry };
    }
  where
    by : {j : ℕ} (word : List ℕ) (order : List Entry) → IsBest net log n j word order → faults_of net word order ≤ k → IsPosedOf axioms assumed net log n k e without → Contains word e ⊎ (Contains word e → ⊥) → Contains word e
    by word order is few posed (inl in') = in'
    by word order is few posed (inr out) = absurd (told_is_refuted (asked_for net log n k e without) axioms assumed final_entry.clause posed.tells entails final_entry.negates word order ((is.explains, few), out))
refuted_found axioms clauses earlier since net log n k e budget first false assumed best final_entry entails has =
    let posed = subst (IsPosedOf axioms assumed net log n k e) has.is_for.1 has.posed in record {
      excluded = λ j word order is in'. told_is_refuted (asked_for net log n k e (with_event has.is_for.0)) axioms assumed final_entry.clause posed.tells entails final_entry.negates word order ((is.explains, within_least net log n k first best j word order is), in');
      literal = has.is_for.0;
      refuted = record { assumed = assumed; posed = posed; final_entry = final_entry };
    }

-- ---- which question it is

pub asked_beside : (first : List RunStep) (e : ℕ) (question : Question) (b : Bool) → b ≡ true ↔ Contains (word_of first) e → IsFor b question → IsAskedBeside first e question
asked_beside first e question true told is = subst (IsAskedBeside first e) (sym is) (told.0 refl)
asked_beside first e question false told is = subst (IsAskedBeside first e) (sym is.1) (λ in'. let no : false ≡ true = told.1 in' in cc)

-- ---- a spent budget

pub open_found : (axioms clauses : List Clause) (earlier since : List BookEntry) (net : Net) (log : Log) (n k e budget : ℕ) (first : List RunStep) (there : Bool) (assumed : List Lit) → there ≡ true ↔ Contains (word_of first) e → AreFresh earlier since budget →
    HasPosed axioms assumed net log n k e there → Clashes clauses assumed → IsVerdict axioms clauses earlier since net log n k e budget first Open
open_found axioms clauses earlier since net log n k e budget first there assumed tells fresh has clashes = record {
  fresh = fresh;
  question = has.question;
  asked = asked_beside first e has.question there tells has.is_for;
  assumed = assumed;
  posed = has.posed;
  clashes = clashes;
}

-- ---- a model

-- where the event is false in each step by assumption, no variable of it is true
no_step_true : (grid : Grid) (e : ℕ) (further : List Lit) (value : ℕ → Bool) → AllLiteralsTrue value further → further ≡ no_step_literals grid e → (t : ℕ) → t < grid.steps → value (grid_variable grid e (suc t)) ≡ true → ⊥
no_step_true grid e further value literals is t less on =
    let in' = map_has negation (event_literals grid e) (event_literal grid e t) (map_has (event_literal grid e) (numbers_below grid.steps) t (in_numbers grid.steps t less)) in
    let off = all_at (λ l. IsTrue (literal_true value l)) further literals (negation (event_literal grid e t)) (subst (λ ls. Contains ls (negation (event_literal grid e t))) (sym is) in') in
    by (value (grid_variable grid e (suc t))) off on
  where
    by : (b : Bool) → beq b false ≡ true → b ≡ true → ⊥
    by true h k = cc
    by false h k = cc

-- where the literal is true that was made for it, some variable of it is
some_shown : (grid : Grid) (made : List (ℕ × ℕ)) (e var : ℕ) (further : List Lit) (value : ℕ → Bool) → AllClausesTrue value (some_step_clauses grid made) → AllLiteralsTrue value further → Contains made (var, e) → further ≡ positive var ∷ [] →
    (t : ℕ) × (t < grid.steps) × (value (grid_variable grid e (suc t)) ≡ true)
some_shown grid made e var further value riders literals in' is =
    let on = all_at (λ l. IsTrue (literal_true value l)) further literals (positive var) (subst (λ ls. Contains ls (positive var)) (sym is) (here_first (positive var) [] (positive var) refl)) in
    let clause = all_at (λ c. IsTrue (clause_true value c)) (some_step_clauses grid made) riders (some_step_clause grid (var, e)) (map_has (some_step_clause grid) made (var, e) in') in
    let found = any_has (literal_true value) (event_literals grid e) (event_of_true value grid (var, e) clause (sym (beq_true (value var)) ∙ on)) in
    let step = map_from (event_literal grid e) (numbers_below grid.steps) found.0 found.1 in
    let there : literal_true value (event_literal grid e step.0) ≡ true = ap (literal_true value) step.2 ∙ found.2 in
    (step.0, from_numbers grid.steps step.0 step.1, sym (beq_true (value (grid_variable grid e (suc step.0)))) ∙ there)

pub possible_found : (axioms clauses : List Clause) (earlier since : List BookEntry) (net : Net) (log : Log) (n k e budget : ℕ) (first other : List RunStep) (there : Bool) (grid : Grid) (made : List (ℕ × ℕ)) (further : List Lit) (value : ℕ → Bool) → IsBestRun net log n k first →
    there ≡ true ↔ Contains (word_of first) e → IsAbout there made grid e further → AllClausesTrue value (some_step_clauses grid made) → AllLiteralsTrue value further → grid.steps ≡ n →
    Contains (word_of other) e ↔ ((t : ℕ) × (t < n) × (value (grid_variable grid e (suc t)) ≡ true)) → IsWellMatched net log other → Explains net log n (word_of other) (order_of log other) → faults_of net (word_of other) (order_of log other) ≤ k →
    IsVerdict axioms clauses earlier since net log n k e budget first (Possible other)
possible_found axioms clauses earlier since net log n k e budget first other there grid made further value best tells about riders literals time has matched explains few = by there tells about
  where
    is_best : IsBest net log n k (word_of other) (order_of log other)
    is_best = let least = best.best.least.least (word_of other) (order_of log other) explains in record { least = best.best.least; explains = explains; faults = omega (arith, least, few) }

    best_run : IsBestRun net log n k other
    best_run = record { matched = matched; best = is_best }

    by : (b : Bool) → b ≡ true ↔ Contains (word_of first) e → IsAbout b made grid e further → IsPossibleFound net log n k e first other
    by true told is =
        let out : Contains (word_of other) e → ⊥ = λ in'. let some = has.0 in' in no_step_true grid e further value literals is some.0 (subst (λ m. some.0 < m) (sym time) some.1) some.2 in record {
          possible = record {
            somewhere = record { k = k; word = word_of first; order = order_of log first; best = best.best; has = told.0 refl };
            not_everywhere = record { k = k; word = word_of other; order = order_of log other; best = is_best; without = out };
          };
          best = best_run;
          differs = (λ in'. absurd (out in'), λ not. absurd (not (told.0 refl)));
        }
    by false told is =
        let some = some_shown grid made e is.0 further value riders literals is.1 is.2 in
        let in' = has.1 (some.0, subst (λ m. some.0 < m) time some.1, some.2) in
        let out : Contains (word_of first) e → ⊥ = λ first_has. let no : false ≡ true = told.1 first_has in cc in record {
          possible = record {
            somewhere = record { k = k; word = word_of other; order = order_of log other; best = is_best; has = in' };
            not_everywhere = record { k = k; word = word_of first; order = order_of log first; best = best.best; without = out };
          };
          best = best_run;
          differs = (λ there'. out, λ not. in');
        }
