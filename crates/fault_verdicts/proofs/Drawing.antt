-- A question with what was made for verdicts beside it is drawn from its families, and asks which explanations have an event.
use Rattle.std.proofs.Common.{◌≡◌, ◌≢◌, ◌∙◌, ◌⊎◌, inl, inr, ℕ, suc, ◌<◌, true, List, [], ◌∷◌, ◌++◌, map, length, None, Some, refl, sym, ap, subst, Contains}
use Rattle.std.proofs.lemmas.List.Elements.{Contains-append_left as append_left, Contains-append_right as append_right}
use Rattle.std.proofs.lemmas.Option.{none-some}
use Rattle.card_counter.specs.CounterState.{positive}
use Rattle.des_base.proofs.Elements.{all_from, here_first, map_from, map_has}
use Rattle.des_base.specs.Lists.{EachPair, numbers_below}
use Rattle.des_net.specs.Network.{Net, is_fault}
use Rattle.fault_verdicts.proofs.Telling.{with_told, without_told}
use Rattle.fault_verdicts.specs.Asked.{Question, without, with_event, VerdictMeaning, of_question, occurs, in_question, some_step, no_step, IsVerdictClause, assumed_of, verdict_literals, some_step_clause, some_step_clauses, no_step_literals}
use Rattle.fault_verdicts.specs.Telling.{AsksBeside, EventsArePosed}
use Rattle.question_clauses.proofs.LogCodes.{has_name, named_entry}
use Rattle.question_clauses.proofs.Lists.{all_at, from_numbers}
use Rattle.log_order.specs.Log.{Log}
use Rattle.prop_core.specs.Clauses.{Clause, negation}
use Rattle.prop_core.specs.Grids.{grid_variable}
use Rattle.prop_core.specs.VariableNames.{Meaning, happens, NamedLiteral, ReadsAs, meaning_of}
use Rattle.prop_core.specs.declared.grid.Grid.{Grid}
use Rattle.prop_core.specs.declared.lit.Lit.{Lit}
use Rattle.run_decode.proofs.FurtherNames.{lifted_reads, once_further}
use Rattle.run_decode.proofs.Questions.{instances_of}
use Rattle.run_decode.specs.Drawn.{assumption_literals}
use Rattle.prop_core.specs.FurtherNames.{LiteralOf, holds, fails, lifted_meanings, AreOnce, IsCalled, ReadsBy, AreDrawnBy}
use Rattle.run_decode.specs.Question.{IsNamedQuestion}
use Rattle.step_encode.specs.FaultInputs.{event_literal, event_literals}
use Rattle.prop_core.proofs.FurtherNames.{reads_both}

-- the meanings of variables that were made for events
abbrev pub made_meanings : List (ℕ × ℕ) → List (ℕ × VerdictMeaning)
made_meanings made = map (λ entry. (entry.0, occurs entry.1 entry.0)) made

-- those of a question, and of variables that were made beside it
abbrev pub verdict_meanings : List (ℕ × Meaning) → List (ℕ × ℕ) → List (ℕ × VerdictMeaning)
verdict_meanings names made = lifted_meanings of_question names ++ made_meanings made

-- ---- lists that read as others

reads_one : {X : Type 0} (names : List (ℕ × X)) (l : Lit) (m : LiteralOf X) → IsCalled names l m → ReadsBy names (l ∷ []) (m ∷ [])
reads_one names l m is = record { only = ((m, here_first m [] m refl, is), tt); all = ((l, here_first l [] l refl, is), tt) }

-- one by one over the numbers below a bound
reads_map : {X : Type 0} (names : List (ℕ × X)) (f : ℕ → Lit) (g : ℕ → LiteralOf X) (n : ℕ) → ((t : ℕ) → t < n → IsCalled names (f t) (g t)) → ReadsBy names (map f (numbers_below n)) (map g (numbers_below n))
reads_map {X} names f g n each = record {
  only = all_from (λ l. (m : LiteralOf X) × Contains (map g (numbers_below n)) m × IsCalled names l m) (map f (numbers_below n)) (λ l in'.
      let of' = map_from f (numbers_below n) l in' in
      (g of'.0, map_has g (numbers_below n) of'.0 of'.1, subst (λ x. IsCalled names x (g of'.0)) of'.2 (each of'.0 (from_numbers n of'.0 of'.1))));
  all = all_from (λ m. (l : Lit) × Contains (map f (numbers_below n)) l × IsCalled names l m) (map g (numbers_below n)) (λ m in'.
      let of' = map_from g (numbers_below n) m in' in
      (f of'.0, map_has f (numbers_below n) of'.0 of'.1, subst (IsCalled names (f of'.0)) of'.2 (each of'.0 (from_numbers n of'.0 of'.1))));
}

pub map_map : {A B C : Type 0} (f : A → B) (g : B → C) (xs : List A) → map g (map f xs) ≡ map (λ x. g (f x)) xs
map_map f g [] = refl
map_map f g (x ∷ xs) = ap (λ rest. g (f x) ∷ rest) (map_map f g xs)

-- ---- the names

-- which name it is, where it is one of a question
verdict_question_name : VerdictMeaning → Meaning → Meaning
verdict_question_name (of_question meaning) other = meaning
verdict_question_name (occurs e literal) other = other

in_question_once : (a b : Meaning) → of_question a ≡ of_question b → a ≡ b
unfolding verdict_question_name
in_question_once a b same = ap (λ meaning. verdict_question_name meaning a) same

made_once : (made : List (ℕ × ℕ)) → EachPair (λ a b. a.0 ≢ b.0) made → AreOnce (made_meanings made)
made_once [] once = tt
made_once (entry ∷ made) once = (
  all_from (λ b. (entry.0 ≢ b.0) × (occurs entry.1 entry.0 ≢ b.1)) (made_meanings made) (λ b in'.
      let of' = map_from (λ (e : ℕ × ℕ). (e.0, occurs e.1 e.0)) made b in' in
      let apart = all_at (λ (e : ℕ × ℕ). entry.0 ≢ e.0) made once.0 of'.0 of'.1 in
      subst (λ (x : ℕ × VerdictMeaning). (entry.0 ≢ x.0) × (occurs entry.1 entry.0 ≢ x.1)) of'.2 (apart, λ same. apart (ap literal_of same))),
  made_once made once.1,
)
  where
    literal_of : VerdictMeaning → ℕ
    literal_of (of_question meaning) = 0
    literal_of (occurs e literal) = literal

module _ (net : Net) (log : Log) (n k : ℕ) (names : List (ℕ × Meaning)) (grid : Grid) (made : List (ℕ × ℕ)) (whole : List Clause) (assumed : List Lit) (beside : AsksBeside net log n k names grid made whole assumed) where
  once : AreOnce (verdict_meanings names made)
  once = once_further of_question in_question_once names (made_meanings made) beside.asks.question.once (made_once made beside.made_new.once) (λ a b in' there.
      let of' = map_from (λ (e : ℕ × ℕ). (e.0, occurs e.1 e.0)) made b there in
      let none = all_at (λ (e : ℕ × ℕ). meaning_of names e.0 ≡ None) made beside.made_new.new of'.0 of'.1 in
      let has = has_name names a beside.asks.question.once in' in
      subst (λ (x : ℕ × VerdictMeaning). (a.0 ≢ x.0) × (of_question a.1 ≢ x.1)) of'.2
      (λ same. none-some a.1 (sym none ∙ ap (meaning_of names) (sym same) ∙ has), λ same. absurd (other_kind same)))
    where
      other_kind : {meaning : Meaning} {e literal : ℕ} → of_question meaning ≡ occurs e literal → ⊥
      other_kind same = cc

  of_event : (e t : ℕ) → e < length net.events → t < n → Contains (verdict_meanings names made) (grid_variable grid e (suc t), of_question (happens e (suc t)))
  of_event e t known less =
      append_left (lifted_meanings of_question names) (made_meanings made) (grid_variable grid e (suc t), of_question (happens e (suc t)))
      (map_has (λ (entry : ℕ × Meaning). (entry.0, of_question entry.1)) names (grid_variable grid e (suc t), happens e (suc t)) (named_entry names (grid_variable grid e (suc t)) (happens e (suc t)) (beside.gridded.1 e t known less)))

  of_made : (entry : ℕ × ℕ) → Contains made entry → Contains (verdict_meanings names made) (entry.0, occurs entry.1 entry.0)
  of_made entry in' = append_right (lifted_meanings of_question names) (made_meanings made) (entry.0, occurs entry.1 entry.0) (map_has (λ (e : ℕ × ℕ). (e.0, occurs e.1 e.0)) made entry in')

  in_question_reads : (clause : Clause) (named : List NamedLiteral) → ReadsAs names clause named → ReadsBy (verdict_meanings names made) clause (map in_question named)
  in_question_reads clause named reads = lifted_reads of_question names (made_meanings made) clause named reads

  steps_are : grid.steps ≡ n
  steps_are = beside.gridded.0

  some_reads : (entry : ℕ × ℕ) → Contains made entry → ReadsBy (verdict_meanings names made) (some_step_clause grid entry) (some_step n entry.1 entry.0)
  some_reads entry in' =
      let known = all_at (λ (e : ℕ × ℕ). e.1 < length net.events) made beside.made_new.events entry in' in
      reads_both (verdict_meanings names made) (negation (positive entry.0) ∷ []) (event_literals grid entry.1) (fails (occurs entry.1 entry.0) ∷ []) (map (λ t. holds (of_question (happens entry.1 (suc t)))) (numbers_below n))
      (reads_one (verdict_meanings names made) (negation (positive entry.0)) (fails (occurs entry.1 entry.0)) (record { named = of_made entry in'; sign = refl }))
      (subst (λ m. ReadsBy (verdict_meanings names made) (map (event_literal grid entry.1) (numbers_below m)) (map (λ t. holds (of_question (happens entry.1 (suc t)))) (numbers_below n))) (sym steps_are)
      (reads_map (verdict_meanings names made) (event_literal grid entry.1) (λ t. holds (of_question (happens entry.1 (suc t)))) n (λ t less. record { named = of_event entry.1 t known less; sign = refl })))

  none_reads : (e : ℕ) → e < length net.events → ReadsBy (verdict_meanings names made) (no_step_literals grid e) (no_step n e)
  none_reads e known =
      subst (λ ls. ReadsBy (verdict_meanings names made) ls (no_step n e)) (sym (map_map (event_literal grid e) negation (numbers_below grid.steps)))
      (subst (λ m. ReadsBy (verdict_meanings names made) (map (λ t. negation (event_literal grid e t)) (numbers_below m)) (no_step n e)) (sym steps_are)
      (reads_map (verdict_meanings names made) (λ t. negation (event_literal grid e t)) (λ t. fails (of_question (happens e (suc t)))) n (λ t less. record { named = of_event e t known less; sign = refl })))

  drawn_with_event : (e : ℕ) (question : Question) (further : List Lit) → ReadsBy (verdict_meanings names made) further (assumed_of n e question) → AreDrawnBy (verdict_meanings names made) whole (assumed ++ further) (IsVerdictClause net log n) (verdict_literals net log n k e question)
  drawn_with_event e question further reads = record {
    once = once;
    instances = all_from (λ clause. (named : List (LiteralOf VerdictMeaning)) × IsVerdictClause net log n named × ReadsBy (verdict_meanings names made) clause named) whole (λ clause in'. by clause ((beside.both clause).0 in'));
    assumes = reads_both (verdict_meanings names made) assumed further (map in_question (assumption_literals net log n (Some k))) (assumed_of n e question) (in_question_reads assumed (assumption_literals net log n (Some k)) beside.asks.assumes) reads;
  }
    where
      by : (clause : Clause) → Contains beside.clauses clause ⊎ Contains (some_step_clauses grid made) clause → (named : List (LiteralOf VerdictMeaning)) × IsVerdictClause net log n named × ReadsBy (verdict_meanings names made) clause named
      by clause (inl here) =
          let found = all_at (λ c. (named : List NamedLiteral) × IsNamedQuestion net log n beside.asks.columns named × ReadsAs names c named) beside.clauses beside.asks.question.code.only clause here in
          (map in_question found.0, inl (found.0, instances_of net log n beside.asks.columns found.0 found.1, refl), in_question_reads clause found.0 found.2)
      by clause (inr there) =
          let of' = map_from (some_step_clause grid) made clause there in
          let fault = all_at (λ (x : ℕ × ℕ). is_fault net x.1 ≡ true) made beside.made_new.faults of'.0 of'.1 in
          (some_step n of'.0.1 of'.0.0, inr (of'.0.1, of'.0.0, fault, refl), subst (λ c. ReadsBy (verdict_meanings names made) c (some_step n of'.0.1 of'.0.0)) of'.2 (some_reads of'.0 of'.1))

pub events_are_posed : EventsArePosed
events_are_posed net log n k names grid made whole assumed network valid beside = record {
  without_event = λ e known. record {
    tells = without_told net log n k names grid made whole assumed network valid beside e known;
    meanings = verdict_meanings names made;
    drawn = drawn_with_event net log n k names grid made whole assumed beside e without (no_step_literals grid e) (none_reads net log n k names grid made whole assumed beside e known);
  };
  with_event = λ var e in'. record {
    tells = with_told net log n k names grid made whole assumed network valid beside var e in';
    meanings = verdict_meanings names made;
    drawn = drawn_with_event net log n k names grid made whole assumed beside e (with_event var) (positive var ∷ [])
        (reads_one (verdict_meanings names made) (positive var) (holds (occurs e var)) (record { named = of_made net log n k names grid made whole assumed beside (var, e) in'; sign = refl }));
  };
}
