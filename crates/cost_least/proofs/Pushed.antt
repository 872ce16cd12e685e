-- Fault events put into the inputs of a scale, one number further.
use Rattle.std.proofs.Common.{◌≡◌, ◌≢◌, ◌∙◌, ◌⊎◌, inl, inr, ℕ, ◌+◌, ◌<◌, ◌==◌, Bool, true, false, cond, List, [], ◌∷◌, ◌++◌, length, map, filter, flat_map, refl, sym, ap, subst, arith, append_assoc, append-nil}
use Rattle.std.specs.List.{AllByRecursion}
use Rattle.std.proofs.lemmas.Bool.{cases_eq}
use Rattle.std.proofs.lemmas.Bool.Decides.{eqb_tells}
use Rattle.std.proofs.lemmas.Grind.{flat_map-append}
use Rattle.des_base.proofs.Elements.{all_from, filter_from}
use Rattle.des_base.proofs.NumbersBelow.{filter_numbers_yes, filter_numbers_no}
use Rattle.des_base.specs.Lists.{numbers_below}
use Rattle.des_net.specs.Network.{Net, is_fault}
use Rattle.prop_core.specs.declared.grid.Grid.{Grid}
use Rattle.question_clauses.proofs.Lists.{from_numbers}
use Rattle.weight_counter.specs.declared.weighted.Weighted.{Weighted}
use Rattle.step_encode.specs.Coded.{CodedSteps, code_grid}
use Rattle.log_encode.specs.CodedLog.{CodedLog}
use Rattle.prop_core.specs.declared.lit.Lit.{Lit}
use Rattle.run_decode.specs.RunNaming.{AreFalseLiterals}
use Rattle.cost_least.specs.Weighed.{HasPushed, HasInputs, event_weights, fault_weights, weighs_one}

flat_alike : (f g : ℕ → List Weighted) (xs : List ℕ) → AllByRecursion (λ x. f x ≡ g x) xs → flat_map f xs ≡ flat_map g xs
flat_alike f g [] all = refl
flat_alike f g (x ∷ xs) all = ap (λ ys. ys ++ flat_map f xs) all.0 ∙ ap (λ ys. g x ++ ys) (flat_alike f g xs all.1)

-- the costs with that of one more event
abbrev with_cost : (ℕ → ℕ) → ℕ → ℕ → ℕ → ℕ
with_cost cost n answer e = cond (e == n) answer (cost e)

here : (cost : ℕ → ℕ) (n answer : ℕ) → with_cost cost n answer n ≡ answer
here cost n answer = by (n == n) (eqb_tells n n)
  where
    by : (b : Bool) → ((b ≡ true) × (n ≡ n)) ⊎ ((b ≡ false) × (n ≡ n → ⊥)) → cond b answer (cost n) ≡ answer
    by true told = refl
    by false (inl (t, e)) = cc
    by false (inr (f, e)) = absurd (e refl)

elsewhere : (cost : ℕ → ℕ) (n answer e : ℕ) → e ≢ n → with_cost cost n answer e ≡ cost e
elsewhere cost n answer e apart = by (e == n) (eqb_tells e n)
  where
    by : (b : Bool) → ((b ≡ true) × (e ≡ n)) ⊎ ((b ≡ false) × (e ≡ n → ⊥)) → cond b answer (cost e) ≡ cost e
    by true (inl (t, is)) = absurd (apart is)
    by true (inr (f, is)) = cc
    by false told = refl

yes_no : (b : Bool) → b ≡ true → b ≡ false → ⊥
yes_no true h k = cc
yes_no false h k = cc

-- the inputs of each event
abbrev each : Grid → (ℕ → ℕ) → ℕ → List Weighted
each grid cost e = event_weights grid (cost e) e

-- the fault events below a number
abbrev faults_below : Net → ℕ → List ℕ
faults_below net n = filter (is_fault net) (numbers_below n)

module _ {C : Type 0} (answers : C → ℕ → ℕ → Type 0) (stored : C) (net : Net) (grid : Grid) where
  pub pushed_none : (old : List Weighted) → HasPushed answers stored net grid 0 old old
  pushed_none old = record { cost = λ e. 1; answered = λ e less fault. absurd (omega (arith, less)); others = λ e none. refl; whole = sym (append-nil old) }

  pub pushed_other : (n : ℕ) (old new : List Weighted) → HasPushed answers stored net grid n old new → is_fault net n ≡ false → HasPushed answers stored net grid (n + 1) old new
  pushed_other n old new pushed none = record {
    cost = pushed.cost;
    answered = λ e less fault. by e less fault (cases_eq e n);
    others = pushed.others;
    whole = pushed.whole ∙ ap (λ xs. old ++ flat_map (λ e. event_weights grid (pushed.cost e) e) xs) (sym (filter_numbers_no (is_fault net) n none));
  }
    where
      by : (e : ℕ) → e < n + 1 → is_fault net e ≡ true → (e ≡ n) ⊎ (e ≢ n) → answers stored e (pushed.cost e)
      by e less fault (inl same) = absurd (yes_no (is_fault net n) (subst (λ k. is_fault net k ≡ true) same fault) none)
      by e less fault (inr apart) = pushed.answered e (omega (arith, less, apart)) fault

  pub pushed_fault : (n answer : ℕ) (old mid new : List Weighted) → HasPushed answers stored net grid n old mid → is_fault net n ≡ true → answers stored n answer → new ≡ mid ++ event_weights grid answer n → HasPushed answers stored net grid (n + 1) old new
  pushed_fault n answer old mid new pushed fault answered adds = record {
    cost = with_cost pushed.cost n answer;
    answered = λ e less is. by e less is (cases_eq e n);
    others = λ e none. elsewhere pushed.cost n answer e (λ is. yes_no (is_fault net n) fault (subst (λ k. is_fault net k ≡ false) is none)) ∙ pushed.others e none;
    whole =
        adds ∙ ap (λ xs. xs ++ event_weights grid answer n) pushed.whole
        ∙ append_assoc old (flat_map (each grid pushed.cost) (faults_below net n)) (event_weights grid answer n)
        ∙ ap (λ xs. old ++ xs) (
        ap (λ xs. xs ++ event_weights grid answer n) (flat_alike (each grid pushed.cost) (each grid (with_cost pushed.cost n answer)) (faults_below net n) same)
        ∙ ap (λ c. flat_map (each grid (with_cost pushed.cost n answer)) (faults_below net n) ++ event_weights grid c n) (sym (here pushed.cost n answer))
        ∙ ap (λ xs. flat_map (each grid (with_cost pushed.cost n answer)) (faults_below net n) ++ xs) (sym (append-nil (each grid (with_cost pushed.cost n answer) n)))
        ∙ sym (flat_map-append (each grid (with_cost pushed.cost n answer)) (faults_below net n) (n ∷ []))
        ∙ ap (flat_map (each grid (with_cost pushed.cost n answer))) (sym (filter_numbers_yes (is_fault net) n fault)));
  }
    where
      same : AllByRecursion (λ e. each grid pushed.cost e ≡ each grid (with_cost pushed.cost n answer) e) (faults_below net n)
      same = all_from (λ e. each grid pushed.cost e ≡ each grid (with_cost pushed.cost n answer) e) (filter (is_fault net) (numbers_below n)) (λ e in'.
          let less = from_numbers n e (filter_from (is_fault net) (numbers_below n) e in').1 in
          ap (λ c. event_weights grid c e) (sym (elsewhere pushed.cost n answer e (λ is. omega (arith, less, is)))))

      by : (e : ℕ) → e < n + 1 → is_fault net e ≡ true → (e ≡ n) ⊎ (e ≢ n) → answers stored e (with_cost pushed.cost n answer e)
      by e less is (inl at) = subst (λ k. answers stored k (with_cost pushed.cost n answer k)) (sym at) (subst (answers stored n) (sym (here pushed.cost n answer)) answered)
      by e less is (inr apart) = subst (answers stored e) (sym (elsewhere pushed.cost n answer e apart)) (pushed.answered e (omega (arith, less, apart)) is)

-- the inputs with those of false alarms behind them
pub inputs_pushed : {C : Type 0} (answers : C → ℕ → ℕ → Type 0) (stored : C) (net : Net) (steps : CodedSteps) (code : CodedLog) (grid : Grid) (start mid new : List Weighted) (false_lits : List Lit) → steps.net ≡ net → grid ≡ code_grid steps → start ≡ [] →
    HasPushed answers stored net grid (length net.events) start mid → AreFalseLiterals code false_lits → new ≡ mid ++ map weighs_one false_lits → HasInputs answers stored net steps code new
inputs_pushed answers stored net steps code grid start mid new false_lits same on_grid none pushed read adds = record {
  cost = pushed.cost;
  answered = pushed.answered;
  others = pushed.others;
  weighted = record {
    false_lits = false_lits;
    whole = adds ∙ ap (λ xs. xs ++ map weighs_one false_lits) (pushed.whole ∙ ap (λ (xs : List Weighted). xs ++ fault_weights net grid pushed.cost) none ∙ ap (λ (gr : Grid). fault_weights net gr pushed.cost) on_grid ∙ ap (λ m. fault_weights m (code_grid steps) pushed.cost) (sym same));
    read = read;
  };
}
