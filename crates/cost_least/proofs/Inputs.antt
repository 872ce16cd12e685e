-- The inputs of a scale are, by name, the faults of a question, each with its cost.
use Rattle.std.proofs.Common.{◌≡◌, ◌∙◌, ℕ, zero, suc, ◌<◌, true, List, [], ◌∷◌, ◌++◌, length, map, flat_map, Option, Some, None, refl, sym, ap, subst, arith, option_map, slice_get}
use Rattle.std.specs.List.{AllZip}
use Rattle.std.proofs.lemmas.List.{map-append, length-map}
use Rattle.des_base.specs.Lists.{numbers_below}
use Rattle.des_net.specs.Network.{Net}
use Rattle.question_clauses.proofs.LogCodes.{read_of}
use Rattle.question_clauses.specs.LogClauses.{doubtful_alarms}
use Rattle.log_encode.specs.CodedLog.{false_literals}
use Rattle.log_order.specs.Log.{Log}
use Rattle.prop_core.specs.VariableNames.{Meaning, happens, dropped, NamedLiteral, yes, meaning_of, named_literal, named_clause}
use Rattle.prop_core.specs.declared.grid.Grid.{Grid}
use Rattle.prop_core.specs.declared.lit.Lit.{Lit}
use Rattle.run_decode.specs.Drawn.{fault_inputs, dropped_meanings}
use Rattle.step_encode.specs.FaultInputs.{event_literal, event_literals, fault_literals, fault_events, fault_meanings}
use Rattle.weight_counter.specs.declared.weighted.Weighted.{Weighted}
use Rattle.cost_least.specs.Pricing.{named_weights, IsInput}
use Rattle.cost_least.specs.Weighed.{event_weights, fault_weights, weighs_one}

-- ---- read as names

record IsYes (names : List (ℕ × Meaning)) (l : Lit) (meaning : Meaning) : Type 0 where
  positive : l.positive ≡ true
  called : meaning_of names l.var ≡ Some meaning

read_yes : (names : List (ℕ × Meaning)) (l : Lit) (meaning : Meaning) → named_literal names l ≡ Some (yes meaning) → IsYes names l meaning
read_yes names l meaning h = by (meaning_of names l.var) refl h
  where
    by : (o : Option Meaning) → meaning_of names l.var ≡ o → option_map (λ (n : Meaning). let m : NamedLiteral = record { meaning = n; positive = l.positive } in m) o ≡ Some (yes meaning) → IsYes names l meaning
    by None e is = cc
    by (Some n) e is =
        let same : (let m : NamedLiteral = record { meaning = n; positive = l.positive } in m) ≡ yes meaning = some_is is in
        record { positive = ap (λ (m : NamedLiteral). m.positive) same; called = e ∙ ap (λ (m : NamedLiteral). Some m.meaning) same }
      where
        some_is : {a b : NamedLiteral} → Some a ≡ Some b → a ≡ b
        some_is q = cc

parts_same : (x y : NamedLiteral) (xs ys : List NamedLiteral) → x ∷ xs ≡ y ∷ ys → (x ≡ y) × (xs ≡ ys)
parts_same x y xs ys h = (cc, cc)

numbers_same : (x y : ℕ) (xs ys : List ℕ) → x ∷ xs ≡ y ∷ ys → (x ≡ y) × (xs ≡ ys)
numbers_same x y xs ys h = (cc, cc)

pub zip_inputs : (names : List (ℕ × Meaning)) (inputs : List Weighted) (named : List (Meaning × ℕ)) → named_clause names (map (λ (x : Weighted). x.input) inputs) ≡ Some (map (λ (m : Meaning × ℕ). yes m.0) named) →
    map (λ (x : Weighted). x.weight) inputs ≡ map (λ (m : Meaning × ℕ). m.1) named → AllZip (IsInput names) inputs named
zip_inputs names [] [] h weights = tt
zip_inputs names [] (m ∷ named) h weights = cc
zip_inputs names (x ∷ inputs) [] h weights = cc
zip_inputs names (x ∷ inputs) (m ∷ named) h weights =
    let parts = read_of names x.input (map (λ (y : Weighted). y.input) inputs) (yes m.0 ∷ map (λ (k : Meaning × ℕ). yes k.0) named) h in
    let same = parts_same (yes m.0) parts.first (map (λ (k : Meaning × ℕ). yes k.0) named) parts.rest parts.whole in
    let first = read_yes names x.input m.0 (parts.literal ∙ ap (λ (l : NamedLiteral). Some l) (sym same.0)) in
    let both = numbers_same x.weight m.1 (map (λ (y : Weighted). y.weight) inputs) (map (λ (k : Meaning × ℕ). k.1) named) weights in
    (record { positive = first.positive; called = first.called; weight = both.0 }, zip_inputs names inputs named (parts.later ∙ ap Some (sym same.1)) both.1)

pub same_length : (names : List (ℕ × Meaning)) (inputs : List Weighted) (named : List (Meaning × ℕ)) → AllZip (IsInput names) inputs named → length inputs ≡ length named
same_length names [] [] are = refl
same_length names [] (m ∷ named) are = absurd are
same_length names (x ∷ inputs) [] are = absurd are
same_length names (x ∷ inputs) (m ∷ named) are = ap suc (same_length names inputs named are.1)

-- the name of the input at a place, with what it weighs
pub record IsNamedAt (names : List (ℕ × Meaning)) (inputs : List Weighted) (all : List (Meaning × ℕ)) (i : ℕ) (x : Weighted) : Type 0 where
  pub named : Meaning × ℕ
  pub there : slice_get all i ≡ Some named
  pub is : IsInput names x named
  pub inside : i < length inputs

pub named_at : (names : List (ℕ × Meaning)) (inputs : List Weighted) (named : List (Meaning × ℕ)) (i : ℕ) (x : Weighted) → AllZip (IsInput names) inputs named → slice_get inputs i ≡ Some x → IsNamedAt names inputs named i x
named_at names [] named i x are at = cc
named_at names (y ∷ inputs) [] i x are at = absurd are
named_at names (y ∷ inputs) (m ∷ named) zero x are at = let same : y ≡ x = cc in record { named = m; there = refl; is = subst (λ z. IsInput names z m) same are.0; inside = omega arith }
named_at names (y ∷ inputs) (m ∷ named) (suc i) x are at =
    let rest = named_at names inputs named i x are.1 at in
    let inside = rest.inside in
    record { named = rest.named; there = rest.there; is = rest.is; inside = omega (arith, inside) }

pub read_length : (names : List (ℕ × Meaning)) (lits : List Lit) (read : List NamedLiteral) → named_clause names lits ≡ Some read → length lits ≡ length read
read_length names [] read h = by read h
  where
    by : (r : List NamedLiteral) → Some [] ≡ Some r → 0 ≡ length r
    by r q = let same : [] ≡ r = cc in ap length same
read_length names (l ∷ lits) read h =
    let parts = read_of names l lits read h in
    let rest = read_length names lits parts.rest parts.later in
    let whole = ap length parts.whole in
    omega (arith, rest, whole)

-- ---- literals, names and weights

event_inputs : (grid : Grid) (cost e : ℕ) (ts : List ℕ) → map (λ (x : Weighted). x.input) (map (λ t. record { input = event_literal grid e t; weight = cost }) ts) ≡ map (event_literal grid e) ts
event_inputs grid cost e [] = refl
event_inputs grid cost e (t ∷ ts) = ap (λ xs. event_literal grid e t ∷ xs) (event_inputs grid cost e ts)

pub fault_lits : (grid : Grid) (cost : ℕ → ℕ) (es : List ℕ) → map (λ (x : Weighted). x.input) (flat_map (λ e. event_weights grid (cost e) e) es) ≡ flat_map (event_literals grid) es
fault_lits grid cost [] = refl
fault_lits grid cost (e ∷ es) =
    map-append (λ (x : Weighted). x.input) (event_weights grid (cost e) e) (flat_map (λ f. event_weights grid (cost f) f) es)
    ∙ ap (λ xs. xs ++ map (λ (x : Weighted). x.input) (flat_map (λ f. event_weights grid (cost f) f) es)) (event_inputs grid (cost e) e (numbers_below grid.steps))
    ∙ ap (λ xs. event_literals grid e ++ xs) (fault_lits grid cost es)

pub false_same : (ls : List Lit) → map (λ (x : Weighted). x.input) (map weighs_one ls) ≡ ls
false_same [] = refl
false_same (l ∷ ls) = ap (λ xs. l ∷ xs) (false_same ls)

one_weight : (grid : Grid) (cost e : ℕ) (ts : List ℕ) → map (λ (x : Weighted). x.weight) (map (λ t. record { input = event_literal grid e t; weight = cost }) ts) ≡ map (λ (m : Meaning × ℕ). m.1) (map (λ t. (happens e (suc t), cost)) ts)
one_weight grid cost e [] = refl
one_weight grid cost e (t ∷ ts) = ap (λ xs. cost ∷ xs) (one_weight grid cost e ts)

fault_weights_are : (grid : Grid) (cost : ℕ → ℕ) (n : ℕ) → grid.steps ≡ n → (es : List ℕ) →
    map (λ (x : Weighted). x.weight) (flat_map (λ e. event_weights grid (cost e) e) es) ≡ map (λ (m : Meaning × ℕ). m.1) (flat_map (λ e. map (λ t. (happens e (suc t), cost e)) (numbers_below n)) es)
fault_weights_are grid cost n same [] = refl
fault_weights_are grid cost n same (e ∷ es) =
    map-append (λ (x : Weighted). x.weight) (event_weights grid (cost e) e) (flat_map (λ f. event_weights grid (cost f) f) es)
    ∙ ap (λ xs. xs ++ map (λ (x : Weighted). x.weight) (flat_map (λ f. event_weights grid (cost f) f) es)) (one_weight grid (cost e) e (numbers_below grid.steps) ∙ ap (λ k. map (λ (m : Meaning × ℕ). m.1) (map (λ t. (happens e (suc t), cost e)) (numbers_below k))) same)
    ∙ ap (λ xs. map (λ (m : Meaning × ℕ). m.1) (map (λ t. (happens e (suc t), cost e)) (numbers_below n)) ++ xs) (fault_weights_are grid cost n same es)
    ∙ sym (map-append (λ (m : Meaning × ℕ). m.1) (map (λ t. (happens e (suc t), cost e)) (numbers_below n)) (flat_map (λ f. map (λ t. (happens f (suc t), cost f)) (numbers_below n)) es))

false_weights_are : (ls : List Lit) (is : List ℕ) → length ls ≡ length is → map (λ (x : Weighted). x.weight) (map weighs_one ls) ≡ map (λ (m : Meaning × ℕ). m.1) (map (λ i. (dropped i, 1)) is)
false_weights_are [] [] h = refl
false_weights_are [] (i ∷ is) h = absurd (omega (arith, h))
false_weights_are (l ∷ ls) [] h = absurd (omega (arith, h))
false_weights_are (l ∷ ls) (i ∷ is) h = ap (λ xs. 1 ∷ xs) (false_weights_are ls is (omega (arith, h)))

one_name : (cost e : ℕ) (ts : List ℕ) → map (λ (m : Meaning × ℕ). yes m.0) (map (λ t. (happens e (suc t), cost)) ts) ≡ map yes (map (λ t. happens e (suc t)) ts)
one_name cost e [] = refl
one_name cost e (t ∷ ts) = ap (λ xs. yes (happens e (suc t)) ∷ xs) (one_name cost e ts)

event_names : (cost : ℕ → ℕ) (n : ℕ) (es : List ℕ) → map (λ (m : Meaning × ℕ). yes m.0) (flat_map (λ e. map (λ t. (happens e (suc t), cost e)) (numbers_below n)) es) ≡ map yes (flat_map (λ e. map (λ t. happens e (suc t)) (numbers_below n)) es)
event_names cost n [] = refl
event_names cost n (e ∷ es) =
    map-append (λ (m : Meaning × ℕ). yes m.0) (map (λ t. (happens e (suc t), cost e)) (numbers_below n)) (flat_map (λ f. map (λ t. (happens f (suc t), cost f)) (numbers_below n)) es)
    ∙ ap (λ xs. xs ++ map (λ (m : Meaning × ℕ). yes m.0) (flat_map (λ f. map (λ t. (happens f (suc t), cost f)) (numbers_below n)) es)) (one_name (cost e) e (numbers_below n))
    ∙ ap (λ xs. map yes (map (λ t. happens e (suc t)) (numbers_below n)) ++ xs) (event_names cost n es)
    ∙ sym (map-append yes (map (λ t. happens e (suc t)) (numbers_below n)) (flat_map (λ f. map (λ t. happens f (suc t)) (numbers_below n)) es))

alarm_names : (is : List ℕ) → map (λ (m : Meaning × ℕ). yes m.0) (map (λ i. (dropped i, 1)) is) ≡ map yes (map (λ i. dropped i) is)
alarm_names [] = refl
alarm_names (i ∷ is) = ap (λ xs. yes (dropped i) ∷ xs) (alarm_names is)

-- the names are those of the counter of faults
pub names_are : (net : Net) (cost : ℕ → ℕ) (log : Log) (n : ℕ) → map (λ (m : Meaning × ℕ). yes m.0) (named_weights net cost log n) ≡ fault_inputs net log n
names_are net cost log n =
    map-append (λ (m : Meaning × ℕ). yes m.0) (flat_map (λ e. map (λ t. (happens e (suc t), cost e)) (numbers_below n)) (fault_events net)) (map (λ i. (dropped i, 1)) (doubtful_alarms log))
    ∙ ap (λ xs. xs ++ map (λ (m : Meaning × ℕ). yes m.0) (map (λ i. (dropped i, 1)) (doubtful_alarms log))) (event_names cost n (fault_events net))
    ∙ ap (λ xs. map yes (fault_meanings net n) ++ xs) (alarm_names (doubtful_alarms log))
    ∙ sym (map-append yes (fault_meanings net n) (dropped_meanings log))

-- and the weights are the costs
pub weights_are : (net : Net) (cost : ℕ → ℕ) (log : Log) (n : ℕ) (grid : Grid) (false_lits : List Lit) → grid.steps ≡ n → length false_lits ≡ length (doubtful_alarms log) →
    map (λ (x : Weighted). x.weight) (fault_weights net grid cost ++ map weighs_one false_lits) ≡ map (λ (m : Meaning × ℕ). m.1) (named_weights net cost log n)
weights_are net cost log n grid false_lits steps count =
    map-append (λ (x : Weighted). x.weight) (fault_weights net grid cost) (map weighs_one false_lits)
    ∙ ap (λ xs. xs ++ map (λ (x : Weighted). x.weight) (map weighs_one false_lits)) (fault_weights_are grid cost n steps (fault_events net))
    ∙ ap (λ xs. map (λ (m : Meaning × ℕ). m.1) (flat_map (λ e. map (λ t. (happens e (suc t), cost e)) (numbers_below n)) (fault_events net)) ++ xs) (false_weights_are false_lits (doubtful_alarms log) count)
    ∙ sym (map-append (λ (m : Meaning × ℕ). m.1) (flat_map (λ e. map (λ t. (happens e (suc t), cost e)) (numbers_below n)) (fault_events net)) (map (λ i. (dropped i, 1)) (doubtful_alarms log)))

-- as many literals say that alarms are false as alarms are doubtful
pub false_count_is : (log : Log) (names : List (ℕ × Meaning)) (false_lits : List Lit) → named_clause names false_lits ≡ Some (false_literals log) → length false_lits ≡ length (doubtful_alarms log)
false_count_is log names false_lits read = omega (arith, read_length names false_lits (false_literals log) read, length-map (doubtful_alarms log) (λ i. yes (dropped i)))

-- the literals are the faults of the steps, and that alarms are false
pub literals_are : (net : Net) (cost : ℕ → ℕ) (grid : Grid) (false_lits : List Lit) → map (λ (x : Weighted). x.input) (fault_weights net grid cost ++ map weighs_one false_lits) ≡ fault_literals net grid ++ false_lits
literals_are net cost grid false_lits =
    map-append (λ (x : Weighted). x.input) (fault_weights net grid cost) (map weighs_one false_lits)
    ∙ ap (λ xs. xs ++ map (λ (x : Weighted). x.input) (map weighs_one false_lits)) (fault_lits grid cost (fault_events net))
    ∙ ap (λ xs. fault_literals net grid ++ xs) (false_same false_lits)
