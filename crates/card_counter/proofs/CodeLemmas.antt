-- The clauses of a counter, by the names of its variables.
use Rattle.std.proofs.Common.{◌≢◌, Contains, ◌≡◌, ℕ, zero, suc, ◌+◌, ◌<◌, ◌≤◌, ◌∙◌, ◌⊎◌, inl, inr, List, [], ◌∷◌, ◌++◌, flat_map, length, Option, None, Some, refl, sym, ap, subst, arith, slice_get, option_map, not}
use Rattle.std.specs.List.{range_with_len}
use Rattle.std.proofs.lemmas.Bool.{cases_order}
use Rattle.des_base.proofs.Elements.{all_at, pairs_append}
use Rattle.prop_core.proofs.NameLemmas.{found_more, literal_more}
use Rattle.prop_core.specs.declared.lit.Lit.{Lit}
use Rattle.prop_core.specs.Clauses.{Clause, negation}
use Rattle.prop_core.specs.NamedClauses.{IsCode}
use Rattle.prop_core.specs.VariableNames.{HasEachOnce, Meaning, NamedLiteral, yes, no, reaches, meaning_of, named_literal, with_literal, named_clause}
use Rattle.prop_core.proofs.FamilyLemmas.{Alone, Either, EachBelow, code_none, code_one, code_append, code_same, code_each_none, code_each_more, reads_whole}
use Rattle.prop_core.proofs.Listed.{read_parts}
use Rattle.std.proofs.lemmas.List.Elements.{Contains-append_right}
use Rattle.std.proofs.lemmas.Option.{same_Some}
use Rattle.card_counter.proofs.NameLemmas.{named_by_entry}
use Rattle.card_counter.proofs.ListLemmas.{map_of, map_contains, pairs_map, flat_next}
use Rattle.card_counter.proofs.States.{place_cases, variable_before, variable_last, before_front, at_end, one_more_column}
use Rattle.card_counter.specs.CounterClauses.{counts_on, counts_up, opposite, count_clause, IsNamedColumn, IsNamedCount}
use Rattle.card_counter.specs.CounterState.{next_meanings, CounterState, IsPlace, variable, column_at, column_before, positive, negative, reached_in, reached_before, under, place_clauses, input_at, column_clauses, counter_clauses, with_column}
use Rattle.card_counter.specs.Counting.{CounterMeaningsGrow, NamedColumnsGrow, IsNamedBy, CounterIsCode, ColumnIsCode}

-- a list for each number is a family for each
pub code_flat : (names : List (ℕ × Meaning)) (F : ℕ → List NamedLiteral → Type 0) (f : ℕ → List Clause) (n : ℕ) → ((i : ℕ) → i < n → IsCode names (F i) (f i)) → IsCode names (EachBelow n F) (flat_map f (range_with_len 0 n))
code_flat names F f zero each = code_each_none names F
code_flat names F f (suc n) each =
    let before = code_flat names F f n (λ i h. each i (omega arith)) in
    let here = each n (omega arith) in
    let more = code_each_more names F n (flat_map f (range_with_len 0 n)) (f n) before here in
    let next : n + 1 ≡ suc n = omega arith in
    subst (IsCode names (EachBelow (suc n) F)) (sym (flat_next f n)) (subst (λ k. IsCode names (EachBelow k F) (flat_map f (range_with_len 0 n) ++ f n)) next more)

-- ---- reading

-- an input, as it is read
pub record IsRead (names : List (ℕ × Meaning)) (input : Lit) (read : List NamedLiteral) (i : ℕ) : Type 0 where
  pub literal : NamedLiteral
  pub at : slice_get read i ≡ Some literal
  pub as_read : named_literal names input ≡ Some literal

pub read_at : (names : List (ℕ × Meaning)) (inputs : List Lit) (read : List NamedLiteral) → named_clause names inputs ≡ Some read → (i : ℕ) → i < length inputs → IsRead names (input_at inputs i) read i
read_at names [] read h i inside = absurd (omega arith)
read_at names (l ∷ inputs) read h zero inside =
    let first = read_parts (named_literal names l) (named_clause names inputs) read h in
    record { literal = first.0; at = ap (λ xs. slice_get xs 0) first.4; as_read = first.2 }
read_at names (l ∷ inputs) read h (suc i) inside =
    let first = read_parts (named_literal names l) (named_clause names inputs) read h in
    let rest = read_at names inputs first.1 first.3 i (omega arith) in
    record { literal = rest.literal; at = ap (λ xs. slice_get xs (suc i)) first.4 ∙ rest.at; as_read = rest.as_read }

pub read_length : (names : List (ℕ × Meaning)) (inputs : List Lit) (read : List NamedLiteral) → named_clause names inputs ≡ Some read → length read ≡ length inputs
read_length names [] read h = let same : read ≡ [] = cc in ap length same
read_length names (l ∷ inputs) read h =
    let first = read_parts (named_literal names l) (named_clause names inputs) read h in
    ap length first.4 ∙ ap suc (read_length names inputs first.1 first.3)

pub read_negation : (names : List (ℕ × Meaning)) (l : Lit) (x : NamedLiteral) → named_literal names l ≡ Some x → named_literal names (negation l) ≡ Some (opposite x)
read_negation names l x h = by (meaning_of names l.var) h
  where
    by : (o : Option Meaning) → option_map (λ (meaning : Meaning). record { meaning = meaning; positive = l.positive }) o ≡ Some x → option_map (λ (meaning : Meaning). record { meaning = meaning; positive = not l.positive }) o ≡ Some (opposite x)
    by None e = cc
    by (Some meaning) e = let same : record { meaning = meaning; positive = l.positive } ≡ x = cc in ap (λ y. Some (opposite y)) same

pub read_two : (names : List (ℕ × Meaning)) (a b : Lit) (x y : NamedLiteral) → named_literal names a ≡ Some x → named_literal names b ≡ Some y → named_clause names (a ∷ b ∷ []) ≡ Some (x ∷ y ∷ [])
read_two names a b x y first second = ap (λ o. with_literal o (with_literal (named_literal names b) (Some []))) first ∙ ap (λ o. with_literal (Some x) (with_literal o (Some []))) second

read_three : (names : List (ℕ × Meaning)) (a b c : Lit) (x y z : NamedLiteral) → named_literal names a ≡ Some x → named_literal names b ≡ Some y → named_literal names c ≡ Some z → named_clause names (a ∷ b ∷ c ∷ []) ≡ Some (x ∷ y ∷ z ∷ [])
read_three names a b c x y z first second third = ap (λ o. with_literal o (named_clause names (b ∷ c ∷ []))) first ∙ ap (λ r. with_literal (Some x) r) (read_two names b c y z second third)

-- ---- one column

module _ (names : List (ℕ × Meaning)) (read : List NamedLiteral) (state : CounterState) (named : IsNamedBy names read state) where
  yes_read : (i j : ℕ) → IsPlace state i j → named_literal names (positive (variable state i j)) ≡ Some (yes (reaches (suc i) (suc j)))
  yes_read i j place = ap (option_map (λ (meaning : Meaning). yes meaning)) (named.called i j place)

  no_read : (i j : ℕ) → IsPlace state i j → named_literal names (negative (variable state i j)) ≡ Some (no (reaches (suc i) (suc j)))
  no_read i j place = ap (option_map (λ (meaning : Meaning). no meaning)) (named.called i j place)

  -- what is written of input i in column j
  abbrev Kept : ℕ → ℕ → List NamedLiteral → Type 0
  Kept j i literals = (1 ≤ i) × (count_clause (counts_on i (suc j)) ≡ literals)

  abbrev Counted : ℕ → ℕ → List NamedLiteral → Type 0
  Counted j i literals = (x : NamedLiteral) × (slice_get read i ≡ Some x) × ((j ≡ 0) ⊎ (1 ≤ i)) × (count_clause (counts_up i j x) ≡ literals)

  kept_code : (i j : ℕ) → IsPlace state i j → IsCode names (Kept j i) (under (reached_in (column_at state.columns j) i) (positive (variable state i j) ∷ []))
  kept_code zero j place = code_none names (Kept j 0) (λ literals is. let low = is.0 in omega arith)
  kept_code (suc i) j place =
      let before : IsPlace state i j = record { input = omega (arith, place.input); column = place.column } in
      let reads = reads_whole names (negative (variable state i j) ∷ positive (variable state (suc i) j) ∷ []) (count_clause (counts_on (suc i) (suc j)))
      (read_two names (negative (variable state i j)) (positive (variable state (suc i) j)) (no (reaches (suc i) (suc j))) (yes (reaches (suc (suc i)) (suc j))) (no_read i j before) (yes_read (suc i) j place)) in
      code_same names (Alone (count_clause (counts_on (suc i) (suc j)))) (Kept j (suc i)) ((negative (variable state i j) ∷ positive (variable state (suc i) j) ∷ []) ∷ [])
      (λ literals same. (omega arith, same)) (λ literals is. is.1)
      (code_one names (negative (variable state i j) ∷ positive (variable state (suc i) j) ∷ []) (count_clause (counts_on (suc i) (suc j))) reads)

  -- one clause, for the input that is read there
  counted_one : (i j : ℕ) (clause : Clause) (at : IsRead names (input_at state.inputs i) read i) → (j ≡ 0) ⊎ (1 ≤ i) → named_clause names clause ≡ Some (count_clause (counts_up i j at.literal)) → IsCode names (Counted j i) (clause ∷ [])
  counted_one i j clause at low reads = code_same names (Alone (count_clause (counts_up i j at.literal))) (Counted j i) (clause ∷ [])
      (λ literals same. (at.literal, at.at, low, same))
      (λ literals is. let same : at.literal ≡ is.0 = same_Some at.literal is.0 (sym at.at ∙ is.1) in ap (λ x. count_clause (counts_up i j x)) same ∙ is.3)
      (code_one names clause (count_clause (counts_up i j at.literal)) (reads_whole names clause (count_clause (counts_up i j at.literal)) reads))

  counted_code : (i j : ℕ) → IsPlace state i j → IsCode names (Counted j i) (under (reached_before (column_before state.columns j) i) (negation (input_at state.inputs i) ∷ positive (variable state i j) ∷ []))
  counted_code i zero place =
      let at = read_at names state.inputs read named.inputs_read i place.input in
      counted_one i 0 (negation (input_at state.inputs i) ∷ positive (variable state i 0) ∷ []) at (inl refl)
      (read_two names (negation (input_at state.inputs i)) (positive (variable state i 0)) (opposite at.literal) (yes (reaches (suc i) 1)) (read_negation names (input_at state.inputs i) at.literal at.as_read) (yes_read i 0 place))
  counted_code zero (suc j) place = code_none names (Counted (suc j) 0) (λ literals is. by is.2)
    where
      by : (suc j ≡ 0) ⊎ (1 ≤ 0) → ⊥
      by (inl none) = omega arith
      by (inr low) = omega arith
  counted_code (suc i) (suc j) place =
      let at = read_at names state.inputs read named.inputs_read (suc i) place.input in
      let before : IsPlace state i j = record { input = omega (arith, place.input); column = omega (arith, place.column) } in
      counted_one (suc i) (suc j) (negative (variable state i j) ∷ negation (input_at state.inputs (suc i)) ∷ positive (variable state (suc i) (suc j)) ∷ []) at (inr (omega arith))
      (read_three names (negative (variable state i j)) (negation (input_at state.inputs (suc i))) (positive (variable state (suc i) (suc j)))
      (no (reaches (suc i) (suc j))) (opposite at.literal) (yes (reaches (suc (suc i)) (suc (suc j))))
      (no_read i j before) (read_negation names (input_at state.inputs (suc i)) at.literal at.as_read) (yes_read (suc i) (suc j) place))

  abbrev AtPlace : ℕ → ℕ → List NamedLiteral → Type 0
  AtPlace j i = Either (Kept j i) (Counted j i)

  pub column_code : (j : ℕ) → j < length state.columns → IsCode names (IsNamedColumn read j) (column_clauses state.inputs (column_before state.columns j) (column_at state.columns j))
  column_code j h = code_same names (EachBelow (length state.inputs) (AtPlace j)) (IsNamedColumn read j) (column_clauses state.inputs (column_before state.columns j) (column_at state.columns j)) to back
      (code_flat names (AtPlace j) (λ i. place_clauses (input_at state.inputs i) (column_before state.columns j) (column_at state.columns j) i) (length state.inputs) (λ i inside.
      let place : IsPlace state i j = record { input = inside; column = h } in
      code_append names (Kept j i) (Counted j i) (under (reached_in (column_at state.columns j) i) (positive (variable state i j) ∷ []))
      (under (reached_before (column_before state.columns j) i) (negation (input_at state.inputs i) ∷ positive (variable state i j) ∷ [])) (kept_code i j place) (counted_code i j place)))
    where
      count : length read ≡ length state.inputs
      count = read_length names state.inputs read named.inputs_read

      to : (literals : List NamedLiteral) → EachBelow (length state.inputs) (AtPlace j) literals → IsNamedColumn read j literals
      to literals (i, inside, inl (low, same)) = (counts_on i (suc j), (low, omega (arith, inside, count), omega arith), refl, same)
      to literals (i, inside, inr (x, at, low, same)) = (counts_up i j x, (at, low), refl, same)

      back : (literals : List NamedLiteral) → IsNamedColumn read j literals → EachBelow (length state.inputs) (AtPlace j) literals
      back literals (counts_on i k, (low, inside, one), of, same) = (i, omega (arith, inside, count), inl (low, subst (λ m. count_clause (counts_on i m) ≡ literals) of same))
      back literals (counts_up i k x, (at, low), of, same) =
          (i, omega (arith, within read i x at, count), inr (x, at, subst (λ m. (m ≡ 0) ⊎ (1 ≤ i)) of low, subst (λ m. count_clause (counts_up i m x) ≡ literals) of same))
        where
          within : (xs : List NamedLiteral) (i : ℕ) (x : NamedLiteral) → slice_get xs i ≡ Some x → i < length xs
          within [] i x h = cc
          within (y ∷ xs) zero x h = omega arith
          within (y ∷ xs) (suc i) x h = let rest = within xs i x h in omega arith

pub counter_is_code : CounterIsCode
counter_is_code names read state named = code_same names (EachBelow (length state.columns) (IsNamedColumn read)) (IsNamedCount read (length state.columns)) (counter_clauses state) to back
    (code_flat names (IsNamedColumn read) (λ j. column_clauses state.inputs (column_before state.columns j) (column_at state.columns j)) (length state.columns) (column_code names read state named))
  where
    to : (literals : List NamedLiteral) → EachBelow (length state.columns) (IsNamedColumn read) literals → IsNamedCount read (length state.columns) literals
    to literals (j, h, (counts_on i k, is, of, same)) = (counts_on i k, is, omega arith, same)
    to literals (j, h, (counts_up i k x, is, of, same)) = (counts_up i k x, is, omega arith, same)

    back : (literals : List NamedLiteral) → IsNamedCount read (length state.columns) literals → EachBelow (length state.columns) (IsNamedColumn read) literals
    back literals (counts_on i zero, (low, inside, one), of, same) = absurd (omega arith)
    back literals (counts_on i (suc k), is, of, same) = (k, omega arith, (counts_on i (suc k), is, refl, same))
    back literals (counts_up i k x, is, of, same) = (k, of, (counts_up i k x, is, refl, same))

pub column_is_code : ColumnIsCode
column_is_code names read state first named =
    let column : List ℕ = range_with_len first (length state.inputs) in
    let code = column_code names read (with_column state first) named (length state.columns) (omega (arith, one_more_column state.columns column)) in
    subst (λ c. IsCode names (IsNamedColumn read (length state.columns)) (column_clauses state.inputs c column)) (before_front state.columns column (length state.columns) (omega arith))
    (subst (λ c. IsCode names (IsNamedColumn read (length state.columns)) (column_clauses state.inputs (column_before (state.columns ++ column ∷ []) (length state.columns)) c)) (at_end state.columns column) code)

-- ---- column by column

pub named_columns_grow : NamedColumnsGrow
named_columns_grow inputs = record {
  begins = none;
  grows = λ columns named. (to columns named, back columns named);
}
  where
    none : (named : List NamedLiteral) → IsNamedCount inputs 0 named → ⊥
    none named (counts_on i j, is, of, same) = let one = is.2 in omega arith
    none named (counts_up i j x, is, of, same) = omega arith

    to : (columns : ℕ) (named : List NamedLiteral) → IsNamedCount inputs (suc columns) named → IsNamedCount inputs columns named ⊎ IsNamedColumn inputs columns named
    to columns named (counts_on i j, is, of, same) = by (cases_order j (suc columns))
      where
        by : (j ≡ suc columns) ⊎ ((j < suc columns) ⊎ (suc columns < j)) → IsNamedCount inputs columns named ⊎ IsNamedColumn inputs columns named
        by (inl last) = inr (counts_on i j, is, last, same)
        by (inr (inl less)) = inl (counts_on i j, is, omega arith, same)
        by (inr (inr more)) = absurd (omega arith)
    to columns named (counts_up i j x, is, of, same) = by (cases_order j columns)
      where
        by : (j ≡ columns) ⊎ ((j < columns) ⊎ (columns < j)) → IsNamedCount inputs columns named ⊎ IsNamedColumn inputs columns named
        by (inl last) = inr (counts_up i j x, is, last, same)
        by (inr (inl less)) = inl (counts_up i j x, is, less, same)
        by (inr (inr more)) = absurd (omega arith)

    back : (columns : ℕ) (named : List NamedLiteral) → IsNamedCount inputs columns named ⊎ IsNamedColumn inputs columns named → IsNamedCount inputs (suc columns) named
    back columns named (inl (counts_on i j, is, of, same)) = (counts_on i j, is, omega arith, same)
    back columns named (inl (counts_up i j x, is, of, same)) = (counts_up i j x, is, omega arith, same)
    back columns named (inr (counts_on i j, is, of, same)) = (counts_on i j, is, omega arith, same)
    back columns named (inr (counts_up i j x, is, of, same)) = (counts_up i j x, is, omega arith, same)

-- ---- further names

read_more : (names more : List (ℕ × Meaning)) (inputs : List Lit) (read : List NamedLiteral) → named_clause names inputs ≡ Some read → named_clause (names ++ more) inputs ≡ Some read
read_more names more [] read h = h
read_more names more (l ∷ inputs) read h =
    let first = read_parts (named_literal names l) (named_clause names inputs) read h in
    ap (λ o. with_literal o (named_clause (names ++ more) inputs)) (literal_more names more l first.0 first.2)
    ∙ ap (with_literal (Some first.0)) (read_more names more inputs first.1 first.3)
    ∙ ap Some (sym first.4)

abbrev Differ : ℕ × Meaning → ℕ × Meaning → Type 0
Differ a b = (a.0 ≢ b.0) × (a.1 ≢ b.1)

pub counter_meanings_grow : CounterMeaningsGrow
counter_meanings_grow names read state first once below none named = (all_once, record { inputs_read = read_more names more state.inputs read named.inputs_read; called = called })
  where
    more : List (ℕ × Meaning)
    more = next_meanings state first

    entry : ℕ → ℕ × Meaning
    entry i = (first + i, reaches (suc i) (suc (length state.columns)))

    across : (a b : ℕ × Meaning) → Contains names a → Contains more b → Differ a b
    across a b here there =
        let at = map_of entry (length state.inputs) b there in
        let made : a.0 < first = all_at (λ (e : ℕ × Meaning). e.0 < first) names a below here in
        let other = all_at (λ (e : ℕ × Meaning). (i : ℕ) → e.1 ≢ reaches i (suc (length state.columns))) names a none here in
        let var : first + at.0 ≡ b.0 = ap (λ (e : ℕ × Meaning). e.0) at.2 in
        let meaning : reaches (suc at.0) (suc (length state.columns)) ≡ b.1 = ap (λ (e : ℕ × Meaning). e.1) at.2 in
        ((λ same. omega (arith, made, var, same)), (λ same. other (suc at.0) (same ∙ sym meaning)))

    all_once : HasEachOnce (names ++ more)
    all_once = pairs_append Differ names more once
        (pairs_map Differ entry (length state.inputs) (λ i k less inside. ((λ same. omega arith), (λ same. let e : i ≡ k = cc in omega arith)))) across

    called : (i j : ℕ) → IsPlace (with_column state first) i j → meaning_of (names ++ more) (variable (with_column state first) i j) ≡ Some (reaches (suc i) (suc j))
    called i j place = by (place_cases state first i j place)
      where
        by : IsPlace state i j ⊎ ((i < length state.inputs) × (j ≡ length state.columns)) → meaning_of (names ++ more) (variable (with_column state first) i j) ≡ Some (reaches (suc i) (suc j))
        by (inl before) = ap (meaning_of (names ++ more)) (variable_before state first i j before) ∙ found_more names more (variable state i j) (reaches (suc i) (suc j)) (named.called i j before)
        by (inr (inside, last)) =
            let is : variable (with_column state first) i j ≡ first + i = ap (variable (with_column state first) i) last ∙ variable_last state first i inside in
            ap (meaning_of (names ++ more)) is
            ∙ named_by_entry (names ++ more) all_once (first + i) (reaches (suc i) (suc (length state.columns))) (Contains-append_right names more (entry i) (map_contains entry (length state.inputs) i inside))
            ∙ ap (λ k. Some (reaches (suc i) (suc k))) (sym last)
