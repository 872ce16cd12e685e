-- What a refutation has: known variables, and numbers that ascend from 1.
use Rattle.std.proofs.Common.{◌≡◌, ◌∙◌, ℕ, zero, suc, ◌+◌, ◌-◌, ◌<◌, List, [], ◌∷◌, ◌++◌, map, length, take, refl, sym, ap, subst, arith, length-append}
use Rattle.std.specs.Prelude.{All, slice_index_or}
use Rattle.std.specs.List.{range_with_len}
use Rattle.std.proofs.lemmas.List.{length-map}
use Rattle.std.proofs.lemmas.List.Elements.{All-nil, All-cons, All-head, All-tail, All-append}
use Rattle.prop_core.specs.declared.lit.Lit.{Lit}
use Rattle.prop_core.specs.Clauses.{Clause, HasValues}
use Rattle.proof_ledger.specs.Book.{BookEntry, axiomatic, learnt, final, mark, axioms_of, clauses_of, IsValidBook}
use Rattle.proof_ledger.specs.Checking.{check_proof}
use Rattle.proof_ledger.specs.declared.checker.Checked.TheVariants.{Verified}
use Rattle.proof_ledger.specs.declared.checker.ProofStep.{ProofStep}
use Rattle.proof_ledger.specs.declared.checker.ProofStep.TheVariants.{Add}
use Rattle.proof_text.specs.PrintedText.{HasNumberAbove, HasVariablesBelow}
use Rattle.proof_text.specs.ProofNumbers.{NumbersAscend, HasNoZero}
use Rattle.proof_text.specs.Refutation.{CanBePrinted, unit_clauses, refuted_formula, numbers_from, new_number, derived_of, derived_steps, steps_behind, refutation_steps, EndsIn, front_to}
use Rattle.proof_text.proofs.Rechecking.{proof_is, verified_is}

-- ---- the formula's variables

axioms_known : (vars : ℕ) (book : List BookEntry) (k : ℕ) → All (HasValues vars) (clauses_of book) → All (HasValues vars) (axioms_of (take k book))
axioms_known vars book zero h = All-nil (HasValues vars)
axioms_known vars [] (suc k) h = All-nil (HasValues vars)
axioms_known vars (axiomatic c ∷ book) (suc k) h = All-cons (HasValues vars) c (axioms_of (take k book)) (All-head (HasValues vars) c (clauses_of book) h) (axioms_known vars book k (All-tail (HasValues vars) c (clauses_of book) h))
axioms_known vars (learnt c hints ∷ book) (suc k) h = axioms_known vars book k (All-tail (HasValues vars) c (clauses_of book) h)
axioms_known vars (final c hints ∷ book) (suc k) h = axioms_known vars book k (All-tail (HasValues vars) c (clauses_of book) h)
axioms_known vars (mark m ∷ book) (suc k) h = axioms_known vars book k h

units_known : (vars : ℕ) (assumed : List Lit) → HasValues vars assumed → All (HasValues vars) (unit_clauses assumed)
units_known vars [] h = All-nil (HasValues vars)
units_known vars (l ∷ assumed) h =
    All-cons (HasValues vars) (l ∷ []) (unit_clauses assumed) (All-cons (λ (x : Lit). x.var < vars) l [] (All-head (λ (x : Lit). x.var < vars) l assumed h) (All-nil (λ (x : Lit). x.var < vars)))
    (units_known vars assumed (All-tail (λ (x : Lit). x.var < vars) l assumed h))

formula_known : (vars : ℕ) (book : List BookEntry) (k : ℕ) (assumed : List Lit) (formula : List Clause) → All (HasValues vars) (clauses_of book) → HasValues vars assumed → formula ≡ refuted_formula (take k book) assumed → All (HasValues vars) formula
formula_known vars book k assumed formula h a is =
    subst (All (HasValues vars)) (sym is) (All-append (HasValues vars) (axioms_of (take k book)) (unit_clauses assumed) (axioms_known vars book k h) (units_known vars assumed a))

-- ---- the variables of the steps

front_known : (vars : ℕ) (book : List BookEntry) (k : ℕ) → All (HasValues vars) (clauses_of book) → All (HasValues vars) (clauses_of (take k book))
front_known vars book zero h = All-nil (HasValues vars)
front_known vars [] (suc k) h = All-nil (HasValues vars)
front_known vars (axiomatic c ∷ book) (suc k) h = All-cons (HasValues vars) c (clauses_of (take k book)) (All-head (HasValues vars) c (clauses_of book) h) (front_known vars book k (All-tail (HasValues vars) c (clauses_of book) h))
front_known vars (learnt c hints ∷ book) (suc k) h = All-cons (HasValues vars) c (clauses_of (take k book)) (All-head (HasValues vars) c (clauses_of book) h) (front_known vars book k (All-tail (HasValues vars) c (clauses_of book) h))
front_known vars (final c hints ∷ book) (suc k) h = All-cons (HasValues vars) c (clauses_of (take k book)) (All-head (HasValues vars) c (clauses_of book) h) (front_known vars book k (All-tail (HasValues vars) c (clauses_of book) h))
front_known vars (mark m ∷ book) (suc k) h = front_known vars book k h

steps_known_of : (vars : ℕ) (numbers : List ℕ) (next : ℕ) (book : List BookEntry) → All (HasValues vars) (clauses_of book) → All (HasVariablesBelow vars) (derived_steps numbers next book)
steps_known_of vars numbers next [] h = All-nil (HasVariablesBelow vars)
steps_known_of vars numbers next (axiomatic c ∷ book) h = steps_known_of vars numbers next book (All-tail (HasValues vars) c (clauses_of book) h)
steps_known_of vars numbers next (learnt c hints ∷ book) h =
    All-cons (HasVariablesBelow vars) (Add 0 next c (map (new_number numbers) hints)) (derived_steps numbers (next + 1) book) (All-head (HasValues vars) c (clauses_of book) h)
    (steps_known_of vars numbers (next + 1) book (All-tail (HasValues vars) c (clauses_of book) h))
steps_known_of vars numbers next (final c hints ∷ book) h =
    All-cons (HasVariablesBelow vars) (Add 0 next c (map (new_number numbers) hints)) (derived_steps numbers (next + 1) book) (All-head (HasValues vars) c (clauses_of book) h)
    (steps_known_of vars numbers (next + 1) book (All-tail (HasValues vars) c (clauses_of book) h))
steps_known_of vars numbers next (mark k ∷ book) h = steps_known_of vars numbers next book h

-- ---- the numbers of the steps

behind_of : (numbers : List ℕ) (clauses next : ℕ) (book : List BookEntry) → clauses < next → All (HasNumberAbove clauses) (derived_steps numbers next book)
behind_of numbers clauses next [] h = All-nil (HasNumberAbove clauses)
behind_of numbers clauses next (axiomatic c ∷ book) h = behind_of numbers clauses next book h
behind_of numbers clauses next (learnt c hints ∷ book) h =
    All-cons (HasNumberAbove clauses) (Add 0 next c (map (new_number numbers) hints)) (derived_steps numbers (next + 1) book) h (behind_of numbers clauses (next + 1) book (omega arith))
behind_of numbers clauses next (final c hints ∷ book) h =
    All-cons (HasNumberAbove clauses) (Add 0 next c (map (new_number numbers) hints)) (derived_steps numbers (next + 1) book) h (behind_of numbers clauses (next + 1) book (omega arith))
behind_of numbers clauses next (mark k ∷ book) h = behind_of numbers clauses next book h

ascend_steps : (numbers : List ℕ) (last next : ℕ) (book : List BookEntry) (hints : List ℕ) → last < next → NumbersAscend last (derived_steps numbers next book ++ Add 0 (next + length (derived_of book)) [] hints ∷ [])
ascend_steps numbers last next [] hints h = (omega arith, tt)
ascend_steps numbers last next (axiomatic c ∷ book) hints h = ascend_steps numbers last next book hints h
ascend_steps numbers last next (learnt c hs ∷ book) hints h =
    (h, subst (λ n. NumbersAscend next (derived_steps numbers (next + 1) book ++ Add 0 n [] hints ∷ [])) (omega arith) (ascend_steps numbers next (next + 1) book hints (omega arith)))
ascend_steps numbers last next (final c hs ∷ book) hints h =
    (h, subst (λ n. NumbersAscend next (derived_steps numbers (next + 1) book ++ Add 0 n [] hints ∷ [])) (omega arith) (ascend_steps numbers next (next + 1) book hints (omega arith)))
ascend_steps numbers last next (mark k ∷ book) hints h = ascend_steps numbers last next book hints h

steps_ascend : (axioms assumptions last : ℕ) (book : List BookEntry) (steps : List ProofStep) → steps ≡ steps_behind axioms assumptions last book → NumbersAscend 0 steps
steps_ascend axioms assumptions last book steps is =
    subst (NumbersAscend 0) (sym is)
    (ascend_steps (numbers_from 1 (axioms + assumptions + 1) book) 0 (axioms + assumptions + 1) book (range_with_len (axioms + 1) assumptions ++ new_number (numbers_from 1 (axioms + assumptions + 1) book) last ∷ []) (omega arith))

-- ---- no number is 0

abbrev Above : ℕ → Type 0
Above n = 0 < n

numbers_above : (first next : ℕ) (book : List BookEntry) → 0 < first → 0 < next → All Above (numbers_from first next book)
numbers_above first next [] h k = All-nil Above
numbers_above first next (axiomatic c ∷ book) h k = All-cons Above first (numbers_from (first + 1) next book) h (numbers_above (first + 1) next book (omega arith) k)
numbers_above first next (learnt c hints ∷ book) h k = All-cons Above next (numbers_from first (next + 1) book) k (numbers_above first (next + 1) book h (omega arith))
numbers_above first next (final c hints ∷ book) h k = All-cons Above next (numbers_from first (next + 1) book) k (numbers_above first (next + 1) book h (omega arith))
numbers_above first next (mark m ∷ book) h k = numbers_above first next book h k

index_above : (numbers : List ℕ) (i : ℕ) → All Above numbers → 0 < slice_index_or numbers i 1
index_above [] i h = omega arith
index_above (n ∷ numbers) zero h = All-head Above n numbers h
index_above (n ∷ numbers) (suc i) h = index_above numbers i (All-tail Above n numbers h)

hints_above : (numbers hints : List ℕ) → All Above numbers → All Above (map (new_number numbers) hints)
hints_above numbers [] h = All-nil Above
hints_above numbers (n ∷ hints) h = All-cons Above (new_number numbers n) (map (new_number numbers) hints) (index_above numbers (n - 1) h) (hints_above numbers hints h)

range_above : (a n : ℕ) → 0 < a → All Above (range_with_len a n)
range_above a zero h = All-nil Above
range_above a (suc n) h = All-cons Above a (range_with_len (a + 1) n) h (range_above (a + 1) n (omega arith))

steps_above_of : (numbers : List ℕ) (next : ℕ) (book : List BookEntry) → 0 < next → All Above numbers → All HasNoZero (derived_steps numbers next book)
steps_above_of numbers next [] h all = All-nil HasNoZero
steps_above_of numbers next (axiomatic c ∷ book) h all = steps_above_of numbers next book h all
steps_above_of numbers next (learnt c hints ∷ book) h all =
    All-cons HasNoZero (Add 0 next c (map (new_number numbers) hints)) (derived_steps numbers (next + 1) book) (h, hints_above numbers hints all) (steps_above_of numbers (next + 1) book (omega arith) all)
steps_above_of numbers next (final c hints ∷ book) h all =
    All-cons HasNoZero (Add 0 next c (map (new_number numbers) hints)) (derived_steps numbers (next + 1) book) (h, hints_above numbers hints all) (steps_above_of numbers (next + 1) book (omega arith) all)
steps_above_of numbers next (mark k ∷ book) h all = steps_above_of numbers next book h all

steps_above : (axioms assumptions last : ℕ) (book : List BookEntry) (steps : List ProofStep) → steps ≡ steps_behind axioms assumptions last book → All HasNoZero steps
steps_above axioms assumptions last book steps is =
    subst (All HasNoZero) (sym is)
    (All-append HasNoZero (derived_steps numbers first book) (Add 0 (first + length (derived_of book)) [] (range_with_len (axioms + 1) assumptions ++ new_number numbers last ∷ []) ∷ [])
    (steps_above_of numbers first book (omega arith) all)
    (All-cons HasNoZero (Add 0 (first + length (derived_of book)) [] (range_with_len (axioms + 1) assumptions ++ new_number numbers last ∷ [])) []
    (omega arith, All-append Above (range_with_len (axioms + 1) assumptions) (new_number numbers last ∷ []) (range_above (axioms + 1) assumptions (omega arith)) (All-cons Above (new_number numbers last) [] (index_above numbers (last - 1) all) (All-nil Above)))
    (All-nil HasNoZero)))
  where
    first : ℕ
    first = axioms + assumptions + 1

    numbers : List ℕ
    numbers = numbers_from 1 first book

    all : All Above numbers
    all = numbers_above 1 first book (omega arith) (omega arith)

-- ---- all of it

pub can_be_printed : (vars : ℕ) (book front : List BookEntry) (k : ℕ) (assumed : List Lit) (formula : List Clause) (steps : List ProofStep) → All (HasValues vars) (clauses_of book) → HasValues vars assumed →
    take k book ≡ front → formula ≡ refuted_formula front assumed → steps ≡ refutation_steps front assumed → CanBePrinted vars formula steps
can_be_printed vars book front k assumed formula steps known assumptions up_to formula_is steps_are = record {
  clauses_known = formula_known vars book k assumed formula known assumptions (formula_is ∙ ap (λ (es : List BookEntry). refuted_formula es assumed) (sym up_to));
  steps_known = subst (All (HasVariablesBelow vars)) (sym steps_are)
      (All-append (HasVariablesBelow vars) (derived_steps numbers first front) (end ∷ []) (steps_known_of vars numbers first front (subst (λ (es : List BookEntry). All (HasValues vars) (clauses_of es)) up_to (front_known vars book k known)))
      (All-cons (HasVariablesBelow vars) end [] (All-nil (λ (x : Lit). x.var < vars)) (All-nil (HasVariablesBelow vars))));
  behind = subst (All (HasNumberAbove (length formula))) (sym steps_are)
      (All-append (HasNumberAbove (length formula)) (derived_steps numbers first front) (end ∷ []) (behind_of numbers (length formula) first front (omega (arith, count)))
      (All-cons (HasNumberAbove (length formula)) end [] (omega (arith, count)) (All-nil (HasNumberAbove (length formula)))));
  ascend = steps_ascend (length (axioms_of front)) (length assumed) (length (clauses_of front)) front steps steps_are;
  above = steps_above (length (axioms_of front)) (length assumed) (length (clauses_of front)) front steps steps_are;
}
  where
    first : ℕ
    first = length (axioms_of front) + length assumed + 1

    numbers : List ℕ
    numbers = numbers_from 1 first front

    end : ProofStep
    end = Add 0 (first + length (derived_of front)) [] (range_with_len (length (axioms_of front) + 1) (length assumed) ++ new_number numbers (length (clauses_of front)) ∷ [])

    count : length formula ≡ length (axioms_of front) + length assumed
    count = ap length formula_is ∙ length-append (axioms_of front) (unit_clauses assumed) ∙ ap (λ n. length (axioms_of front) + n) (length-map assumed (λ (l : Lit). let c : Clause = l ∷ [] in c))

-- ---- the proof alone

pub record IsRefuting (book : List BookEntry) (assumed : List Lit) (last : ℕ) (steps : List ProofStep) : Type 0 where
  pub is : steps ≡ refutation_steps (front_to last book) assumed
  pub verified : check_proof (refuted_formula (front_to last book) assumed) steps ≡ Verified
  pub ascend : NumbersAscend 0 steps
  pub above : All HasNoZero steps

pub is_refuting : (book : List BookEntry) (assumed : List Lit) (last count axioms clauses : ℕ) (steps : List ProofStep) → IsValidBook book → EndsIn book assumed last → take count book ≡ front_to last book → axioms ≡ length (axioms_of (take count book)) →
    clauses ≡ axioms + length assumed → steps ≡ steps_behind axioms (clauses - axioms) last (take count book) → IsRefuting book assumed last steps
is_refuting book assumed last count axioms clauses steps valid ends front count_is clauses_are steps_are = record {
  is = all;
  verified = verified_is book assumed last (refuted_formula (front_to last book) assumed) steps valid ends refl all;
  ascend = steps_ascend axioms (clauses - axioms) last (take count book) steps steps_are;
  above = steps_above axioms (clauses - axioms) last (take count book) steps steps_are;
}
  where
    formula : List Clause
    formula = refuted_formula (take count book) assumed

    long : length formula ≡ length (axioms_of (take count book)) + length assumed
    long = length-append (axioms_of (take count book)) (unit_clauses assumed) ∙ ap (λ n. length (axioms_of (take count book)) + n) (length-map assumed (λ (l : Lit). let c : Clause = l ∷ [] in c))

    all : steps ≡ refutation_steps (front_to last book) assumed
    all = proof_is book assumed last count axioms clauses formula steps ends front refl count_is (omega (arith, clauses_are, count_is, long)) steps_are
