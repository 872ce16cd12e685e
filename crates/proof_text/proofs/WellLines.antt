-- A line of a proof is read exactly if it has no code, and then its step is what the line says.
use Rattle.std.proofs.Common.{◌≡◌, ◌<◌, ℕ, Bool, true, false, List, [], ◌∷◌, map, Option, None, Some, cond, refl, arith, rules, ap, sym, ◌∙◌}
use Rattle.std.proofs.lemmas.Bool.Decides.{nat_tests}
use Rattle.std.proofs.lemmas.List.Elements.{All-nil, All-cons}
use Rattle.std.specs.Prelude.{◌&&◌, ◌==◌, not, nat_lt, option_map, option_and_then, IsSome, All, ⊤}
use Rattle.std.specs.List.{list_all, list_any}
use Rattle.des_base.proofs.BoolLemmas.{both, join, neither, not_false, not_true, not_is_false, less_is}
use Rattle.des_base.specs.CountedLines.{NumberedLine, tokens_of}
use Rattle.prop_core.specs.declared.lit.Lit.{Lit}
use Rattle.proof_ledger.specs.declared.checker.ProofStep.{ProofStep}
use Rattle.proof_ledger.specs.declared.checker.ProofStep.TheVariants.{Delete}
use Rattle.proof_text.specs.SignedNumbers.{is_number, size_of, is_negative, is_zero, literal_of}
use Rattle.proof_text.specs.LratText.{cut_at_zero, is_too_large, is_unsigned, is_positive, some_rest, lrat_line_code, lrat_line, addition_line, deletion_of, is_deletion_mark, proof_step_of, last_after, lrat_fault_of, proof_steps_of, cut, with_token}
use Rattle.proof_text.specs.LineReading.{is_id, is_known_literal, only, ids_only, with_hints, literals_and_hints, add_step, addition_read, deletion_read, step_read, line_read}
use Rattle.proof_text.specs.StepParts.{step_with}
use Rattle.proof_text.specs.declared.lrat_line.StepKind.{StepKind}
use Rattle.proof_text.specs.ProofNumbers.{HasNoZero, NumbersAscend}
use Rattle.proof_text.proofs.CnfLemmas.{text_fault_or-none}
use Rattle.proof_text.proofs.CodeLemmas.{id_is_read, IsIdToken, id_token, id_passes, ids_pass, AreIds, are_ids, known_pass, are_known, nothing_numbers, first_ended, none_of, no_code}
use Rattle.std.proofs.lemmas.Bool.{or_from, not_from_true}

-- ---- what is read, by tests

chain : {X Y : Type 0} (a w : Bool) (x : X) (f : X → Option Y) (y : Y) → f x ≡ cond w (Some y) None → option_and_then f (cond a (Some x) None) ≡ cond (a && w) (Some y) None
chain true w x f y h = h
chain false w x f y h = refl

mapped : {X Y : Type 0} (w : Bool) (x : X) (f : X → Y) (o : Option X) → o ≡ cond w (Some x) None → option_map f o ≡ cond w (Some (f x)) None
mapped true x f o h = ap (option_map f) h
mapped false x f o h = ap (option_map f) h

guarded : {X : Type 0} (a w : Bool) (o : Option X) (x : X) → o ≡ cond w (Some x) None → cond a o None ≡ cond (a && w) (Some x) None
guarded true w o x h = h
guarded false w o x h = refl

only_step : {X : Type 0} (b : Bool) (x : X) → cond b None (Some x) ≡ cond (not b) (Some x) None
only_step true x = refl
only_step false x = refl

-- the tokens are numbers of clauses up to a 0, and no more
abbrev pub hints_well : List (List ℕ) → Bool
hints_well tokens = ((cut_at_zero tokens).ended && list_all is_id (cut_at_zero tokens).front) && not (some_rest (cut_at_zero tokens).behind)

abbrev pub literals_well : ℕ → List (List ℕ) → Bool
literals_well vars tokens = ((cut_at_zero tokens).ended && list_all (is_known_literal vars) (cut_at_zero tokens).front) && hints_well (cut_at_zero tokens).behind

abbrev pub addition_well : ℕ → ℕ → List ℕ → List (List ℕ) → Bool
addition_well vars last id tokens = is_id id && (nat_lt last (size_of id) && literals_well vars tokens)

abbrev pub deletion_well : List ℕ → List (List ℕ) → Bool
deletion_well id tokens = is_id id && hints_well tokens

ids_only_is : (tokens : List (List ℕ)) → ids_only tokens ≡ cond (hints_well tokens) (Some (map size_of (cut_at_zero tokens).front)) None
ids_only_is tokens =
    let c = cut_at_zero tokens in
    let read : List ℕ × List (List ℕ) = (map size_of c.front, c.behind) in
    chain (c.ended && list_all is_id c.front) (not (some_rest c.behind)) read only (map size_of c.front) (only_step (some_rest c.behind) (map size_of c.front))

literals_and_hints_is : (vars : ℕ) (tokens : List (List ℕ)) (parts : List Lit × List ℕ) → parts ≡ (map literal_of (cut_at_zero tokens).front, map size_of (cut_at_zero (cut_at_zero tokens).behind).front)
    → literals_and_hints vars tokens ≡ cond (literals_well vars tokens) (Some parts) None
literals_and_hints_is vars tokens parts is =
    let c = cut_at_zero tokens in
    let read : List Lit × List (List ℕ) = (map literal_of c.front, c.behind) in
    chain (c.ended && list_all (is_known_literal vars) c.front) (hints_well c.behind) read with_hints parts
    (mapped (hints_well c.behind) (map size_of (cut_at_zero c.behind).front) (λ hints. (read.0, hints)) (ids_only c.behind) (ids_only_is c.behind) ∙ ap (λ (p : List Lit × List ℕ). cond (hints_well c.behind) (Some p) None) (sym is))

addition_is_read : (line vars last : ℕ) (id : List ℕ) (tokens : List (List ℕ))
    → option_and_then (λ n. addition_read line vars last n tokens) (cond (is_id id) (Some (size_of id)) None) ≡ cond (addition_well vars last id tokens) (Some (proof_step_of line (addition_line id tokens))) None
addition_is_read line vars last id tokens =
    let parts : List Lit × List ℕ = (map literal_of (cut_at_zero tokens).front, map size_of (cut_at_zero (cut_at_zero tokens).behind).front) in
    chain (is_id id) (nat_lt last (size_of id) && literals_well vars tokens) (size_of id) (λ n. addition_read line vars last n tokens) (proof_step_of line (addition_line id tokens))
    (guarded (nat_lt last (size_of id)) (literals_well vars tokens) (option_map (add_step line (size_of id)) (literals_and_hints vars tokens)) (proof_step_of line (addition_line id tokens))
    (mapped (literals_well vars tokens) parts (add_step line (size_of id)) (literals_and_hints vars tokens) (literals_and_hints_is vars tokens parts refl)))

deletion_is_read : (line : ℕ) (id : List ℕ) (tokens : List (List ℕ))
    → option_and_then (λ (n : ℕ). deletion_read tokens) (cond (is_id id) (Some (size_of id)) None) ≡ cond (deletion_well id tokens) (Some (proof_step_of line (deletion_of id (cut_at_zero tokens)))) None
deletion_is_read line id tokens =
    chain (is_id id) (hints_well tokens) (size_of id) (λ (n : ℕ). deletion_read tokens) (Delete (map size_of (cut_at_zero tokens).front))
    (mapped (hints_well tokens) (map size_of (cut_at_zero tokens).front) Delete (ids_only tokens) (ids_only_is tokens))

abbrev line_well : ℕ → ℕ → List (List ℕ) → Bool
line_well vars last [] = false
line_well vars last (id ∷ []) = addition_well vars last id []
line_well vars last (id ∷ token ∷ tokens) = cond (is_deletion_mark token) (deletion_well id tokens) (addition_well vars last id (token ∷ tokens))

branch_is_read : (b : Bool) (line vars last : ℕ) (id token : List ℕ) (tokens : List (List ℕ))
    → option_and_then (λ n. cond b (deletion_read tokens) (addition_read line vars last n (token ∷ tokens))) (cond (is_id id) (Some (size_of id)) None)
    ≡ cond (cond b (deletion_well id tokens) (addition_well vars last id (token ∷ tokens))) (Some (proof_step_of line (cond b (deletion_of id (cut_at_zero tokens)) (addition_line id (token ∷ tokens))))) None
branch_is_read true line vars last id token tokens = deletion_is_read line id tokens
branch_is_read false line vars last id token tokens = addition_is_read line vars last id (token ∷ tokens)

line_is_read : (line vars last : ℕ) (texts : List (List ℕ)) → line_read line vars last texts ≡ cond (line_well vars last texts) (Some (proof_step_of line (lrat_line texts))) None
line_is_read line vars last [] = refl
line_is_read line vars last (id ∷ []) = ap (option_and_then (step_read line vars last [])) (id_is_read id) ∙ addition_is_read line vars last id []
line_is_read line vars last (id ∷ token ∷ tokens) = ap (option_and_then (step_read line vars last (token ∷ tokens))) (id_is_read id) ∙ branch_is_read (is_deletion_mark token) line vars last id token tokens

-- ---- codes, by the same tests

hints_pass : (tokens : List (List ℕ)) → (cut_at_zero tokens).ended ≡ true → list_all is_id (cut_at_zero tokens).front ≡ true → some_rest (cut_at_zero tokens).behind ≡ false → hints_well tokens ≡ true
hints_pass tokens ended ids rest =
    let c = cut_at_zero tokens in
    join (c.ended && list_all is_id c.front) (not (some_rest c.behind)) (join c.ended (list_all is_id c.front) ended ids) (not_false (some_rest c.behind) rest)

record HintsWell (tokens : List (List ℕ)) : Type 0 where
  ended : (cut_at_zero tokens).ended ≡ true
  ids : AreIds (cut_at_zero tokens).front
  rest : some_rest (cut_at_zero tokens).behind ≡ false

hints_are_well : (tokens : List (List ℕ)) → hints_well tokens ≡ true → HintsWell tokens
hints_are_well tokens h =
    let c = cut_at_zero tokens in
    let parts = both (c.ended && list_all is_id c.front) (not (some_rest c.behind)) h in
    let here = both c.ended (list_all is_id c.front) parts.0 in
    record { ended = here.0; ids = are_ids c.front here.1; rest = not_true (some_rest c.behind) parts.1 }

positive_id : (last : ℕ) (id : List ℕ) → IsIdToken id → nat_lt last (size_of id) ≡ true → is_positive id ≡ true
positive_id last id h above =
    join (is_unsigned id) (not (is_zero id)) (join (is_number id) (not (is_negative id)) h.number (not_false (is_negative id) h.negative)) (not_zero (is_number id) (size_of id) above)
  where
    not_zero : (number : Bool) (size : ℕ) → nat_lt last size ≡ true → not (number && size == 0) ≡ true
    not_zero true size above = grind (arith, nat_tests)
    not_zero false size above = refl

addition_without_code : (vars last : ℕ) (id : List ℕ) (tokens : List (List ℕ)) → lrat_line_code vars last (addition_line id tokens) ≡ None → addition_well vars last id tokens ≡ true
addition_without_code vars last id tokens h =
    let c = cut_at_zero tokens in
    let d = cut_at_zero c.behind in
    let none = none_of _ _ _ _ _ _ h in
    let large = neither (is_too_large id) (list_any is_too_large d.front) none.not_large in
    let strange = neither _ (not (list_all is_number d.behind)) none.not_strange in
    let strange-2 = neither _ (not (list_all is_number d.front)) strange.0 in
    let strange-3 = neither (not (is_positive id)) (not (list_all is_number c.front)) strange-2.0 in
    let unended = neither (not d.ended) (some_rest d.behind) none.not_unended in
    let positive = both (is_unsigned id) (not (is_zero id)) (not_is_false (is_positive id) strange-3.0) in
    let sign = both (is_number id) (not (is_negative id)) positive.0 in
    let ended : d.ended ≡ true = not_is_false d.ended unended.0 in
    join (is_id id) (nat_lt last (size_of id) && literals_well vars tokens)
    (id_passes id sign.0 (not_true (is_negative id) sign.1) large.0)
    (join (nat_lt last (size_of id)) (literals_well vars tokens) (not_is_false (nat_lt last (size_of id)) none.not_low)
    (join (c.ended && list_all (is_known_literal vars) c.front) (hints_well c.behind)
    (join c.ended (list_all (is_known_literal vars) c.front) (first_ended c.ended tokens refl ended) (known_pass vars c.front (not_is_false (list_all is_number c.front) strange-3.1) none.not_unknown))
    (hints_pass c.behind ended (ids_pass d.front large.1 (not_is_false (list_all is_number d.front) strange-2.1) none.not_negative) unended.1)))

pub addition_has_no_code : (vars last : ℕ) (id : List ℕ) (tokens : List (List ℕ)) → addition_well vars last id tokens ≡ true → lrat_line_code vars last (addition_line id tokens) ≡ None
addition_has_no_code vars last id tokens h =
    let c = cut_at_zero tokens in
    let d = cut_at_zero c.behind in
    let parts = both (is_id id) (nat_lt last (size_of id) && literals_well vars tokens) h in
    let above = both (nat_lt last (size_of id)) (literals_well vars tokens) parts.1 in
    let sections = both (c.ended && list_all (is_known_literal vars) c.front) (hints_well c.behind) above.1 in
    let literals = are_known vars c.front (both c.ended (list_all (is_known_literal vars) c.front) sections.0).1 in
    let hints = hints_are_well c.behind sections.1 in
    let number = id_token id parts.0 in
    no_code _ _ _ _ _ _ (record {
      not_large = or_from (is_too_large id) (list_any is_too_large d.front) number.large hints.ids.large;
      not_strange = or_from _ (not (list_all is_number d.behind))
          (or_from _ (not (list_all is_number d.front))
          (or_from (not (is_positive id)) (not (list_all is_number c.front)) (not_from_true (is_positive id) (positive_id last id number above.0)) (not_from_true (list_all is_number c.front) literals.number))
          (not_from_true (list_all is_number d.front) hints.ids.number))
          (not_from_true (list_all is_number d.behind) (nothing_numbers d.behind hints.rest));
      not_unended = or_from (not d.ended) (some_rest d.behind) (not_from_true d.ended hints.ended) hints.rest;
      not_low = not_from_true (nat_lt last (size_of id)) above.0;
      not_unknown = literals.unknown;
      not_negative = hints.ids.negative;
    })

deletion_without_code : (vars last : ℕ) (id : List ℕ) (tokens : List (List ℕ)) → lrat_line_code vars last (deletion_of id (cut_at_zero tokens)) ≡ None → deletion_well id tokens ≡ true
deletion_without_code vars last id tokens h =
    let c = cut_at_zero tokens in
    let none = none_of _ _ _ false false false h in
    let large = neither (is_too_large id) (list_any is_too_large c.front) none.not_large in
    let strange = neither _ (not (list_all is_number c.behind)) none.not_strange in
    let strange-2 = neither _ (list_any is_negative c.front) strange.0 in
    let strange-3 = neither (not (is_unsigned id)) (not (list_all is_number c.front)) strange-2.0 in
    let unended = neither (not c.ended) (some_rest c.behind) none.not_unended in
    let sign = both (is_number id) (not (is_negative id)) (not_is_false (is_unsigned id) strange-3.0) in
    join (is_id id) (hints_well tokens)
    (id_passes id sign.0 (not_true (is_negative id) sign.1) large.0)
    (hints_pass tokens (not_is_false c.ended unended.0) (ids_pass c.front large.1 (not_is_false (list_all is_number c.front) strange-3.1) strange-2.1) unended.1)

pub deletion_has_no_code : (vars last : ℕ) (id : List ℕ) (tokens : List (List ℕ)) → deletion_well id tokens ≡ true → lrat_line_code vars last (deletion_of id (cut_at_zero tokens)) ≡ None
deletion_has_no_code vars last id tokens h =
    let c = cut_at_zero tokens in
    let parts = both (is_id id) (hints_well tokens) h in
    let hints = hints_are_well tokens parts.1 in
    let number = id_token id parts.0 in
    no_code _ _ _ _ _ _ (record {
      not_large = or_from (is_too_large id) (list_any is_too_large c.front) number.large hints.ids.large;
      not_strange = or_from _ (not (list_all is_number c.behind))
          (or_from _ (list_any is_negative c.front)
          (or_from (not (is_unsigned id)) (not (list_all is_number c.front))
          (not_from_true (is_unsigned id) (join (is_number id) (not (is_negative id)) number.number (not_false (is_negative id) number.negative)))
          (not_from_true (list_all is_number c.front) hints.ids.number))
          hints.ids.negative)
          (not_from_true (list_all is_number c.behind) (nothing_numbers c.behind hints.rest));
      not_unended = or_from (not c.ended) (some_rest c.behind) (not_from_true c.ended hints.ended) hints.rest;
      not_low = refl;
      not_unknown = refl;
      not_negative = refl;
    })

branch_without_code : (b : Bool) (vars last : ℕ) (id token : List ℕ) (tokens : List (List ℕ)) → lrat_line_code vars last (cond b (deletion_of id (cut_at_zero tokens)) (addition_line id (token ∷ tokens))) ≡ None
    → cond b (deletion_well id tokens) (addition_well vars last id (token ∷ tokens)) ≡ true
branch_without_code true vars last id token tokens h = deletion_without_code vars last id tokens h
branch_without_code false vars last id token tokens h = addition_without_code vars last id (token ∷ tokens) h

line_without_code : (vars last : ℕ) (texts : List (List ℕ)) → lrat_line_code vars last (lrat_line texts) ≡ None → line_well vars last texts ≡ true
line_without_code vars last [] h = cc
line_without_code vars last (id ∷ []) h = addition_without_code vars last id [] h
line_without_code vars last (id ∷ token ∷ tokens) h = branch_without_code (is_deletion_mark token) vars last id token tokens h

branch_has_no_code : (b : Bool) (vars last : ℕ) (id token : List ℕ) (tokens : List (List ℕ)) → cond b (deletion_well id tokens) (addition_well vars last id (token ∷ tokens)) ≡ true
    → lrat_line_code vars last (cond b (deletion_of id (cut_at_zero tokens)) (addition_line id (token ∷ tokens))) ≡ None
branch_has_no_code true vars last id token tokens h = deletion_has_no_code vars last id tokens h
branch_has_no_code false vars last id token tokens h = addition_has_no_code vars last id (token ∷ tokens) h

line_has_no_code : (vars last : ℕ) (texts : List (List ℕ)) → line_well vars last texts ≡ true → lrat_line_code vars last (lrat_line texts) ≡ None
line_has_no_code vars last [] h = cc
line_has_no_code vars last (id ∷ []) h = addition_has_no_code vars last id [] h
line_has_no_code vars last (id ∷ token ∷ tokens) h = branch_has_no_code (is_deletion_mark token) vars last id token tokens h

-- ---- both

some_step : (w : Bool) (step said : ProofStep) → Some step ≡ cond w (Some said) None → (w ≡ true) × (step ≡ said)
some_step true step said h = (refl, cc)
some_step false step said h = cc

none_step : (w : Bool) (said : ProofStep) → None ≡ cond w (Some said) None → w ≡ false
none_step true said h = cc
none_step false said h = refl

step_is_said : (line vars last : ℕ) (texts : List (List ℕ)) (step : ProofStep) → Some step ≡ line_read line vars last texts → (step ≡ proof_step_of line (lrat_line texts)) × (lrat_line_code vars last (lrat_line texts) ≡ None)
step_is_said line vars last texts step h =
    let parts = some_step (line_well vars last texts) step (proof_step_of line (lrat_line texts)) (h ∙ line_is_read line vars last texts) in
    (parts.1, line_has_no_code vars last texts parts.0)

-- the same of a step by its kind and its parts
pub kind_is_said : (line vars last : ℕ) (texts : List (List ℕ)) (clause : List Lit) (ids : List ℕ) (kind : Option StepKind) (found : StepKind) → kind ≡ Some found → option_map (step_with line clause ids) kind ≡ line_read line vars last texts
    → (step_with line clause ids found ≡ proof_step_of line (lrat_line texts)) × (lrat_line_code vars last (lrat_line texts) ≡ None)
kind_is_said line vars last texts clause ids kind found is read = step_is_said line vars last texts (step_with line clause ids found) (sym (ap (option_map (step_with line clause ids)) is) ∙ read)

some_code : (o : Option ℕ) → (o ≡ None → ⊥) → IsSome o
some_code None h = absurd (h refl)
some_code (Some x) h = search rules

pub line_has_a_code : (line vars last : ℕ) (texts : List (List ℕ)) → None ≡ line_read line vars last texts → IsSome (lrat_line_code vars last (lrat_line texts))
line_has_a_code line vars last texts h =
    let ill : line_well vars last texts ≡ false = none_step (line_well vars last texts) (proof_step_of line (lrat_line texts)) (h ∙ line_is_read line vars last texts) in
    some_code (lrat_line_code vars last (lrat_line texts)) (λ none. let well : line_well vars last texts ≡ true = line_without_code vars last texts none in cc)

-- the numbers of the additions of a proof without a fault ascend
above_last : (vars last : ℕ) (id : List ℕ) (tokens : List (List ℕ)) → addition_well vars last id tokens ≡ true → last < size_of id
above_last vars last id tokens h =
    let parts = both (is_id id) (nat_lt last (size_of id) && literals_well vars tokens) h in
    less_is last (size_of id) (both (nat_lt last (size_of id)) (literals_well vars tokens) parts.1).0

ascends_with : (vars last : ℕ) (line : ℕ) (texts : List (List ℕ)) → line_well vars last texts ≡ true
    → (steps : List ProofStep) → NumbersAscend (last_after last (proof_step_of line (lrat_line texts))) steps → NumbersAscend last (proof_step_of line (lrat_line texts) ∷ steps)
ascends_with vars last line [] h steps rest = cc
ascends_with vars last line (id ∷ []) h steps rest = (above_last vars last id [] h, rest)
ascends_with vars last line (id ∷ token ∷ tokens) h steps rest = branch (is_deletion_mark token) h rest
  where
    branch : (b : Bool) → cond b (deletion_well id tokens) (addition_well vars last id (token ∷ tokens)) ≡ true
        → NumbersAscend (last_after last (proof_step_of line (cond b (deletion_of id (cut_at_zero tokens)) (addition_line id (token ∷ tokens))))) steps
        → NumbersAscend last (proof_step_of line (cond b (deletion_of id (cut_at_zero tokens)) (addition_line id (token ∷ tokens))) ∷ steps)
    branch true h rest = rest
    branch false h rest = (above_last vars last id (token ∷ tokens) h, rest)

pub numbers_ascend : (vars last : ℕ) (lines : List NumberedLine) → lrat_fault_of vars last lines ≡ None → NumbersAscend last (proof_steps_of lines)
numbers_ascend vars last [] h = tt
numbers_ascend vars last (line ∷ lines) h =
    let texts = tokens_of line.text in
    let step = proof_step_of line.number (lrat_line texts) in
    let parts = text_fault_or-none line.number (lrat_line_code vars last (lrat_line texts)) (lrat_fault_of vars (last_after last step) lines) h in
    ascends_with vars last line.number texts (line_without_code vars last texts parts.0) (proof_steps_of lines) (numbers_ascend vars (last_after last step) lines parts.1)

-- no number of a proof without a fault is 0
abbrev NoZeros : List (List ℕ) → Type 0
NoZeros [] = ⊤
NoZeros (token ∷ tokens) = (is_zero token ≡ false) × NoZeros tokens

front_step : (b : Bool) (token : List ℕ) (tokens : List (List ℕ)) → is_zero token ≡ b → NoZeros (cut_at_zero tokens).front → NoZeros (cond b (cut [] true tokens) (with_token token (cut_at_zero tokens))).front
front_step true token tokens e h = tt
front_step false token tokens e h = (e, h)

front_no_zeros : (tokens : List (List ℕ)) → NoZeros (cut_at_zero tokens).front
front_no_zeros [] = tt
front_no_zeros (token ∷ tokens) = front_step (is_zero token) token tokens refl (front_no_zeros tokens)

size_above : (number : Bool) (size : ℕ) → number ≡ true → (number && size == 0) ≡ false → 0 < size
size_above true size h k = grind (arith, nat_tests)
size_above false size h k = cc

sizes_above : (tokens : List (List ℕ)) → NoZeros tokens → list_all is_number tokens ≡ true → All (λ n. 0 < n) (map size_of tokens)
sizes_above [] h k = All-nil (λ n. 0 < n)
sizes_above (token ∷ tokens) h k =
    let parts = both (is_number token) (list_all is_number tokens) k in
    All-cons (λ n. 0 < n) (size_of token) (map size_of tokens) (size_above (is_number token) (size_of token) parts.0 h.0) (sizes_above tokens h.1 parts.1)

ids_above : (tokens : List (List ℕ)) → hints_well tokens ≡ true → All (λ n. 0 < n) (map size_of (cut_at_zero tokens).front)
ids_above tokens h = sizes_above (cut_at_zero tokens).front (front_no_zeros tokens) (hints_are_well tokens h).ids.number

addition_no_zero : (vars last n : ℕ) (id : List ℕ) (tokens : List (List ℕ)) → addition_well vars last id tokens ≡ true → HasNoZero (proof_step_of n (addition_line id tokens))
addition_no_zero vars last n id tokens h =
    let c = cut_at_zero tokens in
    let parts = both (is_id id) (nat_lt last (size_of id) && literals_well vars tokens) h in
    let literals = (both (nat_lt last (size_of id)) (literals_well vars tokens) parts.1).1 in
    let above : last < size_of id = above_last vars last id tokens h in
    (omega arith, ids_above c.behind (both (c.ended && list_all (is_known_literal vars) c.front) (hints_well c.behind) literals).1)

branch_no_zero : (b : Bool) (vars last n : ℕ) (id token : List ℕ) (tokens : List (List ℕ)) → cond b (deletion_well id tokens) (addition_well vars last id (token ∷ tokens)) ≡ true
    → HasNoZero (proof_step_of n (cond b (deletion_of id (cut_at_zero tokens)) (addition_line id (token ∷ tokens))))
branch_no_zero true vars last n id token tokens h = ids_above tokens (both (is_id id) (hints_well tokens) h).1
branch_no_zero false vars last n id token tokens h = addition_no_zero vars last n id (token ∷ tokens) h

line_no_zero : (vars last n : ℕ) (texts : List (List ℕ)) → line_well vars last texts ≡ true → HasNoZero (proof_step_of n (lrat_line texts))
line_no_zero vars last n [] h = cc
line_no_zero vars last n (id ∷ []) h = addition_no_zero vars last n id [] h
line_no_zero vars last n (id ∷ token ∷ tokens) h = branch_no_zero (is_deletion_mark token) vars last n id token tokens h

pub no_zeros : (vars last : ℕ) (lines : List NumberedLine) → lrat_fault_of vars last lines ≡ None → All HasNoZero (proof_steps_of lines)
no_zeros vars last [] h = All-nil HasNoZero
no_zeros vars last (line ∷ lines) h =
    let texts = tokens_of line.text in
    let step = proof_step_of line.number (lrat_line texts) in
    let parts = text_fault_or-none line.number (lrat_line_code vars last (lrat_line texts)) (lrat_fault_of vars (last_after last step) lines) h in
    All-cons HasNoZero step (proof_steps_of lines) (line_no_zero vars last line.number texts (line_without_code vars last texts parts.0)) (no_zeros vars (last_after last step) lines parts.1)
