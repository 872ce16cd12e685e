-- A printed proof reads back.
use Rattle.std.proofs.Common.{◌≡◌, ◌<◌, ◌≤◌, ◌+◌, ◌^◌, ℕ, Bool, true, false, List, [], ◌∷◌, ◌++◌, map, None, cond, refl, arith, ap, sym, ◌∙◌, append_assoc}
use Rattle.std.proofs.lemmas.Bool.Decides.{nat_tests}
use Rattle.std.proofs.lemmas.List.Elements.{All-head, All-tail}
use Rattle.std.proofs.lemmas.List.Concat.{flat_map-append}
use Rattle.std.specs.Prelude.{◌&&◌, ◌==◌, not, nat_lt, All, codes, ⊤}
use Rattle.std.specs.Fmt.{decimal}
use Rattle.std.specs.List.{list_all}
use Rattle.des_base.proofs.BoolLemmas.{join, not_false, is_less}
use Rattle.des_base.proofs.PrintedLines.{IsWord, AreWords, counted_from-line, AreWords-append}
use Rattle.des_base.specs.CountedLines.{NumberedLine, numbered, counted_from, is_counted}
use Rattle.proof_text.proofs.SurveyLemmas.{cut_step}
use Rattle.prop_core.specs.declared.lit.Lit.{Lit}
use Rattle.prop_core.specs.Clauses.{Clause, HasValues}
use Rattle.proof_ledger.specs.declared.checker.ProofStep.{ProofStep}
use Rattle.proof_ledger.specs.declared.checker.ProofStep.TheVariants.{Add, Delete}
use Rattle.proof_text.specs.ProofNumbers.{NumbersAscend, HasNoZero}
use Rattle.proof_text.specs.SignedNumbers.{plain, is_number, is_zero, size_of, literal_of}
use Rattle.proof_text.specs.TextFaults.{text_fault_or}
use Rattle.proof_text.specs.LratText.{Cut, cut, with_token, cut_at_zero, greatest, is_deletion_mark, some_rest, cut_addition, addition_line, deletion_of, lrat_line, lrat_line_code, proof_step_of, last_after, lrat_fault_of, proof_steps_of}
use Rattle.proof_text.specs.LineReading.{is_id, is_known_literal}
use Rattle.proof_text.specs.PrintedText.{literal_word, numbers_text, step_text, steps_text, NumbersFit, without_line, HasVariablesBelow, HasNumberAbove, ReadsBackAsProof}
use Rattle.proof_text.proofs.CodeLemmas.{id_passes}
use Rattle.proof_text.proofs.WellLines.{hints_well, literals_well, addition_well, addition_has_no_code, deletion_has_no_code}
use Rattle.proof_text.proofs.WordLemmas.{IsNumeral, numeral_word, numeral_words, spaced, line_of, line_of-cons, tokens_of-line, line_of-bytes, numeral_counts}
use Rattle.proof_text.proofs.NumeralLemmas.{decimal_numeral, signed_of-decimal, ReadsAs, reads_as, literal-signed, no_deletion_mark, above_zero}
use Rattle.proof_text.proofs.CnfPrinted.{literals_text-words, known_numerals, literal_reads, zero_word, known_size}

abbrev AllFit : List ℕ → Type 0
AllFit numbers = All (λ n. n < 2 ^ 64) numbers

abbrev AllAbove : List ℕ → Type 0
AllAbove numbers = All (λ n. 0 < n) numbers

-- ---- the words of a step's line, without the last 0

abbrev addition_words : ℕ → Clause → List ℕ → List (List ℕ)
addition_words id clause hints = decimal id ∷ (map literal_word clause ++ zero_word ∷ map decimal hints)

abbrev deletion_words : List ℕ → List (List ℕ)
deletion_words ids = codes "1" ∷ codes "d" ∷ map decimal ids

abbrev step_words : ProofStep → List (List ℕ)
step_words (Add line id clause hints) = addition_words id clause hints
step_words (Delete ids) = deletion_words ids

numbers_text-words : (numbers : List ℕ) → numbers_text numbers ≡ spaced (map decimal numbers)
numbers_text-words [] = refl
numbers_text-words (n ∷ ns) = ap (λ text. (decimal n ++ 32 ∷ []) ++ text) (numbers_text-words ns)

addition_pieces : (d l h rest : List ℕ) → (((((d ++ l) ++ 48 ∷ 32 ∷ []) ++ h) ++ 48 ∷ 10 ∷ []) ++ rest) ≡ ((d ++ (l ++ 48 ∷ 32 ∷ h)) ++ 48 ∷ []) ++ 10 ∷ rest
addition_pieces d l h rest = simp append_assoc

step_text-line : (step : ProofStep) (rest : List ℕ) → step_text step ++ rest ≡ line_of (step_words step) ++ 10 ∷ rest
step_text-line (Add line id clause hints) rest =
    let d : List ℕ = decimal id ++ 32 ∷ [] in
    ap (λ l. ((((d ++ l) ++ 48 ∷ 32 ∷ []) ++ numbers_text hints) ++ 48 ∷ 10 ∷ []) ++ rest) (literals_text-words clause)
    ∙ ap (λ h. ((((d ++ spaced (map literal_word clause)) ++ 48 ∷ 32 ∷ []) ++ h) ++ 48 ∷ 10 ∷ []) ++ rest) (numbers_text-words hints)
    ∙ addition_pieces d (spaced (map literal_word clause)) (spaced (map decimal hints)) rest
    ∙ ap (λ words. ((d ++ words) ++ 48 ∷ []) ++ 10 ∷ rest) (sym (flat_map-append (λ word. word ++ 32 ∷ []) (map literal_word clause) (zero_word ∷ map decimal hints)))
step_text-line (Delete ids) rest =
    ap (λ h. ((codes "1 d " ++ h) ++ 48 ∷ 10 ∷ []) ++ rest) (numbers_text-words ids)
    ∙ append_assoc (codes "1 d " ++ spaced (map decimal ids)) (48 ∷ 10 ∷ []) rest
    ∙ sym (append_assoc (codes "1 d " ++ spaced (map decimal ids)) (48 ∷ []) (10 ∷ rest))

-- ---- they are words

decimal_words : (numbers : List ℕ) → AllFit numbers → AreWords (map decimal numbers)
decimal_words [] h = tt
decimal_words (n ∷ ns) h = (numeral_word (decimal n) (decimal_numeral n (All-head (λ (m : ℕ). m < 2 ^ 64) n ns h)), decimal_words ns (All-tail (λ (m : ℕ). m < 2 ^ 64) n ns h))

zero_is_word : IsWord zero_word
zero_is_word = record { some = omega arith; bytes = refl }

one_is_numeral : IsNumeral (codes "1")
one_is_numeral = record { some = omega arith; bytes = refl }

d_is_word : IsWord (codes "d")
d_is_word = record { some = omega arith; bytes = refl }

few : (vars : ℕ) → vars ≤ 1073741824 → vars ≤ 2 ^ 32
few vars h = omega arith

-- what a step has that is printed
pub record IsPrintable (vars : ℕ) (step : ProofStep) : Type 0 where
  pub below : HasVariablesBelow vars step
  pub fit : NumbersFit step
  pub above : HasNoZero step

are_step_words : (vars : ℕ) (step : ProofStep) → vars ≤ 2 ^ 32 → IsPrintable vars step → AreWords (step_words step)
are_step_words vars (Add line id clause hints) small h = (
  numeral_word (decimal id) (decimal_numeral id h.fit.0),
  AreWords-append (map literal_word clause) (zero_word ∷ map decimal hints) (numeral_words (map literal_word clause) (known_numerals vars clause small h.below)) (zero_is_word, decimal_words hints h.fit.1),
)
are_step_words vars (Delete ids) small h = (numeral_word (codes "1") one_is_numeral, (d_is_word, decimal_words ids h.fit))

step_counts : (vars : ℕ) (step : ProofStep) → IsPrintable vars step → is_counted 99 (line_of (step_words step)) ≡ true
step_counts vars (Add line id clause hints) h =
    ap (is_counted 99) (line_of-cons (decimal id) (map literal_word clause ++ zero_word ∷ map decimal hints))
    ∙ numeral_counts (decimal id) (32 ∷ line_of (map literal_word clause ++ zero_word ∷ map decimal hints)) (decimal_numeral id h.fit.0)
step_counts vars (Delete ids) h = refl

-- ---- cuts

abbrev NoZeros : List (List ℕ) → Type 0
NoZeros [] = ⊤
NoZeros (word ∷ words) = (is_zero word ≡ false) × NoZeros words

cut_words : (words rest : List (List ℕ)) → NoZeros words → cut_at_zero (words ++ zero_word ∷ rest) ≡ cut words true rest
cut_words [] rest h = refl
cut_words (word ∷ words) rest h = cut_step (is_zero word) word (words ++ zero_word ∷ rest) h.0 ∙ ap (with_token word) (cut_words words rest h.1)

decimal_reads : (n : ℕ) → n < 2 ^ 64 → ReadsAs (decimal n) (plain n)
decimal_reads n h = reads_as (decimal n) (plain n) (signed_of-decimal n h)

above_is_not_zero : (n : ℕ) → 0 < n → (n == 0) ≡ false
above_is_not_zero n h = grind (arith, nat_tests)

numbers_no_zeros : (numbers : List ℕ) → AllFit numbers → AllAbove numbers → NoZeros (map decimal numbers)
numbers_no_zeros [] h k = tt
numbers_no_zeros (n ∷ ns) h k = (
  (decimal_reads n (All-head (λ (m : ℕ). m < 2 ^ 64) n ns h)).zero ∙ above_is_not_zero n (All-head (λ (m : ℕ). 0 < m) n ns k),
  numbers_no_zeros ns (All-tail (λ (m : ℕ). m < 2 ^ 64) n ns h) (All-tail (λ (m : ℕ). 0 < m) n ns k),
)

literals_no_zeros : (vars : ℕ) (clause : Clause) → vars ≤ 2 ^ 32 → HasValues vars clause → NoZeros (map literal_word clause)
literals_no_zeros vars [] small h = tt
literals_no_zeros vars (l ∷ ls) small h =
    ((literal_reads vars l small (All-head (λ (m : Lit). m.var < vars) l ls h)).zero ∙ above_zero l.var, literals_no_zeros vars ls small (All-tail (λ (m : Lit). m.var < vars) l ls h))

-- ---- what is read

not_too_large : (n size : ℕ) → n < 2 ^ 64 → size ≡ n → nat_lt greatest size ≡ false
not_too_large n size h e = grind (arith, nat_tests)

decimal_is_id : (n : ℕ) → n < 2 ^ 64 → is_id (decimal n) ≡ true
decimal_is_id n h = let reads = decimal_reads n h in id_passes (decimal n) reads.number reads.negative (not_too_large n (size_of (decimal n)) h reads.size)

numbers_are_ids : (numbers : List ℕ) → AllFit numbers → list_all is_id (map decimal numbers) ≡ true
numbers_are_ids [] h = refl
numbers_are_ids (n ∷ ns) h = join (is_id (decimal n)) (list_all is_id (map decimal ns)) (decimal_is_id n (All-head (λ (m : ℕ). m < 2 ^ 64) n ns h)) (numbers_are_ids ns (All-tail (λ (m : ℕ). m < 2 ^ 64) n ns h))

sizes : (numbers : List ℕ) → AllFit numbers → map size_of (map decimal numbers) ≡ numbers
sizes [] h = refl
sizes (n ∷ ns) h = (λ i. (decimal_reads n (All-head (λ (m : ℕ). m < 2 ^ 64) n ns h)).size i ∷ sizes ns (All-tail (λ (m : ℕ). m < 2 ^ 64) n ns h) i)

literals_are_known : (vars : ℕ) (clause : Clause) → vars ≤ 2 ^ 32 → HasValues vars clause → list_all (is_known_literal vars) (map literal_word clause) ≡ true
literals_are_known vars [] small h = refl
literals_are_known vars (l ∷ ls) small h =
    let here : l.var < vars = All-head (λ (m : Lit). m.var < vars) l ls h in
    let reads = literal_reads vars l small here in
    join (is_known_literal vars (literal_word l)) (list_all (is_known_literal vars) (map literal_word ls))
    (join (is_number (literal_word l)) (not (nat_lt vars (size_of (literal_word l)))) reads.number (not_false (nat_lt vars (size_of (literal_word l))) (known_size vars l.var (size_of (literal_word l)) here reads.size)))
    (literals_are_known vars ls small (All-tail (λ (m : Lit). m.var < vars) l ls h))

literals : (vars : ℕ) (clause : Clause) → vars ≤ 2 ^ 32 → HasValues vars clause → map literal_of (map literal_word clause) ≡ clause
literals vars [] small h = refl
literals vars (l ∷ ls) small h =
    (λ i. ((literal_reads vars l small (All-head (λ (m : Lit). m.var < vars) l ls h)).literal ∙ literal-signed l) i ∷ literals vars ls small (All-tail (λ (m : Lit). m.var < vars) l ls h) i)

-- what is read of a step's tokens
record StepReads (vars last : ℕ) (texts : List (List ℕ)) (step : ProofStep) : Type 0 where
  code : lrat_line_code vars last (lrat_line texts) ≡ None
  said : (n : ℕ) → without_line (proof_step_of n (lrat_line texts)) ≡ without_line step
  next : (n : ℕ) → last_after last (proof_step_of n (lrat_line texts)) ≡ last_after last step

mark_step : (b : Bool) (id token : List ℕ) (tokens : List (List ℕ)) → b ≡ false → cond b (deletion_of id (cut_at_zero tokens)) (addition_line id (token ∷ tokens)) ≡ addition_line id (token ∷ tokens)
mark_step true id token tokens h = cc
mark_step false id token tokens h = refl

-- the token behind the number of an addition is a literal or 0
lrat_line-addition : (id : List ℕ) (vars : ℕ) (clause : Clause) (rest : List (List ℕ)) → vars ≤ 2 ^ 32 → HasValues vars clause
    → lrat_line (id ∷ (map literal_word clause ++ zero_word ∷ rest)) ≡ addition_line id (map literal_word clause ++ zero_word ∷ rest)
lrat_line-addition id vars [] rest small h = refl
lrat_line-addition id vars (l ∷ ls) rest small h =
    mark_step (is_deletion_mark (literal_word l)) id (literal_word l) (map literal_word ls ++ zero_word ∷ rest)
    (no_deletion_mark (literal_word l) (known_numerals vars (l ∷ ls) small h).0)

addition_reads : (vars last id : ℕ) (line : ℕ) (clause : Clause) (hints : List ℕ) → vars ≤ 2 ^ 32 → last < id → IsPrintable vars (Add line id clause hints) → StepReads vars last (addition_words id clause hints ++ zero_word ∷ []) (Add line id clause hints)
addition_reads vars last id line clause hints small above h =
    let lits = map literal_word clause in
    let hs = map decimal hints in
    let tokens = (lits ++ zero_word ∷ hs) ++ zero_word ∷ [] in
    let apart : tokens ≡ lits ++ zero_word ∷ (hs ++ zero_word ∷ []) = append_assoc lits (zero_word ∷ hs) (zero_word ∷ []) in
    let first : cut_at_zero tokens ≡ cut lits true (hs ++ zero_word ∷ []) = ap cut_at_zero apart ∙ cut_words lits (hs ++ zero_word ∷ []) (literals_no_zeros vars clause small h.below) in
    let second : cut_at_zero (hs ++ zero_word ∷ []) ≡ cut hs true [] = cut_words hs [] (numbers_no_zeros hints h.fit.1 h.above.1) in
    let then : cut_at_zero (cut_at_zero tokens).behind ≡ cut hs true [] = ap (λ (c : Cut). cut_at_zero c.behind) first ∙ second in
    let is_addition : lrat_line (decimal id ∷ tokens) ≡ addition_line (decimal id) tokens
    = ap (λ ts. lrat_line (decimal id ∷ ts)) apart ∙ lrat_line-addition (decimal id) vars clause (hs ++ zero_word ∷ []) small h.below ∙ ap (addition_line (decimal id)) (sym apart) in
    let reads = decimal_reads id h.fit.0 in
    let above_last : nat_lt last (size_of (decimal id)) ≡ true = ap (nat_lt last) reads.size ∙ is_less last id above in
    let well_hints : (c : Cut) → c ≡ cut hs true [] → ((c.ended && list_all is_id c.front) && not (some_rest c.behind)) ≡ true
    = λ c e. ap (λ (d : Cut). (d.ended && list_all is_id d.front) && not (some_rest d.behind)) e ∙ join (list_all is_id hs) true (numbers_are_ids hints h.fit.1) refl in
    let well_literals : (c : Cut) → c ≡ cut lits true (hs ++ zero_word ∷ []) → (c.ended && list_all (is_known_literal vars) c.front) ≡ true
    = λ c e. ap (λ (d : Cut). d.ended && list_all (is_known_literal vars) d.front) e ∙ literals_are_known vars clause small h.below in
    let well : addition_well vars last (decimal id) tokens ≡ true
    = join (is_id (decimal id)) (nat_lt last (size_of (decimal id)) && literals_well vars tokens) (decimal_is_id id h.fit.0)
    (join (nat_lt last (size_of (decimal id))) (literals_well vars tokens) above_last
    (join ((cut_at_zero tokens).ended && list_all (is_known_literal vars) (cut_at_zero tokens).front) (hints_well (cut_at_zero tokens).behind)
    (well_literals (cut_at_zero tokens) first) (well_hints (cut_at_zero (cut_at_zero tokens).behind) then))) in
    let said : (n : ℕ) → proof_step_of n (lrat_line (decimal id ∷ tokens)) ≡ Add n id clause hints
    = λ n. ap (proof_step_of n) is_addition
    ∙ (λ i. proof_step_of n (cut_addition (decimal id) (first i) (then i)))
    ∙ (λ i. Add n (reads.size i) (literals vars clause small h.below i) (sizes hints h.fit.1 i)) in
    record {
      code = ap (lrat_line_code vars last) is_addition ∙ addition_has_no_code vars last (decimal id) tokens well;
      said = λ n. ap without_line (said n);
      next = λ n. ap (last_after last) (said n);
    }

deletion_reads : (vars last : ℕ) (ids : List ℕ) → IsPrintable vars (Delete ids) → StepReads vars last (deletion_words ids ++ zero_word ∷ []) (Delete ids)
deletion_reads vars last ids h =
    let hs = map decimal ids in
    let tokens = hs ++ zero_word ∷ [] in
    let then : cut_at_zero tokens ≡ cut hs true [] = cut_words hs [] (numbers_no_zeros ids h.fit h.above) in
    let well_hints : (c : Cut) → c ≡ cut hs true [] → ((c.ended && list_all is_id c.front) && not (some_rest c.behind)) ≡ true
    = λ c e. ap (λ (d : Cut). (d.ended && list_all is_id d.front) && not (some_rest d.behind)) e ∙ join (list_all is_id hs) true (numbers_are_ids ids h.fit) refl in
    let said : (n : ℕ) → proof_step_of n (lrat_line (deletion_words ids ++ zero_word ∷ [])) ≡ Delete ids
    = λ n. ap (λ c. proof_step_of n (deletion_of (codes "1") c)) then ∙ ap Delete (sizes ids h.fit) in
    record {
      code = deletion_has_no_code vars last (codes "1") tokens (well_hints (cut_at_zero tokens) then);
      said = λ n. ap without_line (said n);
      next = λ n. ap (last_after last) (said n);
    }

-- ---- the lines of the steps

step_lines : ℕ → List ProofStep → List NumberedLine
step_lines n [] = []
step_lines n (step ∷ steps) = numbered n (line_of (step_words step)) ∷ step_lines (n + 1) steps

abbrev ArePrintable : ℕ → List ProofStep → Type 0
ArePrintable vars [] = ⊤
ArePrintable vars (step ∷ steps) = IsPrintable vars step × ArePrintable vars steps

counted_from-steps : (vars n : ℕ) (steps : List ProofStep) → vars ≤ 2 ^ 32 → ArePrintable vars steps → counted_from 99 n (steps_text steps) ≡ step_lines n steps
unfolding step_lines
counted_from-steps vars n [] small h = refl
counted_from-steps vars n (step ∷ steps) small h =
    ap (counted_from 99 n) (step_text-line step (steps_text steps))
    ∙ counted_from-line 99 n (line_of (step_words step)) (steps_text steps) (line_of-bytes (step_words step) (are_step_words vars step small h.0)) (step_counts vars step h.0)
    ∙ ap (λ lines. numbered n (line_of (step_words step)) ∷ lines) (counted_from-steps vars (n + 1) steps small h.1)

ascends_here : (last : ℕ) (step : ProofStep) (steps : List ProofStep) → NumbersAscend last (step ∷ steps) → NumbersAscend (last_after last step) steps
ascends_here last (Add line id clause hints) steps h = h.1
ascends_here last (Delete ids) steps h = h

step_reads : (vars last : ℕ) (step : ProofStep) (steps : List ProofStep) → vars ≤ 2 ^ 32 → NumbersAscend last (step ∷ steps) → IsPrintable vars step → StepReads vars last (step_words step ++ zero_word ∷ []) step
step_reads vars last (Add line id clause hints) steps small above h = addition_reads vars last id line clause hints small above.0 h
step_reads vars last (Delete ids) steps small above h = deletion_reads vars last ids h

fault_of-steps : (vars last n : ℕ) (steps : List ProofStep) → vars ≤ 2 ^ 32 → NumbersAscend last steps → ArePrintable vars steps → lrat_fault_of vars last (step_lines n steps) ≡ None
unfolding step_lines
fault_of-steps vars last n [] small above h = refl
fault_of-steps vars last n (step ∷ steps) small above h =
    let words = step_words step ++ zero_word ∷ [] in
    let reads = step_reads vars last step steps small above h.0 in
    ap (λ texts. text_fault_or n (lrat_line_code vars last (lrat_line texts)) (lrat_fault_of vars (last_after last (proof_step_of n (lrat_line texts))) (step_lines (n + 1) steps))) (tokens_of-line (step_words step) (are_step_words vars step small h.0))
    ∙ ap (λ code. text_fault_or n code (lrat_fault_of vars (last_after last (proof_step_of n (lrat_line words))) (step_lines (n + 1) steps))) reads.code
    ∙ ap (λ m. lrat_fault_of vars m (step_lines (n + 1) steps)) (reads.next n)
    ∙ fault_of-steps vars (last_after last step) (n + 1) steps small (ascends_here last step steps above) h.1

proof_steps_of-steps : (vars last n : ℕ) (steps : List ProofStep) → vars ≤ 2 ^ 32 → NumbersAscend last steps → ArePrintable vars steps → map without_line (proof_steps_of (step_lines n steps)) ≡ map without_line steps
unfolding step_lines
proof_steps_of-steps vars last n [] small above h = refl
proof_steps_of-steps vars last n (step ∷ steps) small above h =
    let reads = step_reads vars last step steps small above h.0 in
    ap (λ texts. without_line (proof_step_of n (lrat_line texts)) ∷ map without_line (proof_steps_of (step_lines (n + 1) steps))) (tokens_of-line (step_words step) (are_step_words vars step small h.0))
    ∙ (λ i. reads.said n i ∷ proof_steps_of-steps vars (last_after last step) (n + 1) steps small (ascends_here last step steps above) h.1 i)

are_printable : (vars : ℕ) (steps : List ProofStep) → All (HasVariablesBelow vars) steps → All NumbersFit steps → All HasNoZero steps → ArePrintable vars steps
are_printable vars [] below fit above = tt
are_printable vars (step ∷ steps) below fit above = (
  record { below = All-head (HasVariablesBelow vars) step steps below; fit = All-head NumbersFit step steps fit; above = All-head HasNoZero step steps above },
  are_printable vars steps (All-tail (HasVariablesBelow vars) step steps below) (All-tail NumbersFit step steps fit) (All-tail HasNoZero step steps above),
)

-- numbers that ascend do so from any number below them
ascend_from : (last clauses : ℕ) (steps : List ProofStep) → NumbersAscend last steps → All (HasNumberAbove clauses) steps → NumbersAscend clauses steps
ascend_from last clauses [] h above = tt
ascend_from last clauses (Add line id clause hints ∷ steps) h above = (All-head (HasNumberAbove clauses) (Add line id clause hints) steps above, h.1)
ascend_from last clauses (Delete ids ∷ steps) h above = ascend_from last clauses steps h (All-tail (HasNumberAbove clauses) (Delete ids) steps above)

pub printed_steps : (steps : List ProofStep) → All NumbersFit steps → NumbersAscend 0 steps → All HasNoZero steps → ReadsBackAsProof steps (steps_text steps)
printed_steps steps fit ascend above = λ vars clauses h below numbers.
    let small = few vars h in
    let printable = are_printable vars steps below fit above in
    let from = ascend_from 0 clauses steps ascend numbers in
    let lines = counted_from-steps vars 1 steps small printable in
    record {
      well = ap (lrat_fault_of vars clauses) lines ∙ fault_of-steps vars clauses 1 steps small from printable;
      value = ap (λ ls. map without_line (proof_steps_of ls)) lines ∙ proof_steps_of-steps vars clauses 1 steps small from printable;
    }
