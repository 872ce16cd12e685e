-- A printed formula reads back.
use Rattle.std.proofs.Common.{◌≡◌, ◌<◌, ◌≤◌, ◌+◌, ◌-◌, ◌^◌, ℕ, suc, Bool, true, false, List, [], ◌∷◌, ◌++◌, length, map, None, Some, cond, refl, arith, ap, sym, ◌∙◌, append_assoc, append-nil}
use Rattle.std.proofs.lemmas.Bool.Decides.{nat_tests}
use Rattle.std.proofs.lemmas.List.Elements.{All-head, All-tail}
use Rattle.std.specs.Prelude.{not, nat_lt, All, flat_map, codes}
use Rattle.std.specs.Fmt.{decimal}
use Rattle.std.specs.List.{list_all}
use Rattle.des_base.proofs.PrintedLines.{line_byte, IsWord, tokens_of-word, tokens_of-last, word_in_line, word_before, counted_from-line}
use Rattle.des_base.specs.CountedLines.{NumberedLine, numbered, counted_from, counted_lines, tokens_of, last_line}
use Rattle.prop_core.specs.declared.lit.Lit.{Lit}
use Rattle.prop_core.specs.Clauses.{Clause, HasValues}
use Rattle.proof_text.specs.ClauseReading.{spelled_clauses}
use Rattle.proof_text.specs.SignedNumbers.{is_zero, size_of, literal_of}
use Rattle.proof_text.specs.TextFaults.{text_fault_or}
use Rattle.proof_text.specs.CnfText.{most, stated, header_of, LinedToken, lined, tokens_in, fault_of_tokens, cnf_fault_of_lines, fault_of_body, Formula, formula, formula_of_body, formula_of_lines}
use Rattle.proof_text.specs.PrintedText.{literal_word, literals_text, clause_text, header_text, formula_text, IsFormulaText}
use Rattle.proof_text.proofs.ClauseLemmas.{fault_of_tokens-well}
use Rattle.proof_text.proofs.CnfLemmas.{within_limits}
use Rattle.proof_text.proofs.PieceLemmas.{spelled_clauses-pieces}
use Rattle.proof_text.proofs.WordLemmas.{AreNumerals, numeral_word, numeral_words, spaced, line_of, tokens_of-line, line_of-bytes, line_of-counts}
use Rattle.proof_text.proofs.NumeralLemmas.{number_of-decimal, decimal_numeral, literal_word_numeral, signed, signed_of-literal, ReadsAs, reads_as, literal-signed, above_zero}

abbrev pub zero_word : List ℕ
zero_word = 48 ∷ []

abbrev words_of : Clause → List (List ℕ)
words_of clause = map literal_word clause

-- a clause's line
abbrev clause_line : Clause → List ℕ
clause_line clause = line_of (words_of clause)

pub literals_text-words : (clause : Clause) → literals_text clause ≡ spaced (words_of clause)
literals_text-words [] = refl
literals_text-words (l ∷ ls) = ap (λ text. (literal_word l ++ 32 ∷ []) ++ text) (literals_text-words ls)

pub clause_text-line : (clause : Clause) (rest : List ℕ) → clause_text clause ++ rest ≡ line_of (map literal_word clause) ++ 10 ∷ rest
clause_text-line clause rest =
    ap (λ text. (text ++ 48 ∷ 10 ∷ []) ++ rest) (literals_text-words clause)
    ∙ append_assoc (spaced (words_of clause)) (48 ∷ 10 ∷ []) rest
    ∙ sym (append_assoc (spaced (words_of clause)) (48 ∷ []) (10 ∷ rest))

small_var : (vars var : ℕ) → vars ≤ 2 ^ 32 → var < vars → var + 1 < 2 ^ 64
small_var vars var few h = omega arith

pub known_numerals : (vars : ℕ) (clause : Clause) → vars ≤ 2 ^ 32 → HasValues vars clause → AreNumerals (map literal_word clause)
known_numerals vars [] few h = tt
known_numerals vars (l ∷ ls) few h =
    (literal_word_numeral l (small_var vars l.var few (All-head (λ (m : Lit). m.var < vars) l ls h)), known_numerals vars ls few (All-tail (λ (m : Lit). m.var < vars) l ls h))

-- ---- the tokens of a clause

none_below_zero : (vars : ℕ) → nat_lt vars 0 ≡ false
none_below_zero vars = grind (arith, nat_tests)

pub known_size : (vars var size : ℕ) → var < vars → size ≡ var + 1 → nat_lt vars size ≡ false
known_size vars var size h e = grind (arith, nat_tests)

-- the line's tokens
abbrev clause_tokens : ℕ → Clause → List LinedToken → List LinedToken
clause_tokens line clause later = map (lined line) (words_of clause ++ zero_word ∷ []) ++ later

pub literal_reads : (vars : ℕ) (l : Lit) → vars ≤ 2 ^ 32 → l.var < vars → ReadsAs (literal_word l) (signed l)
literal_reads vars l few known = reads_as (literal_word l) (signed l) (signed_of-literal l (small_var vars l.var few known))

inside_clause : (vars end left line : ℕ) (clause : Clause) (later : List LinedToken) → vars ≤ 2 ^ 32 → HasValues vars clause
    → fault_of_tokens vars end left true (clause_tokens line clause later) ≡ fault_of_tokens vars end left false later
inside_clause vars end left line [] later few h = fault_of_tokens-well vars end left true line zero_word later refl (none_below_zero vars) refl
inside_clause vars end left line (l ∷ ls) later few h =
    let here : l.var < vars = All-head (λ (m : Lit). m.var < vars) l ls h in
    let reads = literal_reads vars l few here in
    fault_of_tokens-well vars end left true line (literal_word l) (clause_tokens line ls later) reads.number (known_size vars l.var (size_of (literal_word l)) here reads.size) refl
    ∙ ap (λ b. fault_of_tokens vars end left (not b) (clause_tokens line ls later)) (reads.zero ∙ above_zero l.var)
    ∙ inside_clause vars end left line ls later few (All-tail (λ (m : Lit). m.var < vars) l ls h)

one_less : (n : ℕ) → n + 1 - 1 ≡ n
one_less n = omega arith

whole_clause : (vars end left line : ℕ) (clause : Clause) (later : List LinedToken) → vars ≤ 2 ^ 32 → HasValues vars clause
    → fault_of_tokens vars end (left + 1) false (clause_tokens line clause later) ≡ fault_of_tokens vars end left false later
whole_clause vars end left line [] later few h =
    fault_of_tokens-well vars end (left + 1) false line zero_word later refl (none_below_zero vars) (above_zero left)
    ∙ ap (λ n. fault_of_tokens vars end n false later) (one_less left)
whole_clause vars end left line (l ∷ ls) later few h =
    let here : l.var < vars = All-head (λ (m : Lit). m.var < vars) l ls h in
    let reads = literal_reads vars l few here in
    fault_of_tokens-well vars end (left + 1) false line (literal_word l) (clause_tokens line ls later) reads.number (known_size vars l.var (size_of (literal_word l)) here reads.size) (above_zero left)
    ∙ ap (λ b. fault_of_tokens vars end (left + 1 - 1) (not b) (clause_tokens line ls later)) (reads.zero ∙ above_zero l.var)
    ∙ ap (λ n. fault_of_tokens vars end n true (clause_tokens line ls later)) (one_less left)
    ∙ inside_clause vars end left line ls later few (All-tail (λ (m : Lit). m.var < vars) l ls h)

taken_step : (b : Bool) (front : Clause) (l : Lit) (later : List LinedToken) → b ≡ false → cond b (front ∷ spelled_clauses [] later) (spelled_clauses (front ++ l ∷ []) later) ≡ spelled_clauses (front ++ l ∷ []) later
taken_step true front l later h = cc
taken_step false front l later h = refl

spelled_clauses-clause : (vars line : ℕ) (front clause : Clause) (later : List LinedToken) → vars ≤ 2 ^ 32 → HasValues vars clause → spelled_clauses front (clause_tokens line clause later) ≡ (front ++ clause) ∷ spelled_clauses [] later
spelled_clauses-clause vars line front [] later few h = ap (λ (c : Clause). c ∷ spelled_clauses [] later) (sym (append-nil front))
spelled_clauses-clause vars line front (l ∷ ls) later few h =
    let here : l.var < vars = All-head (λ (m : Lit). m.var < vars) l ls h in
    let reads = literal_reads vars l few here in
    taken_step (is_zero (literal_word l)) front (literal_of (literal_word l)) (clause_tokens line ls later) (reads.zero ∙ above_zero l.var)
    ∙ ap (λ (m : Lit). spelled_clauses (front ++ m ∷ []) (clause_tokens line ls later)) (reads.literal ∙ literal-signed l)
    ∙ spelled_clauses-clause vars line (front ++ l ∷ []) ls later few (All-tail (λ (m : Lit). m.var < vars) l ls h)
    ∙ ap (λ (c : Clause). c ∷ spelled_clauses [] later) (append_assoc front (l ∷ []) ls)

-- ---- the lines of the clauses

clause_lines : ℕ → List Clause → List NumberedLine
clause_lines n [] = []
clause_lines n (clause ∷ clauses) = numbered n (clause_line clause) ∷ clause_lines (n + 1) clauses

abbrev AllKnown : ℕ → List Clause → Type 0
AllKnown vars clauses = All (HasValues vars) clauses

counted_from-clauses : (vars n : ℕ) (clauses : List Clause) → vars ≤ 2 ^ 32 → AllKnown vars clauses → counted_from 99 n (flat_map clause_text clauses) ≡ clause_lines n clauses
unfolding clause_lines
counted_from-clauses vars n [] few h = refl
counted_from-clauses vars n (clause ∷ clauses) few h =
    let numerals = known_numerals vars clause few (All-head (HasValues vars) clause clauses h) in
    ap (counted_from 99 n) (clause_text-line clause (flat_map clause_text clauses))
    ∙ counted_from-line 99 n (clause_line clause) (flat_map clause_text clauses) (line_of-bytes (words_of clause) (numeral_words (words_of clause) numerals)) (line_of-counts (words_of clause) numerals)
    ∙ ap (λ lines. numbered n (clause_line clause) ∷ lines) (counted_from-clauses vars (n + 1) clauses few (All-tail (HasValues vars) clause clauses h))

clause_line-tokens : (vars : ℕ) (clause : Clause) → vars ≤ 2 ^ 32 → HasValues vars clause → tokens_of (clause_line clause) ≡ words_of clause ++ zero_word ∷ []
clause_line-tokens vars clause few h = tokens_of-line (words_of clause) (numeral_words (words_of clause) (known_numerals vars clause few h))

fault_of-clauses : (vars end n : ℕ) (clauses : List Clause) → vars ≤ 2 ^ 32 → AllKnown vars clauses → fault_of_tokens vars end (length clauses) false (tokens_in (clause_lines n clauses)) ≡ None
unfolding clause_lines
fault_of-clauses vars end n [] few h = refl
fault_of-clauses vars end n (clause ∷ clauses) few h =
    let later = tokens_in (clause_lines (n + 1) clauses) in
    let here = All-head (HasValues vars) clause clauses h in
    let more : suc (length clauses) ≡ length clauses + 1 = omega arith in
    ap (λ count. fault_of_tokens vars end count false (map (lined n) (tokens_of (clause_line clause)) ++ later)) more
    ∙ ap (λ words. fault_of_tokens vars end (length clauses + 1) false (map (lined n) words ++ later)) (clause_line-tokens vars clause few here)
    ∙ whole_clause vars end (length clauses) n clause later few here
    ∙ fault_of-clauses vars end (n + 1) clauses few (All-tail (HasValues vars) clause clauses h)

spelled_clauses-clauses : (vars n : ℕ) (clauses : List Clause) → vars ≤ 2 ^ 32 → AllKnown vars clauses → spelled_clauses [] (tokens_in (clause_lines n clauses)) ≡ clauses
unfolding clause_lines
spelled_clauses-clauses vars n [] few h = refl
spelled_clauses-clauses vars n (clause ∷ clauses) few h =
    let later = tokens_in (clause_lines (n + 1) clauses) in
    let here = All-head (HasValues vars) clause clauses h in
    ap (λ words. spelled_clauses [] (map (lined n) words ++ later)) (clause_line-tokens vars clause few here)
    ∙ spelled_clauses-clause vars n [] clause later few here
    ∙ ap (λ cs. clause ∷ cs) (spelled_clauses-clauses vars (n + 1) clauses few (All-tail (HasValues vars) clause clauses h))

-- ---- the header

abbrev header_line : ℕ → ℕ → List ℕ
header_line vars count = codes "p cnf " ++ (decimal vars ++ 32 ∷ decimal count)

header_text-line : (vars count : ℕ) (rest : List ℕ) → header_text vars count ++ rest ≡ header_line vars count ++ 10 ∷ rest
header_text-line vars count rest = simp append_assoc

p_word : IsWord (codes "p")
p_word = record { some = omega arith; bytes = refl }

cnf_word : IsWord (codes "cnf")
cnf_word = record { some = omega arith; bytes = refl }

header_tokens : (vars count : ℕ) → vars < 2 ^ 64 → count < 2 ^ 64 → tokens_of (header_line vars count) ≡ codes "p" ∷ codes "cnf" ∷ decimal vars ∷ decimal count ∷ []
header_tokens vars count v c =
    tokens_of-word (codes "p") (codes "cnf " ++ (decimal vars ++ 32 ∷ decimal count)) p_word
    ∙ ap (λ ts. codes "p" ∷ ts) (tokens_of-word (codes "cnf") (decimal vars ++ 32 ∷ decimal count) cnf_word
    ∙ ap (λ ts. codes "cnf" ∷ ts) (tokens_of-word (decimal vars) (decimal count) (numeral_word (decimal vars) (decimal_numeral vars v))
    ∙ ap (λ ts. decimal vars ∷ ts) (tokens_of-last (decimal count) (numeral_word (decimal count) (decimal_numeral count c)))))

header_bytes : (vars count : ℕ) → vars < 2 ^ 64 → count < 2 ^ 64 → list_all line_byte (header_line vars count) ≡ true
header_bytes vars count v c =
    word_before (decimal vars) (decimal count) (numeral_word (decimal vars) (decimal_numeral vars v)).bytes (word_in_line (decimal count) (numeral_word (decimal count) (decimal_numeral count c)).bytes)

header_said : (vars count : ℕ) → vars < 2 ^ 64 → count < 2 ^ 64 → header_of (tokens_of (header_line vars count)) ≡ Some (stated vars count)
header_said vars count v c = ap header_of (header_tokens vars count v c) ∙ rw (number_of-decimal vars v, number_of-decimal count c) refl

-- ---- the whole text

counted : (f : Formula) → f.vars ≤ most → length f.clauses ≤ most → AllKnown f.vars f.clauses
    → counted_lines 99 (formula_text f) ≡ numbered 1 (header_line f.vars (length f.clauses)) ∷ clause_lines 2 f.clauses
counted f vars clauses known =
    let rest = flat_map clause_text f.clauses in
    let v : f.vars < 2 ^ 64 = omega arith in
    let c : length f.clauses < 2 ^ 64 = omega arith in
    let few : f.vars ≤ 2 ^ 32 = omega arith in
    ap (counted_from 99 1) (header_text-line f.vars (length f.clauses) rest)
    ∙ counted_from-line 99 1 (header_line f.vars (length f.clauses)) rest (header_bytes f.vars (length f.clauses) v c) refl
    ∙ ap (λ lines. numbered 1 (header_line f.vars (length f.clauses)) ∷ lines) (counted_from-clauses f.vars 2 f.clauses few known)

pub printed_formula : (f : Formula) → f.vars ≤ most → length f.clauses ≤ most → AllKnown f.vars f.clauses → IsFormulaText f (formula_text f)
printed_formula f vars clauses known =
    let v : f.vars < 2 ^ 64 = omega arith in
    let c : length f.clauses < 2 ^ 64 = omega arith in
    let few : f.vars ≤ 2 ^ 32 = omega arith in
    let end = last_line (formula_text f) in
    let tokens = tokens_in (clause_lines 2 f.clauses) in
    let header = stated f.vars (length f.clauses) in
    record {
      well = ap (cnf_fault_of_lines end) (counted f vars clauses known)
          ∙ ap (λ o. fault_of_body end 1 o tokens) (header_said f.vars (length f.clauses) v c)
          ∙ ap (λ code. text_fault_or 1 code (fault_of_tokens f.vars end (length f.clauses) false tokens)) (within_limits header vars clauses)
          ∙ fault_of-clauses f.vars end 2 f.clauses few known;
      value = ap formula_of_lines (counted f vars clauses known)
          ∙ ap (λ o. formula_of_body o tokens) (header_said f.vars (length f.clauses) v c)
          ∙ ap (formula f.vars) (sym (spelled_clauses-pieces tokens) ∙ spelled_clauses-clauses f.vars 2 f.clauses few known);
    }
