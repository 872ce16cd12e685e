-- A comment before a printed proof changes nothing but the numbers of the lines, and what a proof comes to doesn't hang on these.
use Rattle.std.proofs.Common.{◌≡◌, ◌∙◌, ℕ, ◌+◌, Bool, true, false, cond, List, [], ◌∷◌, ◌++◌, filter, map, Option, None, Some, refl, sym, ap}
use Rattle.std.specs.List.{list_all}
use Rattle.des_base.proofs.PrintedLines.{line_byte, text_lines-line}
use Rattle.des_base.specs.CountedLines.{NumberedLine, counted_from, is_counted, numbered, numbered_from, text_lines, tokens_of}
use Rattle.proof_ledger.specs.Checking.{Checking, answered, holds, after_add, check_from, check_proof, with_clause, without}
use Rattle.proof_ledger.specs.declared.checker.Checked.{Checked}
use Rattle.proof_ledger.specs.declared.checker.Checked.TheVariants.{Verified, Rejected}
use Rattle.proof_ledger.specs.declared.checker.ProofStep.{ProofStep}
use Rattle.proof_ledger.specs.declared.checker.ProofStep.TheVariants.{Add, Delete}
use Rattle.proof_text.specs.LratText.{LratLine, addition, deletion, last_after, lrat_line_code, lrat_fault_of, lrat_line, proof_step_of, proof_steps_of}
use Rattle.proof_text.specs.PrintedText.{ReadsBackAsProof, without_line}
use Rattle.proof_text.specs.TextFaults.{text_fault_or}
use Rattle.proof_text.specs.declared.fault.TextFault.{TextFault}
use Rattle.prop_core.specs.Clauses.{Clause}
use Rattle.prop_core.specs.Derivation.{Derivation, derives, fails, derive, clause_numbered}

-- ---- other numbers of lines

abbrev counted_among : List NumberedLine → List NumberedLine
counted_among lines = filter (λ line. is_counted 99 line.text) lines

-- the counted lines behind the line of this number
abbrev behind : ℕ → List (List ℕ) → List NumberedLine
behind n lines = counted_among (numbered_from (n + 1) lines)

abbrev said : List NumberedLine → List ProofStep
said found = map without_line (proof_steps_of found)

same_last : (last n m : ℕ) (line : LratLine) → last_after last (proof_step_of n line) ≡ last_after last (proof_step_of m line)
same_last last n m (addition id literals hints ended rest) = refl
same_last last n m (deletion id ids ended rest) = refl

same_step : (n m : ℕ) (line : LratLine) → without_line (proof_step_of n line) ≡ without_line (proof_step_of m line)
same_step n m (addition id literals hints ended rest) = refl
same_step n m (deletion id ids ended rest) = refl

none_either : (n m : ℕ) (code : Option ℕ) (here there : Option TextFault) → text_fault_or n code here ≡ None → (here ≡ None → there ≡ None) → text_fault_or m code there ≡ None
none_either n m None here there none later = later none
none_either n m (Some code) here there none later = cc

counted_more : (b : Bool) (line : NumberedLine) (lines : List NumberedLine) → is_counted 99 line.text ≡ b → counted_among (line ∷ lines) ≡ cond b (line ∷ counted_among lines) (counted_among lines)
counted_more b line lines is = ap (λ c. cond c (line ∷ counted_among lines) (counted_among lines)) is

well_step : (vars last n m : ℕ) (line : List ℕ) (lines : List (List ℕ)) (b : Bool) → is_counted 99 line ≡ b → ((from : ℕ) → lrat_fault_of vars from (behind n lines) ≡ None → lrat_fault_of vars from (behind m lines) ≡ None) →
    lrat_fault_of vars last (counted_among (numbered_from n (line ∷ lines))) ≡ None → lrat_fault_of vars last (counted_among (numbered_from m (line ∷ lines))) ≡ None
well_step vars last n m line lines true is later well =
    ap (lrat_fault_of vars last) (counted_more true (numbered m line) (numbered_from (m + 1) lines) is)
    ∙ none_either n m (lrat_line_code vars last (lrat_line (tokens_of line))) (lrat_fault_of vars (last_after last (proof_step_of n (lrat_line (tokens_of line)))) (behind n lines)) (lrat_fault_of vars (last_after last (proof_step_of m (lrat_line (tokens_of line)))) (behind m lines))
    (sym (ap (lrat_fault_of vars last) (counted_more true (numbered n line) (numbered_from (n + 1) lines) is)) ∙ well)
    (λ none. later (last_after last (proof_step_of m (lrat_line (tokens_of line)))) (ap (λ k. lrat_fault_of vars k (behind n lines)) (same_last last m n (lrat_line (tokens_of line))) ∙ none))
well_step vars last n m line lines false is later well =
    ap (lrat_fault_of vars last) (counted_more false (numbered m line) (numbered_from (m + 1) lines) is)
    ∙ later last (sym (ap (lrat_fault_of vars last) (counted_more false (numbered n line) (numbered_from (n + 1) lines) is)) ∙ well)

well_anywhere : (vars last n m : ℕ) (lines : List (List ℕ)) → lrat_fault_of vars last (counted_among (numbered_from n lines)) ≡ None → lrat_fault_of vars last (counted_among (numbered_from m lines)) ≡ None
well_anywhere vars last n m [] well = refl
well_anywhere vars last n m (line ∷ lines) well = well_step vars last n m line lines (is_counted 99 line) refl (λ from. well_anywhere vars from (n + 1) (m + 1) lines) well

steps_step : (n m : ℕ) (line : List ℕ) (lines : List (List ℕ)) (b : Bool) → is_counted 99 line ≡ b → said (behind n lines) ≡ said (behind m lines) → said (counted_among (numbered_from n (line ∷ lines))) ≡ said (counted_among (numbered_from m (line ∷ lines)))
steps_step n m line lines true is later =
    ap said (counted_more true (numbered n line) (numbered_from (n + 1) lines) is)
    ∙ (λ i. same_step n m (lrat_line (tokens_of line)) i ∷ later i)
    ∙ sym (ap said (counted_more true (numbered m line) (numbered_from (m + 1) lines) is))
steps_step n m line lines false is later =
    ap said (counted_more false (numbered n line) (numbered_from (n + 1) lines) is) ∙ later ∙ sym (ap said (counted_more false (numbered m line) (numbered_from (m + 1) lines) is))

steps_anywhere : (n m : ℕ) (lines : List (List ℕ)) → said (counted_among (numbered_from n lines)) ≡ said (counted_among (numbered_from m lines))
steps_anywhere n m [] = refl
steps_anywhere n m (line ∷ lines) = steps_step n m line lines (is_counted 99 line) refl (steps_anywhere (n + 1) (m + 1) lines)

-- ---- a comment

after_comment : (comment text : List ℕ) → list_all line_byte comment ≡ true → is_counted 99 comment ≡ false → counted_from 99 1 (comment ++ 10 ∷ text) ≡ counted_from 99 2 text
after_comment comment text bytes skipped =
    ap (λ lines. counted_among (numbered_from 1 lines)) (text_lines-line comment text bytes)
    ∙ counted_more false (numbered 1 comment) (numbered_from 2 (text_lines text)) skipped

-- A text reads back with a comment before it as without.
pub commented : (comment text : List ℕ) (steps : List ProofStep) → list_all line_byte comment ≡ true → is_counted 99 comment ≡ false → ReadsBackAsProof steps text → ReadsBackAsProof steps (comment ++ 10 ∷ text)
commented comment text steps bytes skipped reads = λ vars clauses few known behind.
    let back = reads vars clauses few known behind in
    let lines = after_comment comment text bytes skipped in
    record {
      well = ap (lrat_fault_of vars clauses) lines ∙ well_anywhere vars clauses 1 2 (text_lines text) back.well;
      value = ap (λ found. map without_line (proof_steps_of found)) lines ∙ steps_anywhere 2 1 (text_lines text) ∙ back.value;
    }

-- ---- what a proof comes to

abbrev then : Checking → List ProofStep → Checked
then checking steps = elim checking as (λ _. Checked) [ answered checked ↦ checked | holds more ↦ check_from more steps ]

rejected_is_not : (line kind : ℕ) → Rejected line kind ≡ Verified → ⊥
rejected_is_not line kind is = cc

added : (held : ℕ → Option Clause) (line other id : ℕ) (clause : Clause) (derived : Derivation) (steps others : List ProofStep) → ((more : ℕ → Option Clause) → check_from more steps ≡ Verified → check_from more others ≡ Verified) →
    then (after_add held line id clause derived) steps ≡ Verified → then (after_add held other id clause derived) others ≡ Verified
added held line other id [] derives steps others later is = refl
added held line other id (l ∷ ls) derives steps others later is = later (with_clause held id (l ∷ ls)) is
added held line other id clause (fails at kind) steps others later is = absurd (rejected_is_not line kind is)

plainly : (held : ℕ → Option Clause) (steps : List ProofStep) → check_from held steps ≡ Verified → check_from held (map without_line steps) ≡ Verified
plainly held [] is = is
plainly held (Add line id clause hints ∷ steps) is = added held line 0 id clause (derive held clause hints) steps (map without_line steps) (λ more. plainly more steps) is
plainly held (Delete ids ∷ steps) is = plainly (without held ids) steps is

numbered_again : (held : ℕ → Option Clause) (steps : List ProofStep) → check_from held (map without_line steps) ≡ Verified → check_from held steps ≡ Verified
numbered_again held [] is = is
numbered_again held (Add line id clause hints ∷ steps) is = added held 0 line id clause (derive held clause hints) (map without_line steps) steps (λ more. numbered_again more steps) is
numbered_again held (Delete ids ∷ steps) is = numbered_again (without held ids) steps is

-- Steps that differ in the numbers of their lines alone are verified together.
pub verified_alike : (clauses : List Clause) (steps others : List ProofStep) → map without_line others ≡ map without_line steps → check_proof clauses steps ≡ Verified → check_proof clauses others ≡ Verified
verified_alike clauses steps others same verified =
    numbered_again (clause_numbered clauses) others (ap (check_from (clause_numbered clauses)) same ∙ plainly (clause_numbered clauses) steps verified)
