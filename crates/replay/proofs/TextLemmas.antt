-- What the lines of a run text say, line by line.
use Rattle.std.proofs.Common.{◌≡◌, ℕ, Bool, true, false, cond, List, ◌∷◌, length, Option, None, Some, refl, arith, ap, sym, ◌∙◌}
use Rattle.std.specs.Prelude.{nat_le, not, is_none, ◌≤◌}
use Rattle.std.specs.List.{list_all}
use Rattle.std.proofs.lemmas.Bool.Decides.{nat_tests}
use Rattle.des_base.specs.Names.{is_name_text}
use Rattle.des_base.specs.CountedLines.{NumberedLine, counted_lines, numbered, tokens_of, last_line}
use Rattle.des_net.specs.Network.{Net}
use Rattle.replay.specs.RunText.{step_code, step_words, names_in, knows_event, after_reply_line, stated_length, fault_of_steps, run_fault_of_lines, first_run_fault}

-- where the header is well the text's first fault is that of its steps
pub first_run_fault-steps : (net : Net) (bytes : List ℕ) (lines : List NumberedLine) (number : ℕ) (text : List ℕ) (stated : ℕ) (steps : List NumberedLine) → lines ≡ counted_lines 35 bytes
    → after_reply_line lines ≡ numbered number text ∷ steps → Some stated ≡ stated_length (tokens_of text) → first_run_fault net bytes ≡ fault_of_steps net (last_line bytes) number (Some stated) steps
first_run_fault-steps net bytes lines number text stated steps all header length =
    ap (λ (ls : List NumberedLine). run_fault_of_lines net (last_line bytes) (after_reply_line ls)) (sym all) ∙ ap (run_fault_of_lines net (last_line bytes)) header
    ∙ ap (λ o. fault_of_steps net (last_line bytes) number o steps) (sym length)

-- a line is well only where a line may still come
above : (left : ℕ) → nat_le left 0 ≡ false → 1 ≤ left
above left h = grind (arith, nat_tests)

pub some_left : (net : Net) (left : ℕ) (words : List (List ℕ)) → step_code net left words ≡ None → 1 ≤ left
some_left net left words h = by (nat_le left 0) refl h
  where
    rest : Option ℕ
    rest = cond (is_none (step_words words)) (Some 2) (cond (not (list_all is_name_text (names_in words))) (Some 3) (cond (not (knows_event net words)) (Some 5) None))

    by : (b : Bool) → nat_le left 0 ≡ b → (let code : Option ℕ = cond b (Some 4) rest in code ≡ None) → 1 ≤ left
    by true e is = cc
    by false e is = above left e
