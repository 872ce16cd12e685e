-- A printed run reads back, also behind the first line of a reply.
use Rattle.std.proofs.Common.{◌≡◌, ◌≤◌, ◌+◌, ℕ, Bool, true, false, List, [], ◌∷◌, ◌++◌, length, Some, None, cond, refl, arith, ap, sym, subst, ◌∙◌, append_assoc}
use Rattle.std.specs.Prelude.{codes}
use Rattle.std.specs.Fmt.{decimal}
use Rattle.std.specs.List.{list_all}
use Rattle.des_base.proofs.PrintedLines.{line_byte, IsWord, counted_from-line, tokens_of-word, word_in_line, word_before}
use Rattle.des_base.specs.CountedLines.{NumberedLine, numbered, counted_from, is_counted, tokens_of, last_line}
use Rattle.des_net.specs.Building.{IsDraft}
use Rattle.des_net.specs.Network.{Net}
use Rattle.replay.specs.RunText.{is_reply_line, after_reply_line, after_header, fault_of_steps, run_fault_of_lines, steps_of}
use Rattle.replay.specs.declared.run.RunStep.{RunStep}
use Rattle.answers.specs.declared.found.Found.TheVariants.{Explained, Absent, Many, Undecided}
use Rattle.report.specs.Replies.{text_of_run}
use Rattle.report.specs.ReadBack.{IsPrintable, IsRunText, PrintedRunsReadBack, RepliesReadBack}
use Rattle.report.proofs.DecimalWords.{decimal_bytes}
use Rattle.report.proofs.PrintedRuns.{end_of_line, AreNamed, are_named, step_lines, no_fault_of_steps, steps_of-lines, run_line, run_line-tokens, run_line-length, counted_from-run}
use Rattle.replay.specs.declared.TheConstants.{MOST_RUN_STEPS}

abbrev run_lines : Net → ℕ → List RunStep → List NumberedLine
run_lines net n steps = numbered n (run_line (length steps)) ∷ step_lines net (n + 1) steps

-- a text reads back whose lines are those of the run, but for the first line of a reply
read_lines : (net : Net) (steps : List RunStep) (text : List ℕ) (n : ℕ) → AreNamed net steps → length steps ≤ MOST_RUN_STEPS → after_reply_line (counted_from 35 1 text) ≡ run_lines net n steps → IsRunText net steps text
read_lines net steps text n named few lines = record {
  well = ap (run_fault_of_lines net (last_line text)) lines
      ∙ ap (λ stated. fault_of_steps net (last_line text) n stated (step_lines net (n + 1) steps)) (run_line-length (length steps) few)
      ∙ no_fault_of_steps net (last_line text) n (n + 1) steps named;
  value = ap (λ ls. steps_of net (after_header ls)) lines ∙ steps_of-lines net (n + 1) steps named;
}

-- the first line of a reply
record IsReplyLine (line : List ℕ) : Type 0 where
  bytes : list_all line_byte line ≡ true
  counts : is_counted 35 line ≡ true
  reply : is_reply_line (tokens_of line) ≡ true

skip_step : (b : Bool) (line : NumberedLine) (lines : List NumberedLine) → b ≡ true → cond b lines (line ∷ lines) ≡ lines
skip_step true line lines h = refl
skip_step false line lines h = cc

-- the text of a run behind such a line
behind_reply : (net : Net) (line : List ℕ) (steps : List RunStep) → IsReplyLine line → AreNamed net steps → length steps ≤ MOST_RUN_STEPS → IsRunText net steps (line ++ 10 ∷ text_of_run net steps)
behind_reply net line steps h named few =
    read_lines net steps (line ++ 10 ∷ text_of_run net steps) 2 named few
    (ap after_reply_line (counted_from-line 35 1 line (text_of_run net steps) h.bytes h.counts)
    ∙ skip_step (is_reply_line (tokens_of line)) (numbered 1 line) (counted_from 35 2 (text_of_run net steps)) h.reply
    ∙ counted_from-run net 2 steps named)

-- ---- the text of a run alone

run_alone : (net : Net) (steps : List RunStep) → AreNamed net steps → length steps ≤ MOST_RUN_STEPS → IsRunText net steps (text_of_run net steps)
run_alone net steps named few =
    read_lines net steps (text_of_run net steps) 1 named few
    (ap after_reply_line (counted_from-run net 1 steps named)
    ∙ ap (λ words. cond (is_reply_line words) (step_lines net 2 steps) (run_lines net 1 steps)) (run_line-tokens (length steps) few))

printable_named : (net : Net) (steps : List RunStep) → IsDraft net → IsPrintable net steps → AreNamed net steps
printable_named net steps whole h = are_named net steps whole.event_names whole.called h.known h.named

pub printed_runs_read_back : PrintedRunsReadBack
printed_runs_read_back net steps whole h = run_alone net steps (printable_named net steps whole h) h.few

-- ---- the replies that have a run

explained_word : IsWord (codes "EXPLAINED")
explained_word = record { some = omega arith; bytes = refl }

many_word : IsWord (codes "MANY")
many_word = record { some = omega arith; bytes = refl }

undecided_word : IsWord (codes "UNDECIDED")
undecided_word = record { some = omega arith; bytes = refl }

number_in_line : (n : ℕ) → list_all line_byte (decimal n) ≡ true
number_in_line n = word_in_line (decimal n) (decimal_bytes n)

explained_line : (faults : ℕ) → IsReplyLine (codes "EXPLAINED " ++ decimal faults)
explained_line faults = record {
  bytes = word_before (codes "EXPLAINED") (decimal faults) explained_word.bytes (number_in_line faults);
  counts = refl;
  reply = ap is_reply_line (tokens_of-word (codes "EXPLAINED") (decimal faults) explained_word);
}

many_line : IsReplyLine (codes "MANY 255")
many_line = record { bytes = refl; counts = refl; reply = ap is_reply_line (tokens_of-word (codes "MANY") (codes "255") many_word) }

undecided_line : (lo faults : ℕ) → IsReplyLine (codes "UNDECIDED " ++ decimal lo ++ 32 ∷ decimal faults)
undecided_line lo faults =
    let numbers = decimal lo ++ 32 ∷ decimal faults in
    let parts : codes "UNDECIDED " ++ decimal lo ++ 32 ∷ decimal faults ≡ codes "UNDECIDED " ++ numbers = append_assoc (codes "UNDECIDED ") (decimal lo) (32 ∷ decimal faults) in
    subst IsReplyLine (sym parts) (record {
      bytes = word_before (codes "UNDECIDED") numbers undecided_word.bytes (word_before (decimal lo) (decimal faults) (decimal_bytes lo) (number_in_line faults));
      counts = refl;
      reply = ap is_reply_line (tokens_of-word (codes "UNDECIDED") numbers undecided_word);
    })

-- such a line in front of the text of the run
reply_reads : (net : Net) (line : List ℕ) (steps : List RunStep) → IsReplyLine line → IsDraft net → IsPrintable net steps → IsRunText net steps ((line ++ 10 ∷ []) ++ text_of_run net steps)
reply_reads net line steps h whole printable =
    subst (IsRunText net steps) (sym (end_of_line line (text_of_run net steps))) (behind_reply net line steps h (printable_named net steps whole printable) printable.few)

pub replies_read_back : RepliesReadBack
replies_read_back net n (Explained best) whole = reply_reads net (codes "EXPLAINED " ++ decimal best.faults) best.run (explained_line best.faults) whole
replies_read_back net n Absent whole = tt
replies_read_back net n (Many best) whole = reply_reads net (codes "MANY 255") best.run many_line whole
replies_read_back net n (Undecided lo None) whole = tt
replies_read_back net n (Undecided lo (Some best)) whole = reply_reads net (codes "UNDECIDED " ++ decimal lo ++ 32 ∷ decimal best.faults) best.run (undecided_line lo best.faults) whole
