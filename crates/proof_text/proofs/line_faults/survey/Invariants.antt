use Rattle.std.proofs.Common.{◌≡◌, false, length}
use Rattle.std.specs.Prelude.{◌&&◌, ◌||◌, nat_lt}
use Rattle.std.specs.List.{list_all, list_any}
use Rattle.des_base.specs.CountedLines.{texts_of}
use Rattle.proof_text.specs.SignedNumbers.{is_number, is_negative, size_of}
use Rattle.proof_text.specs.LratText.{cut_at_zero, is_too_large}
use Rattle.proof_text.proofs.line_faults.survey.Given as goal

-- what was seen, with what is to come up to a `0`, is what there is
abbrev pub invariant-loop-token : goal.invariant-loop-token
invariant-loop-token l =
    let here = cut_at_zero (texts_of l.tokens) in
    let all = cut_at_zero (texts_of l.fn.tokens) in
    record {
      large : (l.section.large || list_any is_too_large here.front) ≡ list_any is_too_large all.front;
      numbers : (l.section.numbers && list_all is_number here.front) ≡ list_all is_number all.front;
      negative : (l.section.negative || list_any is_negative here.front) ≡ list_any is_negative all.front;
      unknown : (l.section.unknown || list_any (λ token. nat_lt l.vars (size_of token)) here.front) ≡ list_any (λ token. nat_lt l.vars (size_of token)) all.front;
      open_yet : l.section.ended ≡ false;
      ended : here.ended ≡ all.ended;
      behind : here.behind ≡ all.behind;
    }

abbrev pub decreases-loop-token : goal.decreases-loop-token
decreases-loop-token l = length l.tokens
