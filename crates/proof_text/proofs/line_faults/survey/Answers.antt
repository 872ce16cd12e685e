use Rattle.std.proofs.Common.{◌≡◌, sym, ap, ◌∙◌}
use Rattle.std.specs.Prelude.{nat_lt}
use Rattle.des_base.specs.CountedLines.{texts_of}
use Rattle.proof_text.specs.SignedNumbers.{is_number, is_negative, size_of}
use Rattle.proof_text.specs.LratText.{Cut, with_token, cut_at_zero, is_too_large}
use Rattle.proof_text.proofs.SurveyLemmas.{cut_at_zero-more, any_more, all_more}
use Rattle.proof_text.proofs.line_faults.survey.Goals as goal

pub loop-token-preserved : goal.loop-token-preserved
loop-token-preserved c =
    let token = c.in-Some.token.text.now in
    let seen = c.loop-token.section in
    let kept = c.with-section.ensures in
    let before = c.loop-token.invariant in
    let h : cut_at_zero (texts_of c.loop-token.tokens) ≡ with_token token (cut_at_zero (texts_of c.next_token.new.self))
    = cut_at_zero-more token (texts_of c.next_token.new.self) (texts_of c.loop-token.tokens) (ap texts_of c.in-Some.ensures.token) (sym c.is_zero.ensures ∙ c.if-is_zero.false) in
    record {
      large = any_more is_too_large seen.large c.with-section.result.large token _ _ _ h kept.large before.large;
      numbers = all_more is_number seen.numbers c.with-section.result.numbers token _ _ _ h kept.numbers before.numbers;
      negative = any_more is_negative seen.negative c.with-section.result.negative token _ _ _ h kept.negative before.negative;
      unknown = any_more (λ t. nat_lt c.args.vars (size_of t)) seen.unknown c.with-section.result.unknown token _ _ _ h kept.unknown before.unknown;
      open_yet = kept.ended ∙ before.open_yet;
      ended = sym (ap (λ (s : Cut). s.ended) h) ∙ before.ended;
      behind = sym (ap (λ (s : Cut). s.behind) h) ∙ before.behind;
    }
