use Rattle.std.proofs.Common.{◌∷◌, take, drop, sym, ◌∙◌, ap}
use Rattle.std.specs.Str.Lines.{strip_carriage_return}
use Rattle.des_base.specs.CountedLines.{text_lines}
use Rattle.des_base.proofs.LineLemmas.{text_lines-cons}
use Rattle.des_base.proofs.lines.cut_line.Goals as goal

pub returns-clause-lines : goal.returns-clause-lines
returns-clause-lines c =
    let text = c.split_at.ensures.front ∙ ap (λ n. take n c.args.text.now) c.line_len.ensures.line in
    let rest = c.split_at.ensures.back ∙ ap (λ n. drop n c.args.text.now) c.line_len.ensures.line in
    text_lines-cons c.args.text.now c.requires
    ∙ sym (λ i. (c.without_carriage_return.ensures ∙ ap strip_carriage_return text) i ∷ text_lines ((c.without_first.ensures ∙ ap (drop 1) rest) i))
