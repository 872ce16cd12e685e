-- Both runs stand behind the first line.
use Rattle.std.proofs.Common.{rules, ◌≡◌, ◌∙◌, ◌++◌, codes, ap}
use Rattle.report.specs.Replies.{text_of_both, text_of_twin}
use Rattle.telling.specs.Lines.{line_with_number}
use Rattle.report.proofs.Appending.{second_part}
use Rattle.report.proofs.twin.push_twin.Goals as goal

pub returns-in_ok-push_numbered-in-Ambiguous-clause-ok : goal.returns-in_ok-push_numbered-in-Ambiguous-clause-ok
returns-in_ok-push_numbered-in-Ambiguous-clause-ok c =
    let net = c.args.net.now in
    let both = text_of_both net c.in-Ambiguous.faulty c.in-Ambiguous.healthy in
    let number : c.args.n ≡ c.from.result = search rules in
    second_part c.push_both.result c.args.out.now.items c.push_numbered.new.out.items c.push_both.new.out.items (line_with_number (codes "AMBIGUOUS ") c.from.result) both (text_of_twin net c.args.n c.args.twin.now)
    c.in_ok-push_numbered-in-Ambiguous.ensures.ok (ap (text_of_twin net c.args.n) c.in-Ambiguous.is ∙ ap (λ k. line_with_number (codes "AMBIGUOUS ") k ++ both) number) c.push_both.ensures.ok
