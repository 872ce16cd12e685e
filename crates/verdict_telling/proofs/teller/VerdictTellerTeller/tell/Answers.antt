-- By the verdict on the event.
use Rattle.std.proofs.Common.{subst, sym}
use Rattle.des_net.specs.Network.{Net}
use Rattle.report.specs.VerdictTexts.{RunKnown}
use Rattle.verdict_telling.proofs.Ends.{judged_untold, left_untold}
use Rattle.verdict_telling.proofs.Runs.{shown_known}
use Rattle.verdict_telling.proofs.teller.VerdictTellerTeller.tell.Goals as goal

pub verdict_text-requires-clause-known : goal.verdict_text-requires-clause-known
verdict_text-requires-clause-known g c =
    let judge = c.args.self.now.judge in
    subst (λ (net : Net). RunKnown net c.in_ok-verdict.verdict) (sym c.net-net.ensures) (shown_known judge.matter c.args.item.now judge.book c.judge.new.self.book c.in_ok-verdict.verdict c.in_ok-verdict.ensures.judged)

pub returns-in_err-text-clause-undone : goal.returns-in_err-text-clause-undone
returns-in_err-text-clause-undone g c = left_untold c.args.self.now c.args.item.now _ c.from_residual-in_err-text.result c.judge.ensures.kept.matter c.judge.ensures.grown
    (judged_untold c.args.self.now.judge.matter c.args.item.now c.args.self.now.judge.book c.judge.new.self.book c.in_ok-verdict.verdict c.in_ok-verdict.ensures.judged)
