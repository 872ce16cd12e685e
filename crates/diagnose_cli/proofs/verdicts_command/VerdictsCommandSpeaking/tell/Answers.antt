-- By what is told.
use Rattle.std.proofs.Common.{◌≡◌, [], IsOkAnd}
use Rattle.des_base.specs.Outside.{Rose}
use Rattle.endings.specs.Puts.{Speaks}
use Rattle.diagnose_cli.specs.Commands.{verdicts_speech}
use Rattle.diagnose_cli.proofs.ReadOver.{over_case}
use Rattle.diagnose_cli.proofs.VerdictAnswers.{told_speaks, MayTell, status_of_told}
use Rattle.diagnose_cli.proofs.verdicts_command.VerdictsCommandSpeaking.tell.Goals as goal

pub returns-clause-speaks : goal.returns-clause-speaks
returns-clause-speaks g c texts read =
    let limits = c.args.limits in
    let told = c.tell_case-told in
    let book = told.new.book.entries in
    let before = g.S.Sink.taken c.args.out.now in
    let now = g.S.Sink.taken told.new.out in
    let rose = Rose (g.S.Sink.faults c.args.out.now) (g.S.Sink.faults told.new.out) in
    over_case (λ ts. Speaks (λ e. IsOkAnd e ((verdicts_speech limits).says book ts)) (book ≡ []) before now rose (status_of_told told.result)) texts (λ net log. Speaks (MayTell net log limits.steps limits.budget book) (book ≡ []) before now rose (status_of_told told.result))
    (λ text alarms speaks. speaks) c.args.files.net c.args.files.log read (told_speaks c.args.files.net c.args.files.log limits.steps limits.budget book before now rose told.result told.ensures.tells)
