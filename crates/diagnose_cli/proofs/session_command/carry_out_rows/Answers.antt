-- As the rows go, or by nothing if memory runs out before.
use Rattle.std.proofs.Common.{◌≡◌, ◌∙◌, [], ap, subst, sym}
use Rattle.des_base.specs.Outside.{Rose}
use Rattle.endings.specs.Puts.{Speaks}
use Rattle.diagnose_cli.specs.Sessions.{MaySay}
use Rattle.diagnose_cli.proofs.Speeches.{broke_before}
use Rattle.diagnose_cli.proofs.session_command.carry_out_rows.Goals as goal

pub returns-in-Err-clause-speaks : goal.returns-in-Err-clause-speaks
returns-in-Err-clause-speaks g c =
    let plan = c.args.plan.now in
    let book = c.set_up.new.book.entries in
    let before = c.args.out.now in
    subst (λ (s : _). Speaks (MaySay plan.net plan.limits.steps plan.limits.budget plan.script book) (book ≡ []) (g.S.Sink.taken before) (g.S.Sink.taken s) (Rose (g.S.Sink.faults before) (g.S.Sink.faults s)) 9) (sym c.in-Err.ensures.nothing_put)
    (broke_before _ _ (ap (λ (b : _). b.entries) c.in-Err.ensures.no_book ∙ c.requires.empty) _ _)
