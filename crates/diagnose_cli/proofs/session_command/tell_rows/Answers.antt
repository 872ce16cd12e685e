-- Row by row, from the beginning of a session on.
use Rattle.std.proofs.Common.{◌≡◌, [], List, subst, sym}
use Rattle.alarm_session.specs.Session.{IsSessionBook}
use Rattle.des_base.specs.Outside.{Rose}
use Rattle.log_csv.specs.declared.row.Row.{Row}
use Rattle.proof_ledger.specs.Book.{BookEntry}
use Rattle.endings.specs.Puts.{Speaks}
use Rattle.diagnose_cli.specs.Sessions.{MaySay, status_of_session}
use Rattle.diagnose_cli.proofs.SessionEnds.{rows_speak}
use Rattle.diagnose_cli.proofs.SessionFronts.{same_setting}
use Rattle.diagnose_cli.proofs.session_command.tell_rows.Goals as goal

pub returns-clause-speaks : goal.returns-clause-speaks
returns-clause-speaks g c =
    let plan = c.args.plan.now in
    let session = c.args.session in
    let begins = c.requires.begins in
    let asks = same_setting (λ m k. IsSessionBook m k session.stage) session.net plan.net session.steps plan.limits.steps begins.net_is begins.steps c.is_sound.ensures in
    let before = g.S.Sink.taken c.args.out.now in
    let now = g.S.Sink.taken c.put_each-said.new.out in
    let rose = Rose (g.S.Sink.faults c.args.out.now) (g.S.Sink.faults c.put_each-said.new.out) in
    let status = status_of_session c.put_each-said.result in
    let speaks = rows_speak (λ s. s.plan.now) (λ s. s.session.stage) _ c.rows.result.now c.put_each-said.new.teller begins.stage asks before now rose c.put_each-said.result c.put_each-said.ensures.goes in
    let of_script = subst (λ (rows : List Row). Speaks (MaySay plan.net plan.limits.steps plan.limits.budget rows c.put_each-said.new.teller.session.stage.book) (c.put_each-said.new.teller.session.stage.book ≡ []) before now rose status) c.rows.ensures speaks in
    subst (λ (book : List BookEntry). Speaks (MaySay plan.net plan.limits.steps plan.limits.budget plan.script book) (book ≡ []) before now rose status) (sym c.into_book.ensures) of_script
