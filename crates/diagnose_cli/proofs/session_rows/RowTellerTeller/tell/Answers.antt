-- By what the row told, and what became of its reply.
use Rattle.std.proofs.Common.{refl, subst}
use Rattle.alarm_session.specs.Rows.{IsRowTold}
use Rattle.log_order.specs.Adding.{IsLog}
use Rattle.diagnose_cli.proofs.SessionFronts.{carried, row_known, row_tells, row_untold, same_setting}
use Rattle.diagnose_cli.proofs.session_rows.RowTellerTeller.tell.Goals as goal

pub reply_to-requires : goal.reply_to-requires
reply_to-requires g c =
    let session = c.args.self.now.session in
    let plan = c.args.self.now.plan.now in
    let later = c.carry_out.new.self.stage in
    let told = c.in_ok-told.told in
    row_known plan.net plan.limits.steps plan.limits.budget session.stage c.args.row.now later told
    (same_setting (λ m k. IsRowTold m k plan.limits.budget session.stage c.args.row.now later told) session.net plan.net session.steps plan.limits.steps c.requires.net c.requires.time c.in_ok-told.ensures.told)

pub returns-clause-told : goal.returns-clause-told
returns-clause-told g c =
    let session = c.args.self.now.session in
    let plan = c.args.self.now.plan.now in
    let later = c.carry_out.new.self.stage in
    let told = c.in_ok-told.told in
    let holds = same_setting (λ m k. IsRowTold m k plan.limits.budget session.stage c.args.row.now later told) session.net plan.net session.steps plan.limits.steps c.requires.net c.requires.time c.in_ok-told.ensures.told in
    let done = carried plan.net plan.limits.steps plan.limits.budget session.stage c.args.row.now later told c.is_built.ensures.network c.is_built.ensures.whole (subst IsLog c.log.ensures c.is_whole.ensures.whole) c.requires.few holds in
    row_tells c.args.self.now (record c.args.self.now { session = c.carry_out.new.self }) (λ s. s.plan.now) (λ s. s.session.stage) c.args.row.now refl told done (λ text. text.items) c.reply_to.result c.reply_to.ensures.reply

pub returns-clause-undone : goal.returns-clause-undone
returns-clause-undone g c =
    let session = c.args.self.now.session in
    let plan = c.args.self.now.plan.now in
    let later = c.carry_out.new.self.stage in
    let told = c.in_ok-told.told in
    let holds = same_setting (λ m k. IsRowTold m k plan.limits.budget session.stage c.args.row.now later told) session.net plan.net session.steps plan.limits.steps c.requires.net c.requires.time c.in_ok-told.ensures.told in
    let done = carried plan.net plan.limits.steps plan.limits.budget session.stage c.args.row.now later told c.is_built.ensures.network c.is_built.ensures.whole (subst IsLog c.log.ensures c.is_whole.ensures.whole) c.requires.few holds in
    row_untold c.args.self.now (record c.args.self.now { session = c.carry_out.new.self }) (λ s. s.plan.now) (λ s. s.session.stage) c.args.row.now refl told done c.reply_to.result c.reply_to.ensures.has_one
