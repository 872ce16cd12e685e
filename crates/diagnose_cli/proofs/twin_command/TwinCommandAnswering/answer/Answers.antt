-- By the fault event that the word names, by the size of the question, and by what is answered.
use Rattle.std.proofs.Common.{◌∙◌, Some, sym, arith}
use Rattle.diagnose_cli.proofs.Limits.{by_large, by_within}
use Rattle.diagnose_cli.proofs.TwinAnswers.{closes_for, fault_left}
use Rattle.diagnose_cli.proofs.twin_command.TwinCommandAnswering.answer.Goals as goal

pub returns-then-size-gt-MOST_SIZE-clause-closes : goal.returns-then-size-gt-MOST_SIZE-clause-closes
returns-then-size-gt-MOST_SIZE-clause-closes c texts read _ =
    let limits = c.args.self.now in
    by_large _ _ _ (closes_for limits.steps limits.after limits.budget c.args.words.now c.args.book.now.entries texts c.args.files.now read (Some c.in-Some.fault) (sym c.in-Some.is ∙ c.named_fault.ensures.event))
    _ c.twin_size-size.ensures.size (omega (arith, c.if-size-gt-MOST_SIZE.true))

pub returns-clause-closes : goal.returns-clause-closes
returns-clause-closes c texts read _ =
    let limits = c.args.self.now in
    by_within _ _ _ (closes_for limits.steps limits.after limits.budget c.args.words.now c.reply_about.new.book.entries texts c.args.files.now read (Some c.in-Some.fault) (sym c.in-Some.is ∙ c.named_fault.ensures.event))
    _ c.twin_size-size.ensures.size (omega (arith, c.if-size-gt-MOST_SIZE.false)) _ c.in_ok-reply_about.ensures.says

pub returns-in_err-reply_about-clause-left : goal.returns-in_err-reply_about-clause-left
returns-in_err-reply_about-clause-left c texts read =
    let limits = c.args.self.now in
    fault_left limits.steps limits.after limits.budget c.args.words.now c.reply_about.new.book.entries texts c.args.files.now read c.in-Some.fault (sym c.in-Some.is ∙ c.named_fault.ensures.event) c.reply_about.ensures.left
