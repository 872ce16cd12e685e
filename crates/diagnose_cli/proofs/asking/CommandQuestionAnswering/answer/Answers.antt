-- By the size of the question, and what is answered.
use Rattle.std.proofs.Common.{arith}
use Rattle.diagnose_cli.proofs.Limits.{by_large, by_within}
use Rattle.diagnose_cli.proofs.Requested.{closes_asked}
use Rattle.diagnose_cli.proofs.asking.CommandQuestionAnswering.answer.Goals as goal

pub returns-then-size-gt-MOST_SIZE-clause-closes : goal.returns-then-size-gt-MOST_SIZE-clause-closes
returns-then-size-gt-MOST_SIZE-clause-closes g c texts read _ =
    by_large _ _ _ (closes_asked g.Q.Replying.question c.args.self.now.steps (g.Q.Replying.word c.args.self.now.inquiry) c.args._words.now c.args.book.now.entries texts c.args.files.now.net c.args.files.now.log read)
    _ c.question_size-size.ensures.size (omega (arith, c.if-size-gt-MOST_SIZE.true))

pub returns-clause-closes : goal.returns-clause-closes
returns-clause-closes g c texts read _ =
    by_within _ _ _ (closes_asked g.Q.Replying.question c.args.self.now.steps (g.Q.Replying.word c.args.self.now.inquiry) c.args._words.now c.ask_by.new.book.entries texts c.args.files.now.net c.args.files.now.log read)
    _ c.question_size-size.ensures.size (omega (arith, c.if-size-gt-MOST_SIZE.false)) _ c.in_ok-ask_by.ensures.replies
