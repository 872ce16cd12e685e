-- By the size of the question, and what is answered.
use Rattle.std.proofs.Common.{arith}
use Rattle.diagnose_cli.proofs.CheapAnswers.{closes_priced, prices_left}
use Rattle.diagnose_cli.proofs.Limits.{by_large, by_within}
use Rattle.diagnose_cli.proofs.cheapest_command.CheapestCommandAnswering.answer.Goals as goal

pub returns-then-size-gt-MOST_SIZE-clause-closes : goal.returns-then-size-gt-MOST_SIZE-clause-closes
returns-then-size-gt-MOST_SIZE-clause-closes c texts read _ =
    by_large _ _ _ (closes_priced c.args.self.now.limits.steps c.args.self.now.limits.budget c.args._words.now c.args.book.now.entries c.args.files.now.case c.args.files.now.table texts read)
    _ c.cost_size-size.ensures.size (omega (arith, c.if-size-gt-MOST_SIZE.true))

pub returns-clause-closes : goal.returns-clause-closes
returns-clause-closes c texts read _ =
    by_within _ _ _ (closes_priced c.args.self.now.limits.steps c.args.self.now.limits.budget c.args._words.now c.reply_to_costs.new.book.entries c.args.files.now.case c.args.files.now.table texts read)
    _ c.cost_size-size.ensures.size (omega (arith, c.if-size-gt-MOST_SIZE.false)) _ c.in_ok-reply_to_costs.ensures.says

pub returns-in_err-reply_to_costs-clause-left : goal.returns-in_err-reply_to_costs-clause-left
returns-in_err-reply_to_costs-clause-left c texts read = prices_left c.args.self.now.limits.steps c.args.self.now.limits.budget c.args._words.now c.reply_to_costs.new.book.entries c.args.files.now.case c.args.files.now.table texts read c.reply_to_costs.ensures.left

pub returns-clause-left : goal.returns-clause-left
returns-clause-left c texts read = prices_left c.args.self.now.limits.steps c.args.self.now.limits.budget c.args._words.now c.reply_to_costs.new.book.entries c.args.files.now.case c.args.files.now.table texts read c.reply_to_costs.ensures.left
