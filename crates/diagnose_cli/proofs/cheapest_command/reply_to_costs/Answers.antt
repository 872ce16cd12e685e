-- The events of the run are known.
use Rattle.cost_least.specs.Answers.{CostAsked}
use Rattle.pricing.specs.LeastCost.{fault_costs}
use Rattle.diagnose_cli.proofs.CheapAnswers.{cheap_known}
use Rattle.diagnose_cli.proofs.cheapest_command.reply_to_costs.Goals as goal

pub tell-requires-clause-known : goal.tell-requires-clause-known
tell-requires-clause-known c =
    let q : CostAsked = record { net = c.args.case.now.net; cost = fault_costs c.args.case.now.net c.args.table.now; log = c.args.case.now.log; steps = c.args.limits.steps } in
    let answered = c.in_ok-cheap.ensures.says.answered in
    cheap_known q _ answered.left.since c.args.limits.budget c.in_ok-cheap.cheap answered.found
