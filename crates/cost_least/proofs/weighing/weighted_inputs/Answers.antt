use Rattle.cost_least.proofs.Pushed.{inputs_pushed}
use Rattle.cost_least.proofs.weighing.weighted_inputs.Goals as goal

pub returns : goal.returns
returns g c =
    inputs_pushed _ c.args.costs.now.cost c.args.net.now c.args.step.now c.args.code.now.coded c.grid.result c.new-inputs.result.items c.push_faults.new.into.items c.push_false.new.into.items c.false_lits.result.now
    c.requires.of_step c.grid.ensures.grid c.new-inputs.ensures.items c.in_ok-push_faults.ensures c.false_lits.ensures c.in_ok-push_false.ensures
