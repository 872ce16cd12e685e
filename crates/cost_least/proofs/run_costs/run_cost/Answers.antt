use Rattle.std.proofs.Common.{arith, sym, ap, ◌∙◌, take_all, sum_by}
use Rattle.replay.proofs.RunLemmas.{event_known}
use Rattle.cost_least.proofs.EntrySums.{sum_next}
use Rattle.cost_least.specs.Entries.{entry_cost}
use Rattle.cost_least.proofs.run_costs.run_cost.Goals as goal

pub entry_cost-cost-requires-clause-known : goal.entry_cost-cost-requires-clause-known
entry_cost-cost-requires-clause-known g c = event_known c.args.entries.now _ _ _ (omega arith) c.entry-item.is c.requires.known

pub loop-entry-preserved : goal.loop-entry-preserved
loop-entry-preserved g c = record {
  cost = λ cost answered. sum_next (entry_cost c.args.net.now cost) c.args.entries.now c.loop-entry.entry-index _ c.loop-entry.cost c.entry_cost-cost.result (omega arith) (sym c.entry-item.is) (c.loop-entry.invariant.cost cost answered) (c.entry_cost-cost.ensures.cost cost answered);
  few = omega (arith, c.loop-entry.invariant.few, c.entry_cost-cost.ensures.few);
}

pub returns : goal.returns
returns g c = λ cost answered. c.loop-entry.invariant.cost cost answered ∙ ap (sum_by (entry_cost c.args.net.now cost)) (take_all c.loop-entry.entry-index c.args.entries.now (let end = c.loop-entry-test.false in omega (arith, end)))
