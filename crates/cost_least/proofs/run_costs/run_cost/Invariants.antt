-- the cost is that of the entries so far
use Rattle.std.proofs.Common.{◌≡◌, ◌≤◌, ◌*◌, ℕ, sum_by, take}
use Rattle.event_costs.specs.StoredCosts.{GivesCosts}
use Rattle.cost_least.specs.Entries.{entry_cost}
use Rattle.cost_least.proofs.run_costs.run_cost.Given as goal

abbrev pub invariant-loop-entry : goal.invariant-loop-entry
invariant-loop-entry g l = record {
  cost : (cost : ℕ → ℕ) → GivesCosts (goal.C-post g) l.costs.cost l.net cost → l.cost ≡ sum_by (entry_cost l.net cost) (take l.entry-index l.entries);
  few : l.cost ≤ 1000 * l.entry-index;
}
