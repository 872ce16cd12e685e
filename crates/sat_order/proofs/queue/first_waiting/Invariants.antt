use Rattle.std.specs.Prelude.{◌≡◌, ℕ, ◌≤◌, ◌<◌, ◌-◌, false}
use Rattle.sat_order.specs.Waiting.{waits}
use Rattle.sat_order.proofs.queue.first_waiting.Given as goal

abbrev pub invariant-on : goal.invariant-on
invariant-on l = record {
  from : l.next ≤ l.var;
  upto : l.next ≤ l.end → l.var ≤ l.end;
  passed : (other : ℕ) → l.next ≤ other → other < l.var → waits l.waiting other ≡ false;
}

abbrev pub decreases-on : goal.decreases-on
decreases-on l = l.end - l.var
