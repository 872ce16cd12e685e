use Rattle.std.proofs.Common.{◌≤◌, length}
use Rattle.refinement.specs.Comparing.{FollowUpTo}
use Rattle.refinement.proofs.testing.first_other.Given as goal

abbrev pub invariant-loop-comp : goal.invariant-loop-comp
invariant-loop-comp l = record {
  from : length l.compared.net.now.components ≤ l.next;
  to : l.next ≤ length l.compared.fine.now.components;
  follow : FollowUpTo l.next l.compared.fine.now l.compared.net.now;
}
