use Rattle.std.proofs.Common.{◌≤◌}
use Rattle.refinement.specs.Comparing.{FollowUpTo}
use Rattle.refinement.proofs.testing.first_other_of.Given as goal

abbrev pub invariant-loop-added : goal.invariant-loop-added
invariant-loop-added l = record {
  from : l.first ≤ l.added;
  follow : FollowUpTo l.added l.compared.fine.now l.compared.net.now;
}
