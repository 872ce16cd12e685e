-- a list for each alarm so far
use Rattle.std.proofs.Common.{◌≡◌, length}
use Rattle.least_faults.proofs.deadlines.no_alarms.Given as goal

abbrev pub invariant-loop : goal.invariant-loop
invariant-loop l = length l.lists.items ≡ l.counter
