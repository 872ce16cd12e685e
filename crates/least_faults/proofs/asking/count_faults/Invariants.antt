-- the count is that of the entries so far
use Rattle.std.proofs.Common.{◌≡◌, ◌≤◌, count_by, take}
use Rattle.least_faults.proofs.asking.count_faults.Given as goal
use Rattle.least_faults.specs.Answers.{is_fault_entry}

abbrev pub invariant-loop-entry : goal.invariant-loop-entry
invariant-loop-entry l = record {
  count : l.faults ≡ count_by (is_fault_entry l.net) (take l.entry-index l.entries);
  few : l.faults ≤ l.entry-index;
}
