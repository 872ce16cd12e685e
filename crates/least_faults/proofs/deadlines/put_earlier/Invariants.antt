-- there are as many lists as before
use Rattle.std.proofs.Common.{◌≡◌, length}
use Rattle.least_faults.proofs.deadlines.put_earlier.Given as goal

abbrev pub invariant-loop-first : goal.invariant-loop-first
invariant-loop-first l = length l.earlier.items ≡ length l.fn.earlier.items
