use Rattle.std.proofs.Common.{◌≡◌, ◌++◌, ◌≤◌, drop, length}
use Rattle.log_encode.specs.Written.{ends_after}
use Rattle.log_encode.proofs.taken.ends_after.Given as goal

-- the ends so far, and those that come, are all ends
abbrev pub invariant-loop-end : goal.invariant-loop-end
invariant-loop-end l = (l.after.items ++ ends_after l.fn.vars l.link (drop l.end-index l.ends) (drop l.link l.takes) ≡ ends_after l.fn.vars 0 l.ends l.takes) × (l.link ≤ length l.takes)
