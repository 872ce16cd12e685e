use Rattle.std.proofs.Common.{◌≤◌, ◌+◌, ◌-◌, length, vec_len}
use Rattle.std.specs.Io.KnownBytes.{Consumes}
use Rattle.devices.proofs.disk_shelf.read_front.Given as goal

-- no more than the limit and one were read, and these bytes the reader gave
abbrev pub invariant-loop-buf : goal.invariant-loop-buf
invariant-loop-buf g l = (length l.into.items ≤ l.limit + 1) × Consumes (g.R.Read.remaining l.fn.file) (g.R.Read.remaining l.file) l.into.items

abbrev pub decreases-loop-buf : goal.decreases-loop-buf
decreases-loop-buf g l = l.most - vec_len l.into
