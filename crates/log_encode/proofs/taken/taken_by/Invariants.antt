use Rattle.std.proofs.Common.{◌≡◌, ◌++◌, drop}
use Rattle.log_encode.specs.Written.{taken_from}
use Rattle.log_encode.proofs.taken.taken_by.Given as goal

-- what is taken, and what comes, are all that are taken
abbrev pub invariant-loop-end : goal.invariant-loop-end
invariant-loop-end l = l.takes.items ++ taken_from l.net l.labels (drop l.end-index l.ends) ≡ taken_from l.net l.labels l.ends
