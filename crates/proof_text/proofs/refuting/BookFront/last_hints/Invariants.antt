use Rattle.std.proofs.Common.{◌≡◌, ◌+◌, ◌-◌}
use Rattle.std.specs.List.{range_with_len}
use Rattle.proof_text.proofs.refuting.BookFront.last_hints.Given as goal

-- the numbers so far are there
abbrev pub invariant-loop-before : goal.invariant-loop-before
invariant-loop-before l = l.hints ≡ range_with_len (l.axioms + 1) (l.before - l.axioms)
