use Rattle.std.proofs.Common.{◌≡◌, ◌++◌, take}
use Rattle.proof_text.specs.PrintedText.{literals_text}
use Rattle.proof_text.proofs.print.push_literals.Given as goal

-- the literals so far are printed
abbrev pub invariant-loop-lit : goal.invariant-loop-lit
invariant-loop-lit l = l.out.items ≡ l.fn.out.items ++ literals_text (take l.lit-index l.clause)
