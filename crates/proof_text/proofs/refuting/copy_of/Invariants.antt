use Rattle.std.proofs.Common.{◌≡◌, take}
use Rattle.proof_text.proofs.refuting.copy_of.Given as goal

-- the literals so far are copied
abbrev pub invariant-loop-lit : goal.invariant-loop-lit
invariant-loop-lit l = l.copy ≡ take l.lit-index l.clause
