use Rattle.std.proofs.Common.{◌≡◌, map, take}
use Rattle.proof_text.specs.Refutation.{new_number}
use Rattle.proof_text.proofs.refuting.renumbered.Given as goal

-- the numbers so far are there
abbrev pub invariant-loop-hint : goal.invariant-loop-hint
invariant-loop-hint l = l.list ≡ map (new_number l.numbers) (take l.hint-index l.hints)
