use Rattle.std.proofs.Common.{◌≡◌, ◌<◌, ℕ}
use Rattle.std.specs.Prelude.{◌==◌}
use Rattle.refinement.specs.Refinement.{CanStart}
use Rattle.refinement.proofs.following.starts_so.Given as goal

abbrev pub invariant-loop-start : goal.invariant-loop-start
invariant-loop-start l = (q : ℕ) → q < l.start → (q == l.fn.state) ≡ l.inside → CanStart l.net l.comp q → ⊥
