use Rattle.std.proofs.Common.{◌≡◌, ℕ, ◌<◌, ◌≤◌, length, get_or}
use Rattle.refinement.specs.Marking.{no_effect, with_others}
use Rattle.refinement.proofs.effect.mark_others.Given as goal

abbrev pub invariant-loop-action : goal.invariant-loop-action
invariant-loop-action l = record {
  long : length l.effects.items ≡ length l.fn.effects.items;
  done : (a : ℕ) → a < l.action → get_or l.effects.items a no_effect ≡ with_others l.fn.effects.items l.counts l.taking a;
  rest : (a : ℕ) → l.action ≤ a → get_or l.effects.items a no_effect ≡ get_or l.fn.effects.items a no_effect;
}
