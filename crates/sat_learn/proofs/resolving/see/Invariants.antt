use Rattle.std.specs.Prelude.{◌≡◌, ℕ, ◌+◌, ◌<◌, ◌||◌, length, take}
use Rattle.prop_core.specs.Trail.{has_var}
use Rattle.sat_prop.specs.TrailState.{literal_at}
use Rattle.sat_learn.specs.Seen.{is_seen, count_seen}
use Rattle.sat_learn.proofs.resolving.see.Given as goal

abbrev pub invariant-loop-lit : goal.invariant-loop-lit
invariant-loop-lit l = record {
  size : length l.seen ≡ length l.initial.seen;
  each : (place : ℕ) → place < length l.initial.seen → is_seen l.seen place ≡ (is_seen l.initial.seen place || has_var (literal_at l.trail.literals place).var (take l.lit-index l.clause));
  counted : count_seen l.start l.seen ≡ count_seen l.start l.initial.seen + l.more;
}
