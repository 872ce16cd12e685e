-- The order in which variables are suggested.
use Rattle.std.proofs.Common.{◌≡◌, ℕ, Bool, true, false, not, arith}
use Rattle.std.specs.Prelude.{nat_lt, ◌==◌, if◌then◌else◌, slice_index}
use Rattle.std.proofs.lemmas.Bool.Decides.{nat_tests}
use Rattle.sat_solve.specs.Heap.{VariablesAreOrdered}

-- by an activity, a rank and a number each
abbrev by_rating : ℕ → ℕ → ℕ → ℕ → ℕ → ℕ → Bool
by_rating a r v b s w = if a == b then (if r == s then nat_lt v w else nat_lt s r) else nat_lt b a

never : (a r v : ℕ) → by_rating a r v a r v ≡ false
never a r v = grind (arith, nat_tests)

one_of : (a r v b s w : ℕ) → (v ≡ w → ⊥) → by_rating b s w a r v ≡ not (by_rating a r v b s w)
one_of a r v b s w d = grind (arith, nat_tests)

onward : (a r v b s w c t x : ℕ) → by_rating a r v b s w ≡ true → by_rating b s w c t x ≡ true → by_rating a r v c t x ≡ true
onward a r v b s w c t x e f = grind (arith, nat_tests)

pub variables_are_ordered : VariablesAreOrdered
variables_are_ordered activities ranks = record {
  never_itself = λ v. never (slice_index activities v) (slice_index ranks v) v;
  just_one = λ v w. one_of (slice_index activities v) (slice_index ranks v) v (slice_index activities w) (slice_index ranks w) w;
  onward = λ v w x. onward (slice_index activities v) (slice_index ranks v) v (slice_index activities w) (slice_index ranks w) w (slice_index activities x) (slice_index ranks x) x;
}
