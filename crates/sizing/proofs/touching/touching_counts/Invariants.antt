-- the events so far are counted
use Rattle.std.proofs.Common.{◌≡◌, ℕ}
use Rattle.std.specs.Prelude.{count_by, slice_index_or}
use Rattle.des_base.specs.Lists.{numbers_below}
use Rattle.des_net.specs.Network.{touches}
use Rattle.sizing.proofs.touching.touching_counts.Given as goal

abbrev pub invariant-loop-event : goal.invariant-loop-event
invariant-loop-event l = (c : ℕ) → slice_index_or l.counts c 0 ≡ count_by (λ e. touches l.net e c) (numbers_below l.event)
