use Rattle.std.proofs.Common.{◌≡◌, ◌≤◌, ◌-◌, ℕ, List, Option, length, take}
use Rattle.devices.proofs.Taking.{IsFollowed}
use Rattle.devices.proofs.out_sink.OutSinkSink.put.Given as goal

-- the count has not changed, no more was done than there is, and that front was taken
pub record Going (before now : ℕ) (held holds : Option (List ℕ)) (done : ℕ) (piece : List ℕ) : Type 0 where
  pub same : now ≡ before
  pub within : done ≤ length piece
  pub taken : IsFollowed held holds (take done piece)

abbrev pub invariant-loop-done : goal.invariant-loop-done
invariant-loop-done g l = Going l.fn.self.faults l.self.faults (g.W.Write.contents l.fn.self.to) (g.W.Write.contents l.self.to) l.done l.piece

abbrev pub decreases-loop-done : goal.decreases-loop-done
decreases-loop-done g l = length l.piece - l.done
