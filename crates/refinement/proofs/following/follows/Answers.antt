use Rattle.std.proofs.Common.{arith}
use Rattle.std.proofs.lemmas.Result.{IfOk-weaker}
use Rattle.refinement.proofs.Alike.{follows_some}
use Rattle.refinement.proofs.following.follows.Goals as goal

pub returns : goal.returns
returns c = IfOk-weaker c.moves_alike.result _ _ (λ yes alike e. follows_some _ _ _ _ _ c.requires.old (record {
  events = c.requires.compared.events;
  whole = c.states-else-follower-states.ensures.whole;
  two = grind arith;
  starts = c.if-not-starts_alike.ensures (grind arith);
  moves = alike e;
})) c.moves_alike.ensures
