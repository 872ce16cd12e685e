use Rattle.std.proofs.Common.{◌≡◌, ◌+◌, ◌≤◌, ◌++◌, ◌∷◌, [], true, arith, sym, subst}
use Rattle.std.specs.Prelude.{vec_len}
use Rattle.std.proofs.lemmas.Grind.{common_steps}
use Rattle.sat_order.specs.Queue.{QueueState}
use Rattle.sat_order.proofs.Queues.{IsQueue-add}
use Rattle.sat_order.proofs.queue.Queue.add.Goals as goal

pub invariant_of-self : goal.invariant_of-self
invariant_of-self c =
    let ranks : c.push.new.self.items ≡ c.self.inside.ranks.items ++ c.args.rank ∷ [] = let a = c.push.ensures.items in let o = c.unwrap.ensures in grind (arith, common_steps) in
    let waiting : c.push-2.new.self.items ≡ c.self.inside.waiting.items ++ true ∷ [] = let a = c.push-2.ensures.items in let o = c.unwrap-2.ensures in grind (arith, common_steps) in
    let long : vec_len c.push.new.self ≡ vec_len c.self.inside.ranks + 1 = let a = c.push.ensures.len in let o = c.unwrap.ensures in grind (arith, common_steps) in
    let wide : vec_len c.push-2.new.self ≡ vec_len c.self.inside.waiting + 1 = let a = c.push-2.ensures.len in let o = c.unwrap-2.ensures in grind (arith, common_steps) in
    let some : 1 ≤ c.self.inside.spare = subst (λ (s : QueueState). 1 ≤ s.spare) (sym c.self.view_is) c.requires.room in
    record {
      queue = rw (ranks, waiting) (IsQueue-add c.self.inside.ranks.items c.self.inside.waiting.items c.self.inside.runs.items c.args.rank c.len-var.result _ c.self.invariant.queue (let e = c.len-var.ensures in grind (arith, common_steps)) c.lengthen.ensures.runs);
      ranks = let a = c.self.invariant.ranks in let b = c.push.ensures.capacity in omega arith;
      waiting = let a = c.self.invariant.waiting in let b = c.push-2.ensures.capacity in omega arith;
      runs = let a = c.self.invariant.runs in let b = c.lengthen.ensures.count in let d = c.lengthen.ensures.capacity in omega arith;
    }
