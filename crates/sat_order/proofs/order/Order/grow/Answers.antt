use Rattle.std.proofs.Common.{◌<◌, arith}
use Rattle.std.proofs.lemmas.Grind.{common_steps}
use Rattle.sat_order.proofs.Ranks.{IsRanked-more, waiting_more}
use Rattle.sat_order.proofs.order.Order.grow.Goals as goal

pub loop-var-preserved : goal.loop-var-preserved
loop-var-preserved g c =
    let i = c.loop-var.invariant in
    let ranks = c.add.ensures.ranks in
    let waiting = c.add.ensures.waiting in
    let below : c.loop-var.var < c.args.vars = c.loop-var-test.true in
    record {
      rank = i.rank;
      same = let a = i.same in rw (ranks, waiting) (grind (arith, common_steps));
      ranked = λ before. rw (ranks, waiting) (IsRanked-more _ _ c.loop-var.self-inside.rank _ _ c.call-rank.result (i.ranked before) (let a = i.count in let b = c.requires.limit in omega arith)
          (rw i.count c.call-rank.ensures));
      count = let a = i.count in grind (arith, common_steps);
      upto = omega arith;
      long = let a = i.long in omega arith;
      waiting = waiting_more _ _ _ c.loop-var.var i.waiting waiting i.long;
      room = let a = i.room in let b = c.add.ensures.spare in omega arith;
    }
