use Rattle.std.proofs.Common.{◌≡◌, ◌∙◌, ◌+◌, ◌++◌, ◌∷◌, [], ◌-◌, ap, length, arith, subst, sym}
use Rattle.std.proofs.lemmas.Grind.{common_steps}
use Rattle.sat_order.specs.declared.queue.RankRun.{RankRun}
use Rattle.sat_order.specs.Queue.{Lengthens}
use Rattle.sat_order.proofs.Queues.{Lengthens-same, Lengthens-other}
use Rattle.sat_order.proofs.queue.lengthen.Goals as goal

pub returns-then-index-rank-clause-runs : goal.returns-then-index-rank-clause-runs
returns-then-index-rank-clause-runs c =
    let n : c.len-count.result ≡ length c.args.runs.now.items = let e = c.len-count.ensures in grind (arith, common_steps) in
    let some = c.if-count-gt0.true in
    let same : c.index_mut.result.now ≡ c.index.result.now = let a = c.index.ensures in let b = c.index_mut.ensures.value in grind (arith, common_steps) in
    Lengthens-same c.args.rank c.args.var (c.len-count.result - 1) c.args.runs.now.items c.index_mut.result.now (omega arith) c.index_mut.ensures.value (ap (λ (run : RankRun). run.rank) same ∙ c.if-index-rank.true)

pub returns-else-count-gt0-clause-runs : goal.returns-else-count-gt0-clause-runs
returns-else-count-gt0-clause-runs c =
    let pushed : c.push.new.self.items ≡ c.args.runs.now.items ++ record { rank = c.args.rank; next = c.args.var; end = c.args.var + 1 } ∷ [] = let a = c.push.ensures.items in let o = c.unwrap.ensures in grind (arith, common_steps) in
    subst (Lengthens c.args.rank c.args.var c.args.runs.now.items) (sym pushed) (Lengthens-other c.args.rank c.args.var c.args.runs.now.items)
