use Rattle.std.proofs.Common.{◌≡◌, ap, refl, arith}
use Rattle.std.proofs.lemmas.Grind.{common_steps}
use Rattle.sat_prop.specs.declared.watch_lists.Node.{Node}
use Rattle.sat_prop.specs.declared.watch_lists.TheConstants.{NO_CLAUSE}
use Rattle.sat_prop.specs.Watches.{node_at}
use Rattle.sat_prop.proofs.watch_lists.clear.Goals as goal

abbrev without : Node → Node
without n = record n { clause = NO_CLAUSE }

pub returns-clause-nodes : goal.returns-clause-nodes
returns-clause-nodes c =
    let w = c.requires in
    let here : c.index_mut.result.now ≡ node_at c.args.nodes.now.items c.args.number = let e = c.index_mut.ensures.value in grind (arith, common_steps) in
    rw (ap without here) refl
