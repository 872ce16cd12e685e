use Rattle.std.proofs.Common.{◌≡◌, ◌-◌, arith}
use Rattle.sat_prop.specs.declared.watch_lists.TheConstants.{NO_WATCH}
use Rattle.sat_prop.specs.Watches.{with_watched_clause}
use Rattle.sat_prop.proofs.Keeping.{Becomes}
use Rattle.sat_prop.proofs.Pairing.{first_end, pair_added, second_end}
use Rattle.sat_prop.proofs.watch_lists.WatchLists.add.Goals as goal

pub push_node-requires-clause-last : goal.push_node-requires-clause-last
push_node-requires-clause-last c =
    first_end c.self.inside c.args.self.now c.self.view_is c.self.invariant c.args.clause c.args.first c.args.second c.requires.room c.requires.first c.requires.second

pub push_node-requires-2-clause-last : goal.push_node-requires-2-clause-last
push_node-requires-2-clause-last c =
    second_end c.self.inside c.args.self.now c.self.view_is c.self.invariant c.args.clause c.args.first c.args.second c.requires.room c.requires.first c.requires.second
    c.push_node.new.nodes.items c.push_node.new.lists.items c.push_node.ensures.nodes c.push_node.ensures.lists

becomes : (c : goal.After-push_node-2) → Becomes (record c.self.inside { nodes = c.push_node-2.new.nodes; lists = c.push_node-2.new.lists; walk = record c.self.inside.walk { next = NO_WATCH }; spare = c.self.inside.spare - 1 }) (λ s. s ≡ with_watched_clause c.args.self.now c.args.clause c.args.first c.args.second)
becomes c =
    let one = c.push_node in
    let two = c.push_node-2 in
    pair_added c.self.inside c.args.self.now c.self.view_is c.self.invariant c.args.clause c.args.first c.args.second c.requires.room c.requires.first c.requires.second
    one.new.nodes.items one.new.lists.items one.ensures.nodes one.ensures.lists two.new.nodes two.new.lists two.ensures.nodes two.ensures.lists (let r = one.ensures.room in let q = two.ensures.room in omega arith)

pub invariant_of-self : goal.invariant_of-self
invariant_of-self c = (becomes c).kept

pub returns : goal.returns
returns c = (becomes c).state
