use Rattle.sat_prop.specs.Watches.{PassesWatch}
use Rattle.sat_prop.proofs.Keeping.{Becomes}
use Rattle.sat_prop.proofs.Moving.{forgotten, walking}
use Rattle.sat_prop.proofs.watch_lists.WatchLists.forget.Goals as goal

pub unlink-self-inside-requires-clause-before : goal.unlink-self-inside-requires-clause-before
unlink-self-inside-requires-clause-before c = (walking c.self.inside c.args.self.now c.self.view_is c.self.invariant c.requires.waits).before

becomes : (c : goal.After-self-1) → Becomes (record c.self.inside { nodes = c.unlink-self-inside.new.nodes; lists = c.unlink-self-inside.new.lists; walk = record c.self.inside.walk { next = c.unlink-self-inside.result } }) (PassesWatch c.args.self.now)
becomes c =
    let w = walking c.self.inside c.args.self.now c.self.view_is c.self.invariant c.requires.waits in
    let left = c.unlink-self-inside in
    forgotten c.self.inside c.args.self.now w left.new.nodes left.new.lists left.result left.ensures.after left.ensures.nodes left.ensures.lists c.requires.dropped left.ensures.room

pub invariant_of-self : goal.invariant_of-self
invariant_of-self c = (becomes c).kept

pub returns : goal.returns
returns c = (becomes c).state
