use Rattle.std.proofs.Common.{◌∙◌}
use Rattle.sat_prop.specs.Watches.{MovesWatch}
use Rattle.sat_prop.proofs.Keeping.{Becomes}
use Rattle.sat_prop.proofs.Moving.{IsWalking, last_left, moved, number_left, walking}
use Rattle.sat_prop.proofs.watch_lists.WatchLists.put.Goals as goal

walks : (c : goal.After-unlink-arg-3-1) → IsWalking c.self.inside c.args.self.now
walks c = walking c.self.inside c.args.self.now c.self.view_is c.self.invariant c.requires.waits

pub unlink-self-inside-requires-clause-next : goal.unlink-self-inside-requires-clause-next
unlink-self-inside-requires-clause-next c = (walks c).number

pub unlink-self-inside-requires-clause-before : goal.unlink-self-inside-requires-clause-before
unlink-self-inside-requires-clause-before c = (walks c).before

pub turn-requires-clause-number : goal.turn-requires-clause-number
turn-requires-clause-number c =
    let w = walking c.self.inside c.args.self.now c.self.view_is c.self.invariant c.requires.waits in
    let left = c.unlink-self-inside in
    number_left c.self.inside c.args.self.now w left.new.nodes left.new.lists left.result left.ensures.after left.ensures.nodes left.ensures.lists

pub append-requires-clause-last : goal.append-requires-clause-last
append-requires-clause-last c =
    let w = walking c.self.inside c.args.self.now c.self.view_is c.self.invariant c.requires.waits in
    let left = c.unlink-self-inside in
    last_left c.self.inside c.args.self.now w left.new.nodes left.new.lists left.result left.ensures.after left.ensures.nodes left.ensures.lists
    c.args.lit c.requires.known c.requires.other c.turn.new.nodes.items c.turn.ensures.nodes

becomes : (c : goal.After-append) → Becomes (record c.self.inside { nodes = c.append.new.nodes; lists = c.append.new.lists; walk = record c.self.inside.walk { next = c.unlink-self-inside.result } }) (λ s. MovesWatch c.args.self.now s c.args.lit)
becomes c =
    let w = walking c.self.inside c.args.self.now c.self.view_is c.self.invariant c.requires.waits in
    let left = c.unlink-self-inside in
    moved c.self.inside c.args.self.now w left.new.nodes left.new.lists left.result left.ensures.after left.ensures.nodes left.ensures.lists
    c.args.lit c.requires.known c.requires.other c.turn.new.nodes.items c.turn.ensures.nodes
    c.append.new.nodes c.append.new.lists c.append.ensures.nodes c.append.ensures.lists (c.append.ensures.room ∙ c.turn.ensures.room ∙ left.ensures.room)

pub invariant_of-self : goal.invariant_of-self
invariant_of-self c = (becomes c).kept

pub returns : goal.returns
returns c = (becomes c).state
