use Rattle.std.proofs.Common.{arith}
use Rattle.sat_prop.specs.Watches.{PassesWatch}
use Rattle.sat_prop.proofs.Keeping.{Becomes}
use Rattle.sat_prop.proofs.Moving.{stayed, walking}
use Rattle.sat_prop.proofs.watch_lists.WatchLists.stay.Goals as goal

pub index-requires : goal.index-requires
index-requires c = omega (arith, (walking c.self.inside c.args.self.now c.self.view_is c.self.invariant c.requires).number, c.self.inside.nodes.ok.0)

becomes : (c : goal.After-self-2-1) → Becomes (record c.self.inside { walk = record { lit = c.self.inside.walk.lit; before = c.self.inside.walk.next; next = c.index.result.now.next } }) (PassesWatch c.args.self.now)
becomes c = stayed c.self.inside c.args.self.now (walking c.self.inside c.args.self.now c.self.view_is c.self.invariant c.requires) c.index.result.now c.index.ensures

pub invariant_of-self : goal.invariant_of-self
invariant_of-self c = (becomes c).kept

pub returns : goal.returns
returns c = (becomes c).state
