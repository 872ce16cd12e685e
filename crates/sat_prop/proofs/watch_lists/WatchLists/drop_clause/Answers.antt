use Rattle.std.proofs.Common.{◌≡◌}
use Rattle.sat_prop.specs.Watches.{without_clause}
use Rattle.sat_prop.proofs.Keeping.{Becomes}
use Rattle.sat_prop.proofs.Pairing.{pair_dropped, pair_of}
use Rattle.sat_prop.proofs.watch_lists.WatchLists.drop_clause.Goals as goal

pub clear_pair-requires : goal.clear_pair-requires
clear_pair-requires c =
    let p = pair_of c.self.inside c.args.self.now c.self.view_is c.self.invariant c.args.number c.requires.number c.requires.twin in
    record { few = p.few; number = p.number; twin = p.twin }

becomes : (c : goal.After-clear_pair) → Becomes (record c.self.inside { nodes = c.clear_pair.new.nodes }) (λ s. s ≡ record c.args.self.now { watches = without_clause c.args.self.now.watches c.args.number })
becomes c =
    let p = pair_of c.self.inside c.args.self.now c.self.view_is c.self.invariant c.args.number c.requires.number c.requires.twin in
    pair_dropped c.self.inside c.args.self.now c.self.view_is c.self.invariant c.args.number p c.clear_pair.new.nodes c.clear_pair.ensures.nodes c.clear_pair.ensures.room

pub invariant_of-self : goal.invariant_of-self
invariant_of-self c = (becomes c).kept

pub returns : goal.returns
returns c = (becomes c).state
