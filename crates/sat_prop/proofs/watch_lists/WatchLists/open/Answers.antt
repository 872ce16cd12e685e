use Rattle.std.proofs.Common.{◌∙◌, List, ap}
use Rattle.sat_prop.specs.declared.watch_lists.Ends.{Ends}
use Rattle.sat_prop.specs.declared.watch_lists.Lists.{Lists}
use Rattle.sat_prop.specs.declared.watch_lists.TheConstants.{NO_WATCH}
use Rattle.sat_prop.specs.Watches.{IsOpened, ends_of}
use Rattle.sat_prop.proofs.Keeping.{Becomes}
use Rattle.sat_prop.proofs.Moving.{opened}
use Rattle.sat_prop.proofs.watch_lists.WatchLists.open.Goals as goal

becomes : (c : goal.After-self-1) → Becomes (record c.self.inside { walk = record { lit = c.args.lit; before = NO_WATCH; next = c.ends_at.result.first } }) (λ s. IsOpened c.args.self.now s c.args.lit)
becomes c = opened c.self.inside c.args.self.now c.self.view_is c.self.invariant c.args.lit c.requires c.ends_at.result.first
    (ap (λ (e : Ends). e.first) (c.ends_at.ensures ∙ ap (λ (ls : List Lists). ends_of ls c.args.lit) c.as_slice.ensures.value))

pub invariant_of-self : goal.invariant_of-self
invariant_of-self c = (becomes c).kept

pub returns : goal.returns
returns c = (becomes c).state
