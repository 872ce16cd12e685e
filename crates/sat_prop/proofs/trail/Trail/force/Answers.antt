use Rattle.std.proofs.Common.{◌≡◌, ◌∙◌, ap, length, arith, Some}
use Rattle.std.proofs.lemmas.Grind.{common_steps}
use Rattle.sat_prop.proofs.Justifying.{state_forced}
use Rattle.sat_prop.proofs.Fitting.{may_force}
use Rattle.sat_prop.proofs.Placing.{places_more}
use Rattle.sat_prop.proofs.Values.{values_more}
use Rattle.sat_prop.proofs.Leveling.{levels_more, starts_forced, level_forced}
use Rattle.sat_prop.proofs.trail.Trail.force.Goals as goal

pub set-requires : goal.set-requires
set-requires c = rw c.var.ensures ((may_force c.self.inside c.args.self.now c.self.view_is c.self.invariant c.args.db.now.clauses c.args.lit c.args.id c.requires.grown c.requires.attached c.requires.forced).room.value)

pub set-requires-2 : goal.set-requires-2
set-requires-2 c = rw c.var-2.ensures ((may_force c.self.inside c.args.self.now c.self.view_is c.self.invariant c.args.db.now.clauses c.args.lit c.args.id c.requires.grown c.requires.attached c.requires.forced).room.known)

pub overflow_cast-len : goal.overflow_cast-len
overflow_cast-len c = omega (arith, c.len.ensures, (may_force c.self.inside c.args.self.now c.self.view_is c.self.invariant c.args.db.now.clauses c.args.lit c.args.id c.requires.grown c.requires.attached c.requires.forced).room.place)

pub append-requires : goal.append-requires
append-requires c = record { room = (may_force c.self.inside c.args.self.now c.self.view_is c.self.invariant c.args.db.now.clauses c.args.lit c.args.id c.requires.grown c.requires.attached c.requires.forced).room.literals }

pub append-requires-2 : goal.append-requires-2
append-requires-2 c = record { room = (may_force c.self.inside c.args.self.now c.self.view_is c.self.invariant c.args.db.now.clauses c.args.lit c.args.id c.requires.grown c.requires.attached c.requires.forced).room.reasons }

pub append-requires-3 : goal.append-requires-3
append-requires-3 c = record { room = (may_force c.self.inside c.args.self.now c.self.view_is c.self.invariant c.args.db.now.clauses c.args.lit c.args.id c.requires.grown c.requires.attached c.requires.forced).room.levels }

pub overflow_cast-len-2 : goal.overflow_cast-len-2
overflow_cast-len-2 c = omega (arith, c.len-2.ensures, (may_force c.self.inside c.args.self.now c.self.view_is c.self.invariant c.args.db.now.clauses c.args.lit c.args.id c.requires.grown c.requires.attached c.requires.forced).room.level)

pub invariant_of-self : goal.invariant_of-self
invariant_of-self c =
    let m = may_force c.self.inside c.args.self.now c.self.view_is c.self.invariant c.args.db.now.clauses c.args.lit c.args.id c.requires.grown c.requires.attached c.requires.forced in
    let f = m.forced in
    let at : c.len.result ≡ length c.self.inside.literals.items = let e = c.len.ensures in grind (arith, common_steps) in
    let n : length c.set-2.new.items.items ≡ length c.self.inside.places.items = ap length c.set-2.ensures ∙ (grind (arith, common_steps)) in
    record {
      state = rw (c.append.ensures.items, c.append-2.ensures.items, n) (state_forced _ c.args.lit c.args.id c.self.invariant.state f);
      places = rw (n, c.append.ensures.items, c.set-2.ensures, c.var-2.ensures, at) (places_more _ _ _ c.args.lit c.self.invariant.places f.open_now f.known);
      values = rw (n, c.append.ensures.items, c.set.ensures, c.var.ensures, c.is_positive.ensures) (values_more _ _ _ c.args.lit c.self.invariant.values f.open_now f.known);
      levels = rw (c.append-2.ensures.items, c.append-3.ensures.items) (levels_more _ _ (Some c.args.id) _ c.self.invariant.levels (let e = level_forced c.self.inside.reasons.items c.args.id in let a = c.self.invariant.starts.count in grind (arith, common_steps)));
      starts = rw c.append-2.ensures.items (starts_forced _ _ c.args.id c.self.invariant.starts);
      limit = let a = c.self.invariant.limit in grind (arith, common_steps);
      few = c.self.invariant.few;
      room_literals = let a = c.self.invariant.room_literals in let b = c.append.ensures.room in grind (arith, common_steps);
      room_reasons = let a = c.self.invariant.room_reasons in let b = c.append-2.ensures.room in grind (arith, common_steps);
      room_levels = let a = c.self.invariant.room_levels in let b = c.append-3.ensures.room in grind (arith, common_steps);
      room_starts = let a = c.self.invariant.room_starts in grind (arith, common_steps);
    }
