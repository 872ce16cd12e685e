use Rattle.std.proofs.Common.{◌≡◌, ◌∙◌, ◌+◌, ◌++◌, ◌∷◌, [], sym, subst, ap, length, arith, None}
use Rattle.std.specs.Prelude.{vec_len}
use Rattle.std.proofs.lemmas.Grind.{common_steps}
use Rattle.sat_prop.specs.TrailState.{TrailState}
use Rattle.sat_prop.specs.Quiet.{AreQuiet}
use Rattle.sat_prop.specs.Levels.{level_of}
use Rattle.sat_prop.proofs.Justifying.{state_decided}
use Rattle.sat_prop.proofs.Fitting.{may_decide}
use Rattle.sat_prop.proofs.Placing.{places_more}
use Rattle.sat_prop.proofs.Values.{values_more}
use Rattle.sat_prop.proofs.Leveling.{levels_more, starts_decided, level_decided}
use Rattle.sat_prop.proofs.trail.Trail.decide.Goals as goal

pub overflow_cast-len : goal.overflow_cast-len
overflow_cast-len c = omega (arith, c.len.ensures, (may_decide c.self.inside c.args.self.now c.self.view_is c.self.invariant c.args.lit c.requires.known c.requires.undecided).place)

pub unwrap-requires : goal.unwrap-requires
unwrap-requires c = let r = (may_decide c.self.inside c.args.self.now c.self.view_is c.self.invariant c.args.lit c.requires.known c.requires.undecided).starts in grind (arith, common_steps)

pub overflow_cast-len-2 : goal.overflow_cast-len-2
overflow_cast-len-2 c = omega (arith, c.len-2.ensures, (may_decide c.self.inside c.args.self.now c.self.view_is c.self.invariant c.args.lit c.requires.known c.requires.undecided).place)

pub append-requires : goal.append-requires
append-requires c = record { room = (may_decide c.self.inside c.args.self.now c.self.view_is c.self.invariant c.args.lit c.requires.known c.requires.undecided).literals }

pub append-requires-2 : goal.append-requires-2
append-requires-2 c = record { room = (may_decide c.self.inside c.args.self.now c.self.view_is c.self.invariant c.args.lit c.requires.known c.requires.undecided).reasons }

pub append-requires-3 : goal.append-requires-3
append-requires-3 c = record { room = (may_decide c.self.inside c.args.self.now c.self.view_is c.self.invariant c.args.lit c.requires.known c.requires.undecided).levels }

pub overflow_cast-len-3 : goal.overflow_cast-len-3
overflow_cast-len-3 c = let r = (may_decide c.self.inside c.args.self.now c.self.view_is c.self.invariant c.args.lit c.requires.known c.requires.undecided).level in grind (arith, common_steps)

pub invariant_of-self : goal.invariant_of-self
invariant_of-self c =
    let r = may_decide c.self.inside c.args.self.now c.self.view_is c.self.invariant c.args.lit c.requires.known c.requires.undecided in
    let q = subst (λ (s : TrailState). AreQuiet s.clauses s.attached s.literals) (sym c.self.view_is) c.requires.quiet in
    let at : c.len-2.result ≡ length c.self.inside.literals.items = let e = c.len-2.ensures in grind (arith, common_steps) in
    let n : length c.set-2.new.items.items ≡ length c.self.inside.places.items = ap length c.set-2.ensures ∙ (grind (arith, common_steps)) in
    let begun : c.push.new.self.items ≡ c.self.inside.starts.items ++ length c.self.inside.reasons.items ∷ [] = let e = c.push.ensures.items in let u = c.unwrap.ensures in let s = c.self.invariant.state.justified.same in grind (arith, common_steps) in
    let level : vec_len c.push.new.self ≡ level_of c.self.inside.reasons.items + 1 = let e = c.self.invariant.starts.count in grind (arith, common_steps) in
    record {
      state = rw (c.append.ensures.items, c.append-2.ensures.items, n) (state_decided _ c.args.lit c.self.invariant.state r.undecided r.known q);
      places = rw (n, c.append.ensures.items, c.set-2.ensures, c.var-2.ensures, at) (places_more _ _ _ c.args.lit c.self.invariant.places r.undecided r.known);
      values = rw (n, c.append.ensures.items, c.set.ensures, c.var.ensures, c.is_positive.ensures) (values_more _ _ _ c.args.lit c.self.invariant.values r.undecided r.known);
      levels = rw (c.append-2.ensures.items, c.append-3.ensures.items) (levels_more _ _ None _ c.self.invariant.levels (let e = level_decided c.self.inside.reasons.items in grind (arith, common_steps)));
      starts = rw (c.append-2.ensures.items, begun) (starts_decided _ _ c.self.invariant.starts);
      limit = let a = c.self.invariant.limit in grind (arith, common_steps);
      few = c.self.invariant.few;
      room_literals = let a = c.self.invariant.room_literals in let b = c.append.ensures.room in grind (arith, common_steps);
      room_reasons = let a = c.self.invariant.room_reasons in let b = c.append-2.ensures.room in grind (arith, common_steps);
      room_levels = let a = c.self.invariant.room_levels in let b = c.append-3.ensures.room in grind (arith, common_steps);
      room_starts = let a = c.self.invariant.room_starts in let b = c.push.ensures.capacity in grind (arith, common_steps);
    }
