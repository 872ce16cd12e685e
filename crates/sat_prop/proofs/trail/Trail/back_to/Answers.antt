use Rattle.std.proofs.Common.{◌≤◌, sym, List, length, subst, take, arith}
use Rattle.std.proofs.lemmas.Grind.{common_steps}
use Rattle.prop_core.specs.declared.lit.Lit.{Lit}
use Rattle.sat_prop.specs.TrailState.{TrailState}
use Rattle.sat_prop.specs.Kept.{AreValues}
use Rattle.sat_prop.specs.Levels.{level_of, IsUpToLevel}
use Rattle.sat_prop.proofs.Justifying.{state_take}
use Rattle.sat_prop.proofs.Placing.{places_take}
use Rattle.sat_prop.proofs.Values.{values_known, values_roomier}
use Rattle.sat_prop.proofs.Leveling.{levels_take, starts_take}
use Rattle.sat_prop.proofs.trail.Trail.back_to.Goals as goal

pub forget-requires-clause-kept : goal.forget-requires-clause-kept
forget-requires-clause-kept c =
    let cut = subst (λ (s : TrailState). IsUpToLevel s.reasons c.args.level c.count_up_to-kept.result) (sym c.self.view_is) c.count_up_to-kept.ensures in
    let w = cut.within in
    let same = c.self.invariant.state.justified.same in
    grind (arith, common_steps)

pub forget-requires-clause-known : goal.forget-requires-clause-known
forget-requires-clause-known c = let d = c.deref.ensures.value in rw d (values_known _ _ _ c.self.invariant.state.justified.known c.self.invariant.values)

pub forget-requires-clause-values : goal.forget-requires-clause-values
forget-requires-clause-values c = let d = c.deref.ensures.value in rw d (values_roomier _ _ _ _ c.self.invariant.values (omega arith))

pub invariant_of-self : goal.invariant_of-self
invariant_of-self c =
    let cut = subst (λ (s : TrailState). IsUpToLevel s.reasons c.args.level c.count_up_to-kept.result) (sym c.self.view_is) c.count_up_to-kept.ensures in
    let level = subst (λ (s : TrailState). c.args.level ≤ level_of s.reasons) (sym c.self.view_is) c.requires in
    let l = c.truncate.ensures.items in
    let r = c.truncate-2.ensures.items in
    record {
      state = rw (l, r) (state_take _ c.count_up_to-kept.result c.self.invariant.state cut.within);
      places = rw l (places_take _ c.count_up_to-kept.result _ _ c.self.invariant.places);
      values =
          let d = c.deref.ensures.value in
          let v = subst (λ (ls : List Lit). AreValues (length c.self.inside.values.items) (take c.count_up_to-kept.result ls) c.forget.new.values.items) d c.forget.ensures in
          let a = c.self.invariant.values.enough in
          let b = v.enough in
          rw l (values_roomier _ (length c.self.inside.places.items) _ _ v (omega arith));
      levels = rw (r, c.truncate-3.ensures.items) (levels_take _ _ c.count_up_to-kept.result c.self.invariant.levels);
      starts = rw (r, c.truncate-4.ensures.items) (starts_take _ _ c.args.level c.count_up_to-kept.result c.self.invariant.starts cut level);
      limit = c.self.invariant.limit;
      few = c.self.invariant.few;
      room_literals = let a = c.self.invariant.room_literals in let b = c.truncate.ensures.capacity in omega arith;
      room_reasons = let a = c.self.invariant.room_reasons in let b = c.truncate-2.ensures.capacity in omega arith;
      room_levels = let a = c.self.invariant.room_levels in let b = c.truncate-3.ensures.capacity in omega arith;
      room_starts = let a = c.self.invariant.room_starts in let b = c.truncate-4.ensures.capacity in omega arith;
    }
