use Rattle.std.proofs.Common.{◌≡◌, ◌≤◌, ◌++◌, ◌∷◌, [], sym, subst, arith}
use Rattle.std.specs.Prelude.{IfSome}
use Rattle.std.proofs.lemmas.Grind.{common_steps}
use Rattle.prop_core.specs.Derivation.{clause_numbered}
use Rattle.sat_prop.specs.TrailState.{TrailState}
use Rattle.sat_prop.specs.Quiet.{JoinsQuietly}
use Rattle.sat_prop.specs.Changes.{IsFront}
use Rattle.prop_core.specs.Clauses.{HasValues}
use Rattle.sat_prop.proofs.Fronts.{known_from}
use Rattle.sat_prop.proofs.Justifying.{state_attach}
use Rattle.sat_prop.proofs.trail.Trail.attach.Goals as goal

pub invariant_of-self : goal.invariant_of-self
invariant_of-self c =
    let front = subst (λ (s : TrailState). IsFront s.clauses c.args.db.now.clauses) (sym c.self.view_is) c.requires.grown in
    let known = known_from c.args.db.now.clauses _ c.args.id c.requires.from_one c.requires.in_range (subst (λ (s : TrailState). IfSome (clause_numbered c.args.db.now.clauses c.args.id) (HasValues s.vars)) (sym c.self.view_is) c.requires.known) in
    let quiet = subst (λ (s : TrailState). JoinsQuietly s (clause_numbered c.args.db.now.clauses c.args.id)) (sym c.self.view_is) c.requires.quiet in
    let some = subst (λ (s : TrailState). 1 ≤ s.spare) (sym c.self.view_is) c.requires.room in
    record {
      state = rw (c.of.ensures, c.push.ensures) (state_attach _ c.args.db.now.clauses c.args.id c.self.invariant.state front known quiet);
      places = c.self.invariant.places;
      values = c.self.invariant.values;
      levels = c.self.invariant.levels;
      starts = c.self.invariant.starts;
      limit = c.self.invariant.limit;
      few = let some = c.self.invariant.few in omega (arith, some);
      room_literals = c.self.invariant.room_literals;
      room_reasons = c.self.invariant.room_reasons;
      room_levels = c.self.invariant.room_levels;
      room_starts = c.self.invariant.room_starts;
    }
