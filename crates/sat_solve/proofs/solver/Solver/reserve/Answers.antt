use Rattle.std.proofs.Common.{◌≡◌, ◌∙◌, ◌-◌, ◌≤◌, sym, ap, length, arith}
use Rattle.sat_prop.specs.TrailState.{TrailState}
use Rattle.sat_solve.proofs.WaitingVariables.{wider_room, wider_vars, wider_both, rest_wider, rest_more, room_given, vars_given, longer_with}
use Rattle.std.proofs.Math.Nat.{max-le, le-max_right}
use Rattle.sat_solve.proofs.solver.Solver.reserve.Goals as goal

pub invariant_of-self-in_err-grow : goal.invariant_of-self-in_err-grow
invariant_of-self-in_err-grow g c =
    let same = c.in_err-grow.ensures.err ∙ c.in_ok-reserve_clauses.ensures.ok in
    record {
      rest = rest_wider c.self.inside.search.order.waiting c.self.inside.search.propagator c.grow.new.self c.self.inside.assignment c.self.inside.assignment c.self.inside.search.vars c.self.inside.search.spare c.self.invariant.rest (wider_room c.self.inside.search.propagator c.grow.new.self c.max.result same) (omega arith);
      adopted = c.self.invariant.adopted ∙ ap length (sym (ap (λ (t : TrailState). t.clauses) same));
    }

pub invariant_of-self-in_err-grow-2 : goal.invariant_of-self-in_err-grow-2
invariant_of-self-in_err-grow-2 g c =
    let room = wider_room c.self.inside.search.propagator c.reserve_clauses.new.self c.max.result c.in_ok-reserve_clauses.ensures.ok in
    let wide = wider_both c.self.inside.search.propagator c.reserve_clauses.new.self c.grow.new.self room (wider_vars c.reserve_clauses.new.self c.grow.new.self c.args.vars c.in_ok-grow.ensures.ok) in
    record {
      rest = rest_wider c.self.inside.search.order.waiting c.self.inside.search.propagator c.grow.new.self c.self.inside.assignment c.self.inside.assignment c.self.inside.search.vars c.self.inside.search.spare c.self.invariant.rest wide (omega arith);
      adopted = c.self.invariant.adopted ∙ ap length (sym wide.clauses);
    }

pub invariant_of-self-in_err-grow-3 : goal.invariant_of-self-in_err-grow-3
invariant_of-self-in_err-grow-3 g c =
    let room = wider_room c.self.inside.search.propagator c.reserve_clauses.new.self c.max.result c.in_ok-reserve_clauses.ensures.ok in
    let wide = wider_both c.self.inside.search.propagator c.reserve_clauses.new.self c.grow.new.self room (wider_vars c.reserve_clauses.new.self c.grow.new.self c.args.vars c.in_ok-grow.ensures.ok) in
    let e = ap length c.in_err-grow-3.ensures.err in
    record {
      rest = rest_wider c.self.inside.search.order.waiting c.self.inside.search.propagator c.grow.new.self c.self.inside.assignment c.grow-3.new.self c.self.inside.search.vars c.self.inside.search.spare c.self.invariant.rest wide (omega arith);
      adopted = c.self.invariant.adopted ∙ ap length (sym wide.clauses);
    }

pub invariant_of-self-in_err-grow-4 : goal.invariant_of-self-in_err-grow-4
invariant_of-self-in_err-grow-4 g c =
    let room = wider_room c.self.inside.search.propagator c.reserve_clauses.new.self c.max.result c.in_ok-reserve_clauses.ensures.ok in
    let wide = wider_both c.self.inside.search.propagator c.reserve_clauses.new.self c.grow.new.self room (wider_vars c.reserve_clauses.new.self c.grow.new.self c.args.vars c.in_ok-grow.ensures.ok) in
    let e = longer_with c.self.inside.assignment c.grow-3.new.self (c.args.vars - length c.self.inside.assignment) c.in_ok-grow-3.ensures.ok in
    record {
      rest = rw c.in_err-grow-4.ensures.err (rest_wider c.self.inside.search.order.waiting c.self.inside.search.propagator c.grow.new.self c.self.inside.assignment c.grow-3.new.self c.self.inside.search.vars c.self.inside.search.spare c.self.invariant.rest wide (omega arith));
      adopted = c.self.invariant.adopted ∙ ap length (sym wide.clauses);
    }

pub invariant_of-self-2 : goal.invariant_of-self-2
invariant_of-self-2 g c =
    let room = wider_room c.self.inside.search.propagator c.reserve_clauses.new.self c.max.result c.in_ok-reserve_clauses.ensures.ok in
    let wide = wider_both c.self.inside.search.propagator c.reserve_clauses.new.self c.grow.new.self room (wider_vars c.reserve_clauses.new.self c.grow.new.self c.args.vars c.in_ok-grow.ensures.ok) in
    let e = longer_with c.self.inside.assignment c.grow-3.new.self (c.args.vars - length c.self.inside.assignment) c.in_ok-grow-3.ensures.ok in
    let kept = c.self.invariant.rest.values_kept in
    let given = room_given c.self.inside.search.propagator c.reserve_clauses.new.self c.max.result c.in_ok-reserve_clauses.ensures.ok in
    let same : c.grow.new.self.spare ≡ c.reserve_clauses.new.self.spare = ap (λ (t : TrailState). t.spare) c.in_ok-grow.ensures.ok in
    let enough : c.args.clauses ≤ c.max.result = rw c.max.ensures (le-max_right c.self.inside.search.spare c.args.clauses) in
    record {
      rest = rw (c.in_ok-grow-4.ensures.waiting, c.max-self-inside.ensures, c.max-self-inside-2.ensures) (rest_more c.self.inside.search.order.waiting c.self.inside.search.propagator c.grow.new.self c.self.inside.assignment c.grow-3.new.self c.self.inside.search.vars c.self.inside.search.spare c.args.vars c.args.clauses c.self.invariant.rest wide c.requires.limit
          (vars_given c.reserve_clauses.new.self c.grow.new.self c.args.vars c.in_ok-grow.ensures.ok) (omega arith) (max-le (omega arith) (omega arith)));
      adopted = c.self.invariant.adopted ∙ ap length (sym wide.clauses);
    }
