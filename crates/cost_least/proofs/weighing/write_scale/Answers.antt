use Rattle.std.proofs.Common.{ap, arith, refl, subst, sym, ◌∙◌}
use Rattle.sat_solve.proofs.Freshness.{known_after}
use Rattle.prop_core.specs.ClauseStore.{ClauseStore}
use Rattle.sat_order.specs.Rank.{IsRanked}
use Rattle.sat_solve.specs.Solving.{SolverState}
use Rattle.cost_least.proofs.Weighed.{parts_weighed, adds_pushed}
use Rattle.cost_least.proofs.Writing.{are_written, adoptable}
use Rattle.cost_least.proofs.weighing.write_scale.Goals as goal

pub push_axioms-requires-clause-clauses : goal.push_axioms-requires-clause-clauses
push_axioms-requires-clause-clauses g c =
    let written = are_written c.args.inputs.now _ _ _ _ _ _ c.in_ok-scale.ensures.added (ap (λ (s : ClauseStore). s.clauses) c.new-clauses.ensures) c.requires.below in
    let few = written.few in
    let room = c.in_ok-reserve.ensures.ok_clauses in
    omega (arith, few, room)

pub push_axioms-requires-clause-literals : goal.push_axioms-requires-clause-literals
push_axioms-requires-clause-literals g c =
    let written = are_written c.args.inputs.now _ _ _ _ _ _ c.in_ok-scale.ensures.added (ap (λ (s : ClauseStore). s.clauses) c.new-clauses.ensures) c.requires.below in
    let short = written.short in
    let room = c.in_ok-reserve.ensures.ok_literals in
    omega (arith, short, room)

pub adopt-requires : goal.adopt-requires
adopt-requires g c =
    let old = c.args.parts.now in
    let written = are_written c.args.inputs.now _ _ _ _ _ _ c.in_ok-scale.ensures.added (ap (λ (s : ClauseStore). s.clauses) c.new-clauses.ensures) c.requires.below in
    let vars = c.in_ok-reserve-2.ensures.ok.vars in
    let count = c.count.ensures.count in
    let adopts = adoptable c.reserve-2.new.self.adopted c.args.book.now.entries c.reserve.new.self.entries c.push_axioms.new.self.entries c.new.new.out.clauses c.reserve-2.new.self.vars _ (c.reserve-2.ensures.adopted ∙ c.requires.ready.adopted_all) c.reserve.ensures.same c.push_axioms.ensures written.known (omega (arith, vars, count)) in
    let long = adopts.long in
    let spare = c.in_ok-reserve-2.ensures.ok.spare in
    let few = written.few in
    record {
      grown = adopts.front;
      room = omega (arith, long, spare, few);
      known = adopts.known;
    }

pub returns-clause-weighed : goal.returns-clause-weighed
returns-clause-weighed g c = λ cost weighted.
    let old = c.args.parts.now in
    let book = c.args.book.now.entries in
    let entries = c.push_axioms.new.self.entries in
    let vars = c.in_ok-reserve-2.ensures.ok.vars in
    let count = c.count.ensures.count in
    let next = c.in_ok-scale.ensures.added.vars in
    let values = ap (λ (s : SolverState _). s.vars) c.adopt.ensures.value in
    record {
      coded = parts_weighed cost old.step old.code.coded old.counter old.vars c.new.new.vars c.args.inputs.now _ _ c.new.new.out.clauses c.in_ok-scale.scale book c.reserve.new.self.entries entries c.requires.ready.coded weighted refl c.in_ok-scale.ensures.added
          (ap (λ (s : ClauseStore). s.clauses) c.new-clauses.ensures) c.reserve.ensures.same c.push_axioms.ensures;
      known = known_after book entries (adds_pushed book c.reserve.new.self.entries entries c.new.new.out.clauses c.reserve.ensures.same c.push_axioms.ensures) c.requires.ready.known;
      adopted_all = ap (λ (s : SolverState _). s.adopted) c.adopt.ensures.value;
      enough = omega (arith, values, vars, count, next);
      ranked = subst (IsRanked _ _) (sym (ap (λ (s : SolverState _). s.order) c.adopt.ensures.value)) (c.reserve-2.ensures.ranked c.requires.ready.ranked);
    }
