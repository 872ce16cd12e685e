use Rattle.std.proofs.Common.{◌∙◌, [], true, ap, append-nil, arith, subst, sym}
use Rattle.fault_verdicts.proofs.Making.{adds_one, clause_put, has_made, on_err}
use Rattle.fault_verdicts.proofs.Ready.{event_clause_below, ready_by_solver}
use Rattle.fault_verdicts.proofs.literals.in_some_step.Goals as goal
use Rattle.fault_verdicts.specs.Ready.{AreReadyForVerdicts}
use Rattle.least_faults.proofs.Columns.{reserved_ready}
use Rattle.proof_ledger.specs.Book.{axioms_of}
use Rattle.prop_core.specs.Clauses.{HasValues}
use Rattle.sat_order.specs.Rank.{IsRanked}
use Rattle.sat_solve.specs.Solving.{SolverState}

pub returns-in_err-reserve-clause-axioms : goal.returns-in_err-reserve-clause-axioms
returns-in_err-reserve-clause-axioms g c = record { axioms = []; more = c.reserve.ensures.same ∙ sym (append-nil c.args.book.now.entries) }

pub returns-in_err-reserve-2-clause-axioms : goal.returns-in_err-reserve-2-clause-axioms
returns-in_err-reserve-2-clause-axioms g c = record { axioms = []; more = c.reserve.ensures.same ∙ sym (append-nil c.args.book.now.entries) }

pub returns-in_err-reserve-2-clause-ready : goal.returns-in_err-reserve-2-clause-ready
returns-in_err-reserve-2-clause-ready g c =
    let old = c.args.parts.now in
    let ready = c.requires.ready in
    let same = ap (λ (s : SolverState _). s.vars) c.in_err-reserve-2.ensures.err.same in
    let still : AreReadyForVerdicts (goal.R-pre g) (goal.R-post g) (record old { solver = c.reserve-2.new.self }) c.reserve.new.self.entries = (
      ready.0,
      ready_by_solver _ _ old c.reserve-2.new.self c.args.book.now.entries c.reserve.new.self.entries ready.0 (ap axioms_of c.reserve.ensures.same)
          (reserved_ready _ _ old c.reserve-2.new.self c.args.book.now.entries c.reserve.new.self.entries ready.1.beside c.reserve-2.ensures.adopted (omega (arith, same)) c.reserve-2.ensures.ranked c.reserve.ensures.same) ready.1,
    ) in
    on_err c.from_residual-in_err-reserve-2.result _ still

pub add_clause-requires-clause-below : goal.add_clause-requires-clause-below
add_clause-requires-clause-below g c =
    let vars = c.in_ok-reserve-2.ensures.ok.vars in
    let count = c.count.ensures.count in
    subst (HasValues c.reserve-2.new.self.vars) (sym (c.as_slice.ensures.value ∙ c.in_ok-clause.ensures))
    (event_clause_below _ _ c.args.parts.now c.args.book.now.entries c.requires.ready.0 c.args.event c.reserve-2.new.self.vars c.requires.ready.1 c.requires.known (omega (arith, vars, count)))

pub returns-clause-axioms : goal.returns-clause-axioms
returns-clause-axioms g c = adds_one _ _ _ (clause_put _ _ _ _ _ c.reserve.ensures.same (c.as_slice.ensures.value ∙ c.in_ok-clause.ensures) c.add_clause.ensures.added)

pub returns-clause-made : goal.returns-clause-made
returns-clause-made g c =
    let fresh = c.fresh-var.ensures.count in
    let values = c.add_clause.ensures.vars in
    let vars = c.in_ok-reserve-2.ensures.ok.vars in
    let count = c.count.ensures.count in
    has_made _ _ c.args.parts.now c.add_clause.new.solver c.fresh-var.new.self c.args.book.now.entries c.add_clause.new.book.entries c.requires.ready.0 c.args.event c.new.result c.requires.ready.1 c.requires.known c.requires.fault c.requires.room fresh
    (clause_put _ _ _ _ _ c.reserve.ensures.same (c.as_slice.ensures.value ∙ c.in_ok-clause.ensures) c.add_clause.ensures.added)
    c.add_clause.ensures.adopted (omega (arith, values, vars, count, fresh)) (subst (IsRanked (goal.R-pre g) (goal.R-post g)) (sym c.add_clause.ensures.order) (c.reserve-2.ensures.ranked c.requires.ready.1.beside.ranked))
    (c.new.ensures ∙ (λ i. record { var = c.fresh-var.ensures.first i; positive = true }))
