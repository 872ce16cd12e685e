use Rattle.std.proofs.Common.{◌≡◌, ◌∙◌, sym, ap, subst, ℕ}
use Rattle.prop_core.specs.Clauses.{HasValues}
use Rattle.sat_solve.specs.Solving.{SolverState}
use Rattle.sat_solve.proofs.Modeling.{answers_from}
use Rattle.sat_solve.proofs.solver.Solver.solve.Goals as goal

pub returns-clause-answer : goal.returns-clause-answer
returns-clause-answer g c =
    let t = c.run-found.new.self in
    let same : c.args.self.now.vars ≡ t.vars = sym (c.run-found.ensures.kept.vars ∙ ap (λ (x : SolverState _). x.vars) c.self.view_is) in
    answers_from c.run-found.result c.finish.new.assignment c.args.assumptions.now t c.args.book.now.entries c.run-found.new.book.entries c.run-found.new.budget c.is_sound-2.ensures.state
    (subst (λ (n : ℕ). HasValues n c.args.assumptions.now) same c.requires.known) c.run-found.ensures.ended c.finish.ensures.values
