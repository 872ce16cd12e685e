use Rattle.std.proofs.Common.{◌≡◌, ◌∙◌, ◌∷◌, ◌++◌, [], List, sym, ap, subst, length, true, arith}
use Rattle.std.specs.List.{list_all}
use Rattle.prop_core.specs.Clauses.{Clause}
use Rattle.sat_learn.specs.Seen.{is_known_var}
use Rattle.sat_solve.specs.Solving.{IsUnfinished, IsUnattached}
use Rattle.sat_solve.proofs.WaitingVariables.{rest_attached}
use Rattle.sat_solve.proofs.Keeping.{rest_sound}
use Rattle.sat_solve.proofs.Learning.{known_last}
use Rattle.sat_solve.proofs.search.Search.finish_with_answer.Goals as goal

pub attach-requires-clause-known : goal.attach-requires-clause-known
attach-requires-clause-known g c =
    let s = c.args.self.now in
    let u : IsUnattached s.spare s.propagator c.args.book.now.entries c.in-Unsat.id = subst (IsUnfinished s.spare s.propagator c.args.book.now.entries) c.in-Unsat.is c.requires.unfinished in
    let v = c.backtrack-in-Unsat.ensures.trail.vars in
    let w = c.requires.sound.serving.enough in
    known_last s.vars c.backtrack-in-Unsat.new.self.propagator.vars s.propagator.clauses c.clauses.result.now.clauses u.clause c.in-Unsat.id (c.clauses.ensures.clauses ∙ u.clauses) (u.numbered ∙ ap length (sym c.clauses.ensures.clauses)) c.requires.sound.serving.below u.known (omega arith)

pub returns-in-Unsat-clause-rest : goal.returns-in-Unsat-clause-rest
returns-in-Unsat-clause-rest g c =
    let s = c.args.self.now in
    let t = c.backtrack-in-Unsat.new.self in
    let u : IsUnattached s.spare s.propagator c.args.book.now.entries c.in-Unsat.id = subst (IsUnfinished s.spare s.propagator c.args.book.now.entries) c.in-Unsat.is c.requires.unfinished in
    let k = c.backtrack-in-Unsat.ensures.trail in
    let kept = c.backtrack-in-Unsat.ensures.kept in
    let r = rest_sound t.order.waiting t.vars t.spare s.propagator t.propagator c.args.assignment.now c.backtrack-in-Unsat.ensures.sound k (let n = kept.vars in let e = c.requires.enough in omega arith) in
    let same = k.clauses in
    let spare = k.spare in
    let own = kept.spare in
    let room = u.room in
    rest_attached t.order.waiting t.propagator c.attach.new.self c.args.assignment.now t.vars t.spare c.clauses.result.now.clauses u.clause c.in-Unsat.id r (omega arith)
    (c.clauses.ensures.clauses ∙ u.clauses ∙ ap (λ (xs : List Clause). xs ++ u.clause ∷ []) (sym same))
    (u.numbered ∙ ap length (sym c.clauses.ensures.clauses))
    (subst (λ (cs : List Clause). list_all (λ l. is_known_var cs l.var) u.clause ≡ true) (sym same) u.known) c.attach.ensures
