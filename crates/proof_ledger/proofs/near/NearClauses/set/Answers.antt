use Rattle.std.proofs.Common.{◌≡◌, ◌∙◌, ◌==◌, ap, sym, subst, map, get_or, length, List, Option, cond, Some, None}
use Rattle.des_base.proofs.Results.{on_err}
use Rattle.prop_core.specs.ClauseStore.{ClauseStore}
use Rattle.prop_core.specs.Clauses.{Clause}
use Rattle.prop_core.specs.Derivation.{clause_numbered}
use Rattle.proof_ledger.proofs.Places.{same_at, set_at}
use Rattle.proof_ledger.proofs.near.NearClauses.set.Goals as goal

pub returns-clause-set : goal.returns-clause-set
returns-clause-set c = λ asked.
    let cs = c.self.inside.clauses.clauses in
    let clause = c.args.clause.now in
    let place = c.args.place in
    subst (λ (all : List Clause). get_or (map (clause_numbered all) c.put.new.numbers.items) asked None ≡ cond (asked == place) (Some clause) (get_or c.args.self.now asked None)) (sym c.in_ok-id.ensures.added)
    (set_at cs clause c.self.inside.numbers.items c.grow.new.numbers.items c.put.new.numbers.items place c.number.result c.self.invariant c.grow.ensures.same (c.number.ensures ∙ c.in_ok-id.ensures.id ∙ ap length c.in_ok-id.ensures.added) c.put.ensures asked
    ∙ ap (λ (v : List (Option Clause)). cond (asked == place) (Some clause) (get_or v asked None)) c.self.view_is)

pub returns-in_err-grow-clause-failed : goal.returns-in_err-grow-clause-failed
returns-in_err-grow-clause-failed c = on_err c.from_residual.result _ (λ asked.
    same_at c.self.inside.clauses.clauses c.self.inside.numbers.items c.grow.new.numbers.items c.grow.ensures.same asked
    ∙ ap (λ (v : List (Option Clause)). get_or v asked None) c.self.view_is)

pub returns-in_err-id-clause-failed : goal.returns-in_err-id-clause-failed
returns-in_err-id-clause-failed c = on_err c.from_residual-in_err-id.result _ (λ asked.
    subst (λ (all : List Clause). get_or (map (clause_numbered all) c.grow.new.numbers.items) asked None ≡ get_or c.args.self.now asked None) (sym (ap (λ (cs : ClauseStore). cs.clauses) c.in_err-id.ensures.err))
    (same_at c.self.inside.clauses.clauses c.self.inside.numbers.items c.grow.new.numbers.items c.grow.ensures.same asked
    ∙ ap (λ (v : List (Option Clause)). get_or v asked None) c.self.view_is))
