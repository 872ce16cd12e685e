use Rattle.std.proofs.Common.{◌≡◌, rules, subst, sym}
use Rattle.prop_core.specs.declared.lit.Lit.{Lit}
use Rattle.card_counter.specs.CounterState.{bound_literal, IsCounter}
use Rattle.card_counter.specs.Counting.{Bounds}
use Rattle.card_counter.proofs.Exact.{counter_is_exact}
use Rattle.card_counter.proofs.counter.Counter.bound_lit.Goals as goal

pub returns-clause-exact : goal.returns-clause-exact
returns-clause-exact c =
    let literal : c.new.result ≡ bound_literal c.args.self.now c.args.k = search rules in
    subst (λ (l : Lit). Bounds c.args.self.now l c.args.k) (sym literal) ((counter_is_exact c.args.self.now (subst IsCounter c.self.view_is c.self.invariant.counter)).bounded c.args.k c.requires)
