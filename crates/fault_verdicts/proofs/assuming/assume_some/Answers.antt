use Rattle.std.proofs.Common.{◌∙◌, ◌++◌, ◌∷◌, [], ap, arith, refl}
use Rattle.card_counter.specs.CounterState.{positive}
use Rattle.fault_verdicts.proofs.Going.{goes_both}
use Rattle.fault_verdicts.proofs.assuming.assume_some.Goals as goal
use Rattle.least_faults.proofs.AxiomLists.{adds_both}
use Rattle.prop_core.specs.declared.lit.Lit.{Lit}

pub returns-in_err-assumed-clause-goes_on : goal.returns-in_err-assumed-clause-goes_on
returns-in_err-assumed-clause-goes_on g c = goes_both 1 0 1 c.args.parts.now c.in_some_step.new.parts c.guards_within.new.parts (omega arith) c.in_some_step.ensures.goes_on c.guards_within.ensures.goes_on

pub returns-in_err-assumed-clause-axioms : goal.returns-in_err-assumed-clause-axioms
returns-in_err-assumed-clause-axioms g c = adds_both c.args.book.now.entries c.in_some_step.new.book.entries c.guards_within.new.book.entries c.in_some_step.ensures.axioms c.guards_within.ensures.axioms

pub returns-in_err-push-clause-ready : goal.returns-in_err-push-clause-ready
returns-in_err-push-clause-ready g c = let has = c.in_ok-literal.ensures.made in (has.made, c.guards_within.ensures.ready has.made has.ready)

pub returns-in_err-push-clause-goes_on : goal.returns-in_err-push-clause-goes_on
returns-in_err-push-clause-goes_on g c = goes_both 1 0 1 c.args.parts.now c.in_some_step.new.parts c.guards_within.new.parts (omega arith) c.in_some_step.ensures.goes_on c.guards_within.ensures.goes_on

pub returns-in_err-push-clause-axioms : goal.returns-in_err-push-clause-axioms
returns-in_err-push-clause-axioms g c = adds_both c.args.book.now.entries c.in_some_step.new.book.entries c.guards_within.new.book.entries c.in_some_step.ensures.axioms c.guards_within.ensures.axioms

pub returns-clause-ready : goal.returns-clause-ready
returns-clause-ready g c = let has = c.in_ok-literal.ensures.made in (has.made, c.guards_within.ensures.ready has.made has.ready)

pub returns-clause-goes_on : goal.returns-clause-goes_on
returns-clause-goes_on g c = goes_both 1 0 1 c.args.parts.now c.in_some_step.new.parts c.guards_within.new.parts (omega arith) c.in_some_step.ensures.goes_on c.guards_within.ensures.goes_on

pub returns-clause-axioms : goal.returns-clause-axioms
returns-clause-axioms g c = adds_both c.args.book.now.entries c.in_some_step.new.book.entries c.guards_within.new.book.entries c.in_some_step.ensures.axioms c.guards_within.ensures.axioms

pub returns-clause-assumed : goal.returns-clause-assumed
returns-clause-assumed g c =
    let has = c.in_ok-literal.ensures.made in
    let guards = c.in_ok-assumed.assumed.items in
    let literal = c.in_ok-literal.literal in
    record {
      made = has.made;
      ready = c.guards_within.ensures.ready has.made has.ready;
      guards = guards;
      within = c.in_ok-assumed.ensures.within;
      further = positive literal.var ∷ [];
      about = (literal.var, has.there, refl);
      whole = c.in_ok-push.ensures.items ∙ ap (λ (l : Lit). guards ++ l ∷ []) has.holds;
    }
