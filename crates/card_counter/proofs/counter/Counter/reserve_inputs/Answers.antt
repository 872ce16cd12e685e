use Rattle.std.proofs.Common.{rules, ◌≡◌, List, subst, sym}
use Rattle.prop_core.specs.declared.lit.Lit.{Lit}
use Rattle.card_counter.specs.CounterState.{IsCounter}
use Rattle.card_counter.specs.Rows.{counter_of, IsLaidOut}
use Rattle.card_counter.proofs.States.{spare_is_free}
use Rattle.card_counter.proofs.counter.Counter.reserve_inputs.Goals as goal

pub invariant_of-self-2 : goal.invariant_of-self-2
invariant_of-self-2 c =
    let inputs : c.reserve.new.self.items ≡ c.self.inside.inputs.items = search rules in
    let rows : c.reserve-2.new.self.items ≡ c.self.inside.rows.items = search rules in
    record {
      counter = subst (λ (xs : List Lit). IsCounter (counter_of xs c.reserve-2.new.self.items c.self.inside.columns.items c.max-self-inside.result)) (sym inputs)
          (subst (λ r. IsCounter (counter_of c.self.inside.inputs.items r c.self.inside.columns.items c.max-self-inside.result)) (sym rows) (spare_is_free _ _ _ _ c.self.invariant.counter));
      laid = subst (λ (xs : List Lit). IsLaidOut xs c.reserve-2.new.self.items c.self.inside.columns.items) (sym inputs)
          (subst (λ r. IsLaidOut c.self.inside.inputs.items r c.self.inside.columns.items) (sym rows) c.self.invariant.laid);
      input_room = search rules;
      row_room = search rules;
    }

pub returns-clause-counter : goal.returns-clause-counter
returns-clause-counter c =
    let inputs : c.reserve.new.self.items ≡ c.self.inside.inputs.items = search rules in
    let rows : c.reserve-2.new.self.items ≡ c.self.inside.rows.items = search rules in
    subst (λ (xs : List Lit). IsCounter (counter_of xs c.reserve-2.new.self.items c.self.inside.columns.items c.max-self-inside.result)) (sym inputs)
    (subst (λ r. IsCounter (counter_of c.self.inside.inputs.items r c.self.inside.columns.items c.max-self-inside.result)) (sym rows) (spare_is_free _ _ _ _ c.self.invariant.counter))
