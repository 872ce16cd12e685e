use Rattle.std.proofs.Common.{rules, refl, length}
use Rattle.card_counter.proofs.Exact.{counter_is_exact}
use Rattle.card_counter.proofs.RowLemmas.{IsAdded, added_counter, added_laid, added_some, added_whole}
use Rattle.card_counter.proofs.counter.Counter.add_column.Goals as goal

pub invariant_of-self-2 : goal.invariant_of-self-2
invariant_of-self-2 c =
    let added : IsAdded c.args.self.now c.args.vars.now c.self.inside.inputs.items c.self.inside.rows.items c.self.inside.columns.items c.push.new.self.items c.self.inside.spare_inputs (record { first = c.fresh-first.result; count = length c.self.inside.inputs.items }) =
    record { view = c.self.view_is; laid = c.self.invariant.laid; pushed = search rules; start = c.fresh-first.ensures.first; size = refl; some = c.requires.some; made = c.requires.made; few = c.requires.few; within = c.requires.within } in
    record {
      counter = added_counter _ _ _ _ _ _ _ _ added c.self.invariant.counter;
      laid = added_laid _ _ _ _ _ _ _ _ added;
      input_room = search rules;
      row_room = search rules;
    }

pub push_column-requires-clause-some : goal.push_column-requires-clause-some
push_column-requires-clause-some c =
    let added : IsAdded c.args.self.now c.args.vars.now c.self.inside.inputs.items c.self.inside.rows.items c.self.inside.columns.items c.push.new.self.items c.self.inside.spare_inputs (record { first = c.fresh-first.result; count = length c.self.inside.inputs.items }) =
    record { view = c.self.view_is; laid = c.self.invariant.laid; pushed = search rules; start = c.fresh-first.ensures.first; size = refl; some = c.requires.some; made = c.requires.made; few = c.requires.few; within = c.requires.within } in
    added_some _ _ _ _ _ _ _ _ added

pub returns-clause-column : goal.returns-clause-column
returns-clause-column c =
    let added : IsAdded c.args.self.now c.args.vars.now c.self.inside.inputs.items c.self.inside.rows.items c.self.inside.columns.items c.push.new.self.items c.self.inside.spare_inputs (record { first = c.fresh-first.result; count = length c.self.inside.inputs.items }) =
    record { view = c.self.view_is; laid = c.self.invariant.laid; pushed = search rules; start = c.fresh-first.ensures.first; size = refl; some = c.requires.some; made = c.requires.made; few = c.requires.few; within = c.requires.within } in
    added_whole _ _ _ _ _ _ _ _ added c.reserve-2.new.self c.push_column.new.out _ _ c.reserve-2.ensures.same (search rules) c.push_column.ensures

pub returns-clause-counter : goal.returns-clause-counter
returns-clause-counter c =
    let added : IsAdded c.args.self.now c.args.vars.now c.self.inside.inputs.items c.self.inside.rows.items c.self.inside.columns.items c.push.new.self.items c.self.inside.spare_inputs (record { first = c.fresh-first.result; count = length c.self.inside.inputs.items }) =
    record { view = c.self.view_is; laid = c.self.invariant.laid; pushed = search rules; start = c.fresh-first.ensures.first; size = refl; some = c.requires.some; made = c.requires.made; few = c.requires.few; within = c.requires.within } in
    added_counter _ _ _ _ _ _ _ _ added c.self.invariant.counter

pub returns-clause-exact : goal.returns-clause-exact
returns-clause-exact c =
    let added : IsAdded c.args.self.now c.args.vars.now c.self.inside.inputs.items c.self.inside.rows.items c.self.inside.columns.items c.push.new.self.items c.self.inside.spare_inputs (record { first = c.fresh-first.result; count = length c.self.inside.inputs.items }) =
    record { view = c.self.view_is; laid = c.self.invariant.laid; pushed = search rules; start = c.fresh-first.ensures.first; size = refl; some = c.requires.some; made = c.requires.made; few = c.requires.few; within = c.requires.within } in
    counter_is_exact _ (added_counter _ _ _ _ _ _ _ _ added c.self.invariant.counter)
