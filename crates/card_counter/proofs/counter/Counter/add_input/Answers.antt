use Rattle.std.proofs.Common.{arith, rules, refl, ◌-◌}
use Rattle.card_counter.proofs.RowLemmas.{IsPut, put_counter, put_laid, put_room, put_adds, size_here}
use Rattle.card_counter.proofs.counter.Counter.add_input.Goals as goal

pub fresh-first-requires : goal.fresh-first-requires
fresh-first-requires c =
    let size = size_here _ _ _ _ _ c.self.view_is in
    let within = c.requires.within in
    let len = c.len.ensures in
    grind (arith, size, within, len)

pub invariant_of-self : goal.invariant_of-self
invariant_of-self c =
    let put : IsPut c.args.self.now c.args.vars.now c.args.input c.self.inside.inputs.items c.push.new.self.items c.self.inside.rows.items c.push-2.new.self.items c.self.inside.columns.items c.self.inside.spare_inputs (c.self.inside.spare_inputs - 1) =
    record { view = c.self.view_is; laid = c.self.invariant.laid; counter = c.self.invariant.counter; input_put = search rules; row_put = search rules; fewer = refl; made = c.requires.made; may = c.requires.input; within = c.requires.within } in
    record {
      counter = put_counter _ _ _ _ _ _ _ _ _ _ put;
      laid = put_laid _ _ _ _ _ _ _ _ _ _ put;
      input_room = search rules;
      row_room = search rules;
    }

pub push_row-requires-clause-room : goal.push_row-requires-clause-room
push_row-requires-clause-room c =
    let put : IsPut c.args.self.now c.args.vars.now c.args.input c.self.inside.inputs.items c.push.new.self.items c.self.inside.rows.items c.push-2.new.self.items c.self.inside.columns.items c.self.inside.spare_inputs (c.self.inside.spare_inputs - 1) =
    record { view = c.self.view_is; laid = c.self.invariant.laid; counter = c.self.invariant.counter; input_put = search rules; row_put = search rules; fewer = refl; made = c.requires.made; may = c.requires.input; within = c.requires.within } in
    put_room _ _ _ _ _ _ _ _ _ _ put _ c.requires.room

pub returns-clause-input : goal.returns-clause-input
returns-clause-input c =
    let size = size_here _ _ _ _ _ c.self.view_is in
    let len = c.len.ensures in
    let count = c.fresh-first.ensures.count in
    let put : IsPut c.args.self.now c.args.vars.now c.args.input c.self.inside.inputs.items c.push.new.self.items c.self.inside.rows.items c.push-2.new.self.items c.self.inside.columns.items c.self.inside.spare_inputs (c.self.inside.spare_inputs - 1) =
    record { view = c.self.view_is; laid = c.self.invariant.laid; counter = c.self.invariant.counter; input_put = search rules; row_put = search rules; fewer = refl; made = c.requires.made; may = c.requires.input; within = c.requires.within } in
    put_adds _ _ _ _ _ _ _ _ _ _ put _ _ _ (grind (arith, size, len, count)) c.push_row.ensures

pub returns-clause-counter : goal.returns-clause-counter
returns-clause-counter c =
    let put : IsPut c.args.self.now c.args.vars.now c.args.input c.self.inside.inputs.items c.push.new.self.items c.self.inside.rows.items c.push-2.new.self.items c.self.inside.columns.items c.self.inside.spare_inputs (c.self.inside.spare_inputs - 1) =
    record { view = c.self.view_is; laid = c.self.invariant.laid; counter = c.self.invariant.counter; input_put = search rules; row_put = search rules; fewer = refl; made = c.requires.made; may = c.requires.input; within = c.requires.within } in
    put_counter _ _ _ _ _ _ _ _ _ _ put
