use Rattle.std.proofs.Common.{arith, ◌≤◌}
use Rattle.card_counter.proofs.RowLemmas.{column_there, is_own, is_later, is_small}
use Rattle.card_counter.proofs.counter.Counter.variable_at.Goals as goal

pub index-own-requires : goal.index-own-requires
index-own-requires c =
    let there = column_there _ _ _ _ _ _ _ c.self.view_is c.self.invariant.laid c.requires in
    grind (arith, there)

pub overflow_add-result : goal.overflow_add-result
overflow_add-result c =
    let is = is_own _ _ _ _ _ _ _ c.self.view_is c.self.invariant.laid c.requires _ c.index-own.ensures c.if-place-own.true in
    let low = is_small _ _ _ _ _ _ _ c.self.view_is c.self.invariant.laid c.requires in
    grind (arith, is, low)

pub overflow_add-result-else-place-own : goal.overflow_add-result-else-place-own
overflow_add-result-else-place-own c =
    let later : c.index-own.result.now.count ≤ c.args.place = (let no = c.if-place-own.false in grind (arith, no)) in
    let is = is_later _ _ _ _ _ _ _ c.self.view_is c.self.invariant.laid c.requires _ _ c.index-own.ensures c.index.ensures later in
    let low = is_small _ _ _ _ _ _ _ c.self.view_is c.self.invariant.laid c.requires in
    grind (arith, is, low)

pub returns-then-place-own-clause-is : goal.returns-then-place-own-clause-is
returns-then-place-own-clause-is c =
    let is = is_own _ _ _ _ _ _ _ c.self.view_is c.self.invariant.laid c.requires _ c.index-own.ensures c.if-place-own.true in
    grind (arith, is)

pub returns-then-place-own-clause-small : goal.returns-then-place-own-clause-small
returns-then-place-own-clause-small c =
    let is = is_own _ _ _ _ _ _ _ c.self.view_is c.self.invariant.laid c.requires _ c.index-own.ensures c.if-place-own.true in
    let low = is_small _ _ _ _ _ _ _ c.self.view_is c.self.invariant.laid c.requires in
    grind (arith, is, low)

pub returns-else-place-own-clause-is : goal.returns-else-place-own-clause-is
returns-else-place-own-clause-is c =
    let later : c.index-own.result.now.count ≤ c.args.place = (let no = c.if-place-own.false in grind (arith, no)) in
    let is = is_later _ _ _ _ _ _ _ c.self.view_is c.self.invariant.laid c.requires _ _ c.index-own.ensures c.index.ensures later in
    grind (arith, is)

pub returns-else-place-own-clause-small : goal.returns-else-place-own-clause-small
returns-else-place-own-clause-small c =
    let later : c.index-own.result.now.count ≤ c.args.place = (let no = c.if-place-own.false in grind (arith, no)) in
    let is = is_later _ _ _ _ _ _ _ c.self.view_is c.self.invariant.laid c.requires _ _ c.index-own.ensures c.index.ensures later in
    let low = is_small _ _ _ _ _ _ _ c.self.view_is c.self.invariant.laid c.requires in
    grind (arith, is, low)
