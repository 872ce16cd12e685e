-- the pairs so far are there, and they used up their room
use Rattle.std.proofs.Common.{◌≡◌, ◌+◌, ◌*◌, ◌++◌, map, take}
use Rattle.card_counter.specs.AtMostOne.{not_both}
use Rattle.card_counter.proofs.exclusion.exclude_each.Given as goal

abbrev pub invariant-loop-input : goal.invariant-loop-input
invariant-loop-input l = record {
  added : l.out.clauses ≡ l.fn.out.clauses ++ map (not_both l.later) (take l.input-index l.earlier);
  clauses : l.out.spare_clauses + l.input-index ≡ l.fn.out.spare_clauses;
  literals : l.out.spare_literals + 2 * l.input-index ≡ l.fn.out.spare_literals;
}
