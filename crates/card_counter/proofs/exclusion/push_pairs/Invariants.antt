-- the pairs of the inputs so far are there, and they used up their room
use Rattle.std.proofs.Common.{◌≡◌, ◌+◌, ◌*◌, ◌++◌, length, take}
use Rattle.card_counter.specs.AtMostOne.{excluded_pairs}
use Rattle.card_counter.proofs.exclusion.push_pairs.Given as goal

abbrev pub invariant-loop-place : goal.invariant-loop-place
invariant-loop-place l = record {
  added : l.out.clauses ≡ l.fn.out.clauses ++ excluded_pairs (take l.place l.inputs);
  clauses : l.out.spare_clauses + length (excluded_pairs (take l.place l.inputs)) ≡ l.fn.out.spare_clauses;
  literals : l.out.spare_literals + 2 * length (excluded_pairs (take l.place l.inputs)) ≡ l.fn.out.spare_literals;
}
