-- the clauses of the places so far are there, and for the others there is room
use Rattle.std.proofs.Common.{◌≡◌, ◌+◌, ◌*◌, ◌≤◌, ◌++◌, length}
use Rattle.card_counter.specs.AtMostOne.{chain_up_to}
use Rattle.card_counter.proofs.exclusion.push_chain.Given as goal

abbrev pub invariant-loop-place : goal.invariant-loop-place
invariant-loop-place l = record {
  added : l.out.clauses ≡ l.fn.out.clauses ++ chain_up_to l.inputs l.first l.place;
  clauses : 3 * length l.inputs ≤ l.out.spare_clauses + 3 * l.place + 4;
  literals : 6 * length l.inputs ≤ l.out.spare_literals + 6 * l.place + 8;
}
