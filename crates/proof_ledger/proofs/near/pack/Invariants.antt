use Rattle.std.proofs.Common.{◌≡◌, map, take}
use Rattle.prop_core.specs.Derivation.{clause_numbered}
use Rattle.proof_ledger.specs.ClauseNumbers.{AreNumbersOf}
use Rattle.proof_ledger.proofs.near.pack.Given as goal

abbrev pub invariant-loop-number : goal.invariant-loop-number
invariant-loop-number l = record {
  same : map (clause_numbered l.packed.clauses) l.places.items ≡ map (clause_numbered l.clauses.clauses) (take l.number-index l.numbers);
  numbers : AreNumbersOf l.packed.clauses l.places.items;
}
