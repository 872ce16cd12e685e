use Rattle.std.proofs.Common.{map, rules}
use Rattle.proof_ledger.specs.Book.{axiomatic}
use Rattle.proof_ledger.specs.Kept.{all_entries, all_hints}
use Rattle.proof_ledger.proofs.Books.{Joined}
use Rattle.proof_ledger.proofs.Beginnings.{all_begun}
use Rattle.proof_ledger.proofs.ledger.Ledger.of_axioms.Goals as goal

begun : (c : goal.After-new) → Joined (all_entries c.number.result c.reserve-2.new.self.items) c.args.clauses.clauses (all_hints c.number.result c.reserve.new.self.pieces) (map axiomatic c.args.clauses.clauses)
begun c = all_begun c.args.clauses.clauses c.number.result _ _ (search rules) (search rules) (search rules)

pub invariant_of-result : goal.invariant_of-result
invariant_of-result c = record { kept = (begun c).kept; hints = search rules; entries = search rules }

pub returns : goal.returns
returns c = (begun c).book_is
