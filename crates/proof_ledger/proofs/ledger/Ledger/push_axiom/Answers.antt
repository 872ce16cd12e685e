use Rattle.std.proofs.Common.{◌∙◌, ◌++◌, ◌∷◌, [], ap, sym, arith, length, rules}
use Rattle.proof_ledger.specs.Book.{axiomatic, clauses_of}
use Rattle.proof_ledger.specs.Kept.{all_entries, all_hints}
use Rattle.proof_ledger.proofs.Books.{Joined, axiom_joined}
use Rattle.proof_ledger.proofs.ledger.Ledger.push_axiom.Goals as goal

all : (c : goal.After-unwrap) → Joined (all_entries c.self.inside.first c.push.new.self.items) c.push_reserved-id.new.self.clauses (all_hints c.self.inside.first c.push_reserved.new.self.pieces) (c.args.self.now.entries ++ axiomatic c.args.clause.now ∷ [])
all c = axiom_joined c.args.clause.now c.self.inside.first c.self.inside.entries.items _ c.self.inside.clauses.clauses _ c.self.inside.hints.pieces _ _ c.number-number.result c.self.invariant.kept (ap (λ v. v.entries) c.self.view_is) (c.number-number.ensures ∙ c.push_reserved-id.ensures.id) (search rules) c.push_reserved-id.ensures.added (search rules)

pub invariant_of-self : goal.invariant_of-self
invariant_of-self c = record {
  kept = (all c).kept;
  hints = omega (arith, c.push_reserved-id.ensures.spare_clauses, c.push_reserved.ensures.spare_pieces, c.self.invariant.hints);
  entries = omega (arith, c.push.ensures.upper_bound, c.push.ensures.capacity, c.push_reserved-id.ensures.spare_clauses, c.self.invariant.entries);
}

pub returns-clause-added : goal.returns-clause-added
returns-clause-added c = (all c).book_is

pub returns-clause-id : goal.returns-clause-id
returns-clause-id c = c.push_reserved-id.ensures.id ∙ (all c).count ∙ ap (λ b. length (clauses_of b)) (sym (all c).book_is)
