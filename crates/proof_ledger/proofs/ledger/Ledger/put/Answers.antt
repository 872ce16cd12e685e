use Rattle.std.proofs.Common.{◌∙◌, ◌++◌, ◌∷◌, [], ap, sym, length, rules}
use Rattle.proof_ledger.specs.Book.{clauses_of}
use Rattle.proof_ledger.specs.Kept.{all_entries, all_hints, made}
use Rattle.proof_ledger.proofs.Books.{Joined, put_joined}
use Rattle.proof_ledger.proofs.ledger.Ledger.put.Goals as goal

all : (c : goal.After-unwrap) → Joined (all_entries c.self.inside.first c.push.new.self.items) c.push_reserved-id.new.self.clauses (all_hints c.self.inside.first c.push_reserved.new.self.pieces) (c.args.self.now.entries ++ made c.args.origin c.args.clause.now c.args.hints.now ∷ [])
all c = put_joined c.args.origin c.args.clause.now c.args.hints.now c.self.inside.first c.self.inside.entries.items _ c.self.inside.clauses.clauses _ c.self.inside.hints.pieces _ _ c.number-number.result c.kept_as.result c.self.invariant.kept (ap (λ v. v.entries) c.self.view_is) c.requires
    (c.number-number.ensures ∙ c.push_reserved-id.ensures.id) c.kept_as.ensures (search rules) (search rules) (search rules)

pub invariant_of-self-2 : goal.invariant_of-self-2
invariant_of-self-2 c = record {
  kept = (all c).kept;
  hints = search rules;
  entries = search rules;
}

pub returns-clause-added : goal.returns-clause-added
returns-clause-added c = (all c).book_is

pub returns-clause-id : goal.returns-clause-id
returns-clause-id c = c.push_reserved-id.ensures.id ∙ (all c).count ∙ ap (λ b. length (clauses_of b)) (sym (all c).book_is)
