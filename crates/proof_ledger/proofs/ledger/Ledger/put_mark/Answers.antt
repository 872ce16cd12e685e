use Rattle.std.proofs.Common.{◌++◌, ◌∷◌, [], ap, arith}
use Rattle.std.proofs.lemmas.Grind.{common_steps}
use Rattle.proof_ledger.specs.Book.{mark}
use Rattle.proof_ledger.specs.Kept.{all_entries, all_hints}
use Rattle.proof_ledger.proofs.Books.{Joined, mark_joined}
use Rattle.proof_ledger.proofs.ledger.Ledger.put_mark.Goals as goal

all : (c : goal.After-unwrap) → Joined (all_entries c.self.inside.first c.push.new.self.items) c.self.inside.clauses.clauses (all_hints c.self.inside.first c.self.inside.hints.pieces) (c.args.self.now.entries ++ mark c.args.number ∷ [])
all c = mark_joined c.args.number c.self.inside.first _ _ _ _ _ c.self.invariant.kept (ap (λ v. v.entries) c.self.view_is) (grind (arith, common_steps))

pub invariant_of-self-2 : goal.invariant_of-self-2
invariant_of-self-2 c = record { kept = (all c).kept; hints = c.self.invariant.hints; entries = grind (arith, common_steps) }

pub returns-clause-added : goal.returns-clause-added
returns-clause-added c =
    let b = (all c).book_is in let v = ap (λ s. s.spare_clauses) c.self.view_is in let w = ap (λ s. s.spare_literals) c.self.view_is in cc
