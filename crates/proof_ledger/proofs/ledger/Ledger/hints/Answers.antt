use Rattle.std.proofs.Common.{◌-◌, ap, arith}
use Rattle.proof_ledger.proofs.Books.{count_hints, hints_at}
use Rattle.proof_ledger.proofs.Beginnings.{count_all_hints, further_hints_at}
use Rattle.proof_ledger.proofs.ledger.Ledger.hints.Goals as goal

pub piece-requires : goal.piece-requires
piece-requires c = omega (arith, count_all_hints c.self.inside.first c.self.inside.hints.pieces, count_hints _ _ _ _ c.self.invariant.kept (ap (λ v. v.entries) c.self.view_is), c.requires.from_one, c.requires.in_range, c.id.view_is, c.if-id-self.false)

pub returns : goal.returns
returns c = hints_at _ _ _ _ _ _ c.self.invariant.kept (ap (λ v. v.entries) c.self.view_is) (further_hints_at c.self.inside.first c.self.inside.hints.pieces (c.args.id - 1) _ _ (omega (arith, c.id.view_is, c.if-id-self.false)) c.piece.ensures)
