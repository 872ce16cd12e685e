use Rattle.std.proofs.Common.{◌-◌, ap, arith, refl}
use Rattle.proof_ledger.proofs.Beginnings.{count_all, first_entry_at, further_entry_at}
use Rattle.proof_ledger.proofs.ledger.Ledger.entry.Goals as goal

pub returns-then-place-self : goal.returns-then-place-self
returns-then-place-self c = first_entry_at c.self.inside.first _ _ _ _ c.args.place c.self.invariant.kept (ap (λ v. v.entries) c.self.view_is) (omega (arith, c.if-place-self.true))

pub index-requires : goal.index-requires
index-requires c = omega (arith, count_all c.self.inside.first _ _ _ _ (ap (λ v. v.entries) c.self.view_is), c.requires, c.if-place-self.false)

pub returns : goal.returns
returns c =
    further_entry_at c.self.inside.first _ _ _ _ c.args.place (c.args.place - c.self.inside.first) c.index.result.now _ c.self.invariant.kept (ap (λ v. v.entries) c.self.view_is) c.requires (omega (arith, c.if-place-self.false)) refl c.index.ensures c.shown_entry.ensures
