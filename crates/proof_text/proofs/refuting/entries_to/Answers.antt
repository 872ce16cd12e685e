use Rattle.std.proofs.Common.{◌≡◌, ◌∙◌, ◌<◌, take, length, sym, ap, subst, arith, ℕ}
use Rattle.proof_ledger.specs.Book.{clauses_of}
use Rattle.proof_text.proofs.Fronts.{ends_here, goes_on, ends_never}
use Rattle.proof_text.proofs.refuting.entries_to.Goals as goal

pub returns-then-has_number-clause-front : goal.returns-then-has_number-clause-front
returns-then-has_number-clause-front c = ends_here c.args.book.now.entries c.loop-place.place c.args.last c.entry.result c.entry.ensures (sym c.has_number.ensures ∙ c.if-has_number.true)

pub loop-place-preserved : goal.loop-place-preserved
loop-place-preserved c = goes_on c.args.book.now.entries c.loop-place.place c.args.last c.entry.result c.entry.ensures (sym c.has_number.ensures ∙ c.if-has_number.false) c.loop-place.invariant

pub returns-clause-front : goal.returns-clause-front
returns-clause-front c =
    let all : c.loop-place.place ≡ length c.args.book.now.entries = omega (arith, c.loop-place-test.false, c.loop-place.auto.place-end, c.entries-place-end.ensures.count) in
    ap (λ (k : ℕ). take k c.args.book.now.entries) c.entries.ensures.count
    ∙ ends_never c.args.book.now.entries c.args.last (subst (λ (k : ℕ). length (clauses_of (take k c.args.book.now.entries)) < c.args.last) all c.loop-place.invariant)
