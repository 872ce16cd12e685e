-- The refutation of the bound that was found.
use Rattle.std.proofs.Common.{IfOk, sym, subst}
use Rattle.answers.specs.declared.found.Found.{Found}
use Rattle.inquiries.specs.Refuted.{IsRefutedFor}
use Rattle.inquiries.proofs.refutation.refuted_for.Goals as goal

pub returns-in-Many : goal.returns-in-Many
returns-in-Many g c =
    let parts = c.args.parts.now in
    subst (λ (found : Found). IfOk c.within-in-Many.result (IsRefutedFor c.args.case.now.net c.args.case.now.log parts.step.steps c.args.book.now.entries found)) (sym c.in-Many.is) c.within-in-Many.ensures
