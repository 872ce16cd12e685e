-- What is found holds, and what is refuted is the bound below it.
use Rattle.std.proofs.Common.{ℕ, subst}
use Rattle.std.proofs.lemmas.Result.{IfOk-weaker as ok_weaker}
use Rattle.inquiries.specs.Refuted.{IsRefutedFor, IsRefuting}
use Rattle.inquiries.proofs.Diagnosing.{parts_stay, steps_stay}
use Rattle.inquiries.proofs.refutation.RefutationInquiry.ask.Goals as goal

pub refuted_for-requires-clause-parts : goal.refuted_for-requires-clause-parts
refuted_for-requires-clause-parts g c =
    parts_stay (goal.R-pre g) (goal.R-post g) c.args.case.now.net c.args.case.now.log c.args.parts.now c.find_least.new.parts c.args.book.now.entries c.find_least.new.book.entries c.requires.begun c.find_least.ensures.kept c.find_least.ensures.ready

pub returns-clause-says : goal.returns-clause-says
returns-clause-says g c =
    let net = c.args.case.now.net in
    let log = c.args.case.now.log in
    let parts = c.args.parts.now in
    let later = c.find_least.new.parts in
    let book = c.find_least.new.book.entries in
    let found = c.in_ok-found.found in
    ok_weaker c.refuted_for.result (IsRefutedFor net log later.step.steps book found) (IsRefuting net log parts.step.steps c.args.self.now.budget book)
    (λ answer refuted. record {
      found = found;
      diagnosed = c.in_ok-found.ensures.diagnosed;
      refuted = subst (λ (n : ℕ). IsRefutedFor net log n book found answer) (steps_stay (goal.R-pre g) (goal.R-post g) net log parts later c.args.book.now.entries book c.requires.begun c.find_least.ensures.kept) refuted;
    }) c.refuted_for.ensures
