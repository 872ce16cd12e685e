-- By what the search found.
use Rattle.inquiries.proofs.Diagnosing.{diagnosed_begun, first_built, search_left, steps_stay}
use Rattle.inquiries.proofs.Refutations.{evidence_for}
use Rattle.inquiries.specs.Diagnosed.{IsDiagnosed}
use Rattle.inquiries.specs.Refuted.{HasEvidenceFor}
use Rattle.std.proofs.lemmas.Result.{IfOk-weaker as ok_weaker}
use Rattle.least_faults.specs.Answers.{IsAnswered}
use Rattle.least_faults.specs.Parts.{built_of, meanings_of_parts}
use Rattle.inquiries.proofs.least.find_least.Goals as goal

pub returns-clause-diagnosed : goal.returns-clause-diagnosed
returns-clause-diagnosed g c =
    let net = c.args.case.now.net in
    let log = c.args.case.now.log in
    let parts = c.args.parts.now in
    let later = c.least-found.new.parts in
    let old = c.args.book.now.entries in
    let book = c.least-found.new.book.entries in
    ok_weaker c.least-found.result (IsAnswered (meanings_of_parts later) (built_of parts old) net log later.step.steps c.args.budget old book) (IsDiagnosed net log parts.step.steps c.args.budget book)
    (λ found. diagnosed_begun (goal.R-pre g) (goal.R-post g) net log parts later old book c.requires.begun c.least-found.ensures.kept c.args.budget found c.is_valid.ensures) c.least-found.ensures.answered

pub returns-clause-evidence : goal.returns-clause-evidence
returns-clause-evidence g c =
    let net = c.args.case.now.net in
    let log = c.args.case.now.log in
    let parts = c.args.parts.now in
    let later = c.least-found.new.parts in
    let old = c.args.book.now.entries in
    let book = c.least-found.new.book.entries in
    let kept = c.least-found.ensures.kept in
    ok_weaker c.least-found.result (IsAnswered (meanings_of_parts later) (built_of parts old) net log later.step.steps c.args.budget old book) (HasEvidenceFor net log later book)
    (λ found. evidence_for net log parts.step.steps later c.args.budget (built_of parts old) old book found (steps_stay (goal.R-pre g) (goal.R-post g) net log parts later old book c.requires.begun kept)
    (first_built (goal.R-pre g) (goal.R-post g) net log parts later old book c.requires.begun kept) c.requires.begun.axioms) c.least-found.ensures.answered

pub returns-clause-left : goal.returns-clause-left
returns-clause-left g c =
    search_left (goal.R-pre g) (goal.R-post g) c.args.case.now.net c.args.case.now.log c.args.parts.now c.least-found.new.parts c.args.book.now.entries c.least-found.new.book.entries c.requires.begun c.least-found.ensures.kept c.args.budget c.least-found.result c.least-found.ensures.grown c.least-found.ensures.answered c.least-found.ensures.unanswered c.is_valid.ensures
