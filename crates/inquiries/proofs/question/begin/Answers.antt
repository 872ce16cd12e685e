-- The parts are those of the question, which alone is in the book.
use Rattle.std.proofs.Common.{◌∙◌, sym}
use Rattle.least_faults.proofs.AxiomLists.{front_adds}
use Rattle.least_faults.specs.Building.{AreBuilt}
use Rattle.run_decode.specs.QuestionAxioms.{question_axioms}
use Rattle.inquiries.proofs.Diagnosing.{begins, ok_some}
use Rattle.inquiries.proofs.question.begin.Goals as goal

pub returns-in-Some-clause-begun : goal.returns-in-Some-clause-begun
returns-in-Some-clause-begun g c =
    let net = c.args.case.now.net in
    let log = c.args.case.now.log in
    let book = c.build.new.book.entries in
    let parts = c.in-Some.parts in
    let built = ok_some c.build.result (AreBuilt (goal.R-pre g) (goal.R-post g) net log c.args.steps c.args.solver book) parts (sym c.in-Some.is ∙ c.ok.ensures.value) c.build.ensures.built in
    let adds = front_adds (question_axioms net log c.args.steps 0) c.args.book.now.entries book c.requires.empty c.build.ensures.front in
    begins (goal.R-pre g) (goal.R-post g) net log c.args.steps c.args.solver parts c.args.book.now.entries book c.requires.limits.steps c.requires.empty adds built
