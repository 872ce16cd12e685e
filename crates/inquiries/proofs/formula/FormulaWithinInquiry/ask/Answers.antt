-- The axioms of the book and what is assumed are those of the question.
use Rattle.std.proofs.Common.{◌≡◌, List, ◌++◌, refl, subst}
use Rattle.std.proofs.lemmas.Result.{IfOk-weaker as ok_weaker}
use Rattle.proof_ledger.specs.Book.{clauses_of}
use Rattle.proof_text.specs.CnfText.{formula}
use Rattle.proof_text.specs.Refutation.{unit_clauses}
use Rattle.proof_text.specs.declared.cnf.Cnf.{Cnf}
use Rattle.prop_core.specs.declared.lit.Lit.{Lit}
use Rattle.run_decode.specs.QuestionAxioms.{question_axioms}
use Rattle.inquiries.specs.Formula.{IsFormulaOf}
use Rattle.inquiries.proofs.Diagnosing.{axioms_left}
use Rattle.inquiries.proofs.Formulas.{IsAsked, is_formula}
use Rattle.inquiries.proofs.formula.FormulaWithinInquiry.ask.Goals as goal

pub returns-in_err-assumed-clause-left : goal.returns-in_err-assumed-clause-left
returns-in_err-assumed-clause-left g c =
    axioms_left (goal.R-pre g) (goal.R-post g) c.args.case.now.net c.args.case.now.log c.args.parts.now c.assumptions.new.parts c.args.book.now.entries c.assumptions.new.book.entries c.requires.begun c.assumptions.ensures.kept c.assumptions.ensures.axioms

pub returns-clause-left : goal.returns-clause-left
returns-clause-left g c =
    axioms_left (goal.R-pre g) (goal.R-post g) c.args.case.now.net c.args.case.now.log c.args.parts.now c.assumptions.new.parts c.args.book.now.entries c.assumptions.new.book.entries c.requires.begun c.assumptions.ensures.kept c.assumptions.ensures.axioms

pub returns-clause-says : goal.returns-clause-says
returns-clause-says g c =
    let net = c.args.case.now.net in
    let log = c.args.case.now.log in
    let begun = c.requires.begun in
    let n = c.args.parts.now.step.steps in
    let within = c.args.self.now.bound in
    let parts = c.assumptions.new.parts in
    let book = c.assumptions.new.book.entries in
    let assumed = c.in_ok-assumed.assumed.items in
    let asked : IsAsked (goal.R-pre g) (goal.R-post g) c.args.parts.now parts c.args.book.now.entries book net log n within c.counted-bound.result assumed = record {
      belong = begun.parts_of.belong;
      steps = refl;
      none = begun.columns;
      begun = begun.parts_of.built;
      first = record { axioms = question_axioms net log n 0; more = begun.axioms };
      keeps = c.assumptions.ensures.kept;
      ready = c.assumptions.ensures.ready;
      more = c.assumptions.ensures.axioms;
      network = c.is_built.ensures.network;
      valid = c.is_whole.ensures.whole.valid;
      counts = c.counted-bound.ensures.bound;
      assumes = c.in_ok-assumed.ensures.assumed;
    } in
    ok_weaker c.formula_under.result (λ (cnf : Cnf). formula cnf.vars cnf.clauses.clauses ≡ formula c.count.result (clauses_of book ++ unit_clauses c.as_slice.result.now))
    (λ (cnf : Cnf). IsFormulaOf net log n within book (formula cnf.vars cnf.clauses.clauses))
    (λ cnf is. is_formula _ _ _ _ _ _ _ _ _ _ _ _ asked c.count.result (formula cnf.vars cnf.clauses.clauses) c.count.ensures.count
    (subst (λ (lits : List Lit). formula cnf.vars cnf.clauses.clauses ≡ formula c.count.result (clauses_of book ++ unit_clauses lits)) c.as_slice.ensures.value is)) c.formula_under.ensures
