use Rattle.std.proofs.Common.{subst}
use Rattle.std.proofs.lemmas.Result.{on_ok_weaker}
use Rattle.proof_text.specs.CnfText.{formula}
use Rattle.proof_text.specs.PrintedText.{formula_text, IsFormulaText}
use Rattle.proof_text.proofs.PrintLemmas.{appended}
use Rattle.proof_text.proofs.CnfPrinted.{printed_formula}
use Rattle.proof_text.proofs.print.print_cnf.Goals as goal

pub returns-else-is_err-clause-reads_back : goal.returns-else-is_err-clause-reads_back
returns-else-is_err-clause-reads_back c =
    let f = formula c.args.cnf.now.vars c.args.cnf.now.clauses.clauses in
    on_ok_weaker c.push_formula-printed.result
    (λ text. λ limits.
    subst (IsFormulaText f) (appended c.args.out.now.items (formula_text f) c.push_formula-printed.new.out.items text) (printed_formula f limits.0 limits.1 c.requires))
    c.push_formula-printed.ensures.ok
