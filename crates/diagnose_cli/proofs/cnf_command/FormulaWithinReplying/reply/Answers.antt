-- The text is that of the question's formula, and reads back.
use Rattle.std.proofs.lemmas.Result.{IfOk-weaker as ok_weaker}
use Rattle.proof_text.proofs.CnfPrinted.{printed_formula}
use Rattle.proof_text.specs.CnfText.{formula}
use Rattle.diagnose_cli.proofs.cnf_command.FormulaWithinReplying.reply.Goals as goal

pub returns : goal.returns
returns c book says =
    let asked = formula c.args.answer.vars c.args.answer.clauses.clauses in
    ok_weaker c.reply_of_formula.result _ _
    (λ reply is. record { says = record { asked = asked; holds = says; is = is; again = λ keeps. printed_formula asked keeps.0 keeps.1 says.known }; decided = λ enough. absurd enough }) c.reply_of_formula.ensures
