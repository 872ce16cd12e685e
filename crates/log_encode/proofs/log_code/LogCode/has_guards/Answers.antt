use Rattle.std.proofs.Common.{List, subst}
use Rattle.question_clauses.specs.LogClauses.{guard_literals}
use Rattle.log_encode.proofs.Guards.{guards_listed}
use Rattle.log_encode.proofs.log_code.LogCode.has_guards.Goals as goal
use Rattle.log_encode.specs.CodedLog.{read_meanings}
use Rattle.prop_core.specs.VariableNames.{ReadsAs}
use Rattle.prop_core.specs.declared.lit.Lit.{Lit}

pub returns-clause-guards : goal.returns-clause-guards
returns-clause-guards c =
    let code = c.args.self.now.coded in
    subst (λ (xs : List Lit). ReadsAs (read_meanings code) xs (guard_literals code.net code.log)) (guards_listed code c.guards-guards.result.now c.guards-guards.ensures.whole c.guards-guards.ensures.listed) c.guards-guards.ensures.guards
