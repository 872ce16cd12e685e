use Rattle.std.proofs.Common.{◌≡◌, Some, subst, sym}
use Rattle.question_clauses.specs.LogClauses.{guard_literals}
use Rattle.log_encode.proofs.CallLemmas.{guards_read}
use Rattle.log_encode.specs.CodedLog.{read_meanings}
use Rattle.log_encode.specs.Drafted.{LogCodeState}
use Rattle.log_encode.specs.View.{coded, AreEnds}
use Rattle.log_encode.proofs.log_code.LogCode.guards.Goals as goal
use Rattle.prop_core.proofs.FamilyLemmas.{reads_whole}
use Rattle.prop_core.specs.VariableNames.{named_clause}

pub returns-clause-listed : goal.returns-clause-listed
returns-clause-listed c =
    subst (λ (s : LogCodeState). named_clause (read_meanings s.coded) c.as_slice.result.now ≡ Some (guard_literals s.coded.net s.coded.log)) c.self.view_is
    (guards_read (coded c.self.inside) c.self.inside.ends.items c.as_slice.result.now c.self.invariant.kept.log
    (subst (AreEnds (coded c.self.inside) c.self.inside.ends.items) (sym c.as_slice.ensures.value) c.self.invariant.kept.chains))

pub returns-clause-guards : goal.returns-clause-guards
returns-clause-guards c = reads_whole (read_meanings c.args.self.now.coded) c.as_slice.result.now (guard_literals c.args.self.now.coded.net c.args.self.now.coded.log) (returns-clause-listed c)
