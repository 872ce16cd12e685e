use Rattle.std.proofs.Common.{◌≡◌, Some, subst, sym}
use Rattle.log_encode.proofs.CallLemmas.{false_read}
use Rattle.log_encode.proofs.log_code.LogCode.false_lits.Goals as goal
use Rattle.log_encode.specs.CodedLog.{log_meanings, false_literals}
use Rattle.log_encode.specs.Drafted.{LogCodeState}
use Rattle.log_encode.specs.View.{coded, AreFalse}
use Rattle.prop_core.specs.VariableNames.{named_clause}

pub returns : goal.returns
returns c =
    subst (λ (s : LogCodeState). named_clause (log_meanings s.coded) c.as_slice.result.now ≡ Some (false_literals s.coded.log)) c.self.view_is
    (false_read (coded c.self.inside) c.as_slice.result.now (subst (AreFalse (coded c.self.inside)) (sym c.as_slice.ensures.value) c.self.invariant.kept.false_ones))
