use Rattle.std.proofs.Common.{◌≡◌, map}
use Rattle.des_base.specs.Lists.{numbers_below}
use Rattle.card_counter.specs.CounterState.{positive}
use Rattle.log_encode.specs.AlarmVariables.{match_variable}
use Rattle.log_encode.proofs.writing.matches_at.Given as goal

abbrev pub invariant-loop-link : goal.invariant-loop-link
invariant-loop-link l = l.lits.items ≡ map (λ link. positive (match_variable l.fn.vars link l.fn.step)) (numbers_below l.link)
