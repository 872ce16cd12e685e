use Rattle.std.proofs.Common.{◌≡◌, ◌++◌}
use Rattle.std.specs.Prelude.{flat_map}
use Rattle.des_base.specs.Lists.{numbers_below}
use Rattle.log_encode.specs.Written.{ends_written, step_written}
use Rattle.log_encode.proofs.writing.write_done.Given as goal

abbrev pub invariant-loop-step : goal.invariant-loop-step
invariant-loop-step l = l.out.clauses ≡ l.fn.out.clauses ++ (ends_written l.fn.asked l.fn.vars ++ flat_map (step_written l.fn.vars) (numbers_below l.step))
