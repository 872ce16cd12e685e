use Rattle.std.proofs.Common.{◌∙◌, ap}
use Rattle.log_encode.proofs.CallLemmas.{ends_after_small}
use Rattle.log_encode.proofs.log_end.alarm_change.Goals as goal
use Rattle.log_encode.specs.Written.{ends_after}

pub guards_of-requires-clause-closed : goal.guards_of-requires-clause-closed
guards_of-requires-clause-closed c =
    ends_after_small c.args.vars c.args.end.ends.now c.as_slice-2.result.now c.args.takes.items c.requires.within c.requires.links c.requires.closed
    (c.as_slice-2.ensures.value ∙ c.in_ok-ends.ensures ∙ ap (ends_after c.args.vars 0 c.args.end.ends.now) c.as_slice.ensures.value)
