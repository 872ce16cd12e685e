use Rattle.std.proofs.Common.{◌∙◌, ◌++◌, ap, false, refl, sym}
use Rattle.fault_verdicts.proofs.Asking.{none_signed}
use Rattle.fault_verdicts.proofs.assuming.assume_none.Goals as goal
use Rattle.fault_verdicts.specs.Asked.{no_step_literals}
use Rattle.fault_verdicts.specs.Judging.{event_signed}
use Rattle.step_encode.specs.Coded.{code_grid}

pub returns-clause-assumed : goal.returns-clause-assumed
returns-clause-assumed g c =
    let grid = code_grid c.guards_within.new.parts.step in
    let guards = c.in_ok-assumed.assumed.items in
    record {
      made = c.requires.ready.0;
      ready = c.guards_within.ensures.ready c.requires.ready.0 c.requires.ready.1;
      guards = guards;
      within = c.in_ok-assumed.ensures.within;
      further = no_step_literals grid c.args.event;
      about = refl;
      whole = c.in_ok-push_event.ensures ∙ ap (λ grid'. guards ++ event_signed grid' false c.args.event) c.grid.ensures.grid ∙ ap (λ ls. guards ++ ls) (sym (none_signed grid c.args.event));
    }
