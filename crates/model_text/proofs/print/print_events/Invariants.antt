-- the lines of the events so far
use Rattle.std.proofs.Common.{◌≡◌, ◌++◌, take}
use Rattle.std.specs.List.{flat_map}
use Rattle.model_text.specs.PrintedModel.{each_named, line_of_event, line_text}
use Rattle.model_text.proofs.print.print_events.Given as goal

abbrev pub invariant-loop-event : goal.invariant-loop-event
invariant-loop-event l = l.text.items ≡ l.initial.text.items ++ flat_map line_text (each_named (line_of_event l.net) (take l.event l.net.event_names) (take l.event l.net.events))
