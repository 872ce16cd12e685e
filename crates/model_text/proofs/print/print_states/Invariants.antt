-- the lines of the states so far
use Rattle.std.proofs.Common.{◌≡◌, ◌++◌, take}
use Rattle.std.specs.List.{flat_map}
use Rattle.des_net.specs.Network.{component_at}
use Rattle.model_text.specs.PrintedModel.{each_named, line_of_state, line_text}
use Rattle.model_text.proofs.print.print_states.Given as goal

abbrev pub invariant-loop-state : goal.invariant-loop-state
invariant-loop-state l =
    l.text.items ≡ l.initial.text.items ++ flat_map line_text (each_named line_of_state (take l.state (component_at l.net l.comp).state_names) (take l.state (component_at l.net l.comp).initial))
