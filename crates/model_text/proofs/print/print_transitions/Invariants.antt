-- the lines of the transitions so far
use Rattle.std.proofs.Common.{◌≡◌, ◌++◌, take}
use Rattle.std.specs.Prelude.{map}
use Rattle.std.specs.List.{flat_map}
use Rattle.des_net.specs.Network.{component_at}
use Rattle.model_text.specs.PrintedModel.{line_of_transition, line_text}
use Rattle.model_text.proofs.print.print_transitions.Given as goal

abbrev pub invariant-loop-trans : goal.invariant-loop-trans
invariant-loop-trans l = l.text.items ≡ l.initial.text.items ++ flat_map line_text (map (line_of_transition (component_at l.net l.comp)) (take l.trans-index l.trans-items))
