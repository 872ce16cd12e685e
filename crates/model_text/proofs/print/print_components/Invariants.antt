-- the lines of the components so far
use Rattle.std.proofs.Common.{◌≡◌, ◌++◌, take}
use Rattle.std.specs.List.{flat_map}
use Rattle.model_text.specs.PrintedModel.{each_named, line_text, lines_of_component}
use Rattle.model_text.proofs.print.print_components.Given as goal

abbrev pub invariant-loop-comp : goal.invariant-loop-comp
invariant-loop-comp l = l.text.items ≡ l.initial.text.items ++ flat_map line_text (each_named lines_of_component (take l.comp l.net.component_names) (take l.comp l.net.components))
