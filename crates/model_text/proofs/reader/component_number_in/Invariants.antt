use Rattle.std.proofs.Common.{◌≡◌, length}
use Rattle.std.specs.Prelude.{slice_index}
use Rattle.model_text.specs.ModelFaults.{component_numbers}
use Rattle.model_text.proofs.reader.component_number_in.Given as goal

-- the component that is looked for comes after `before` others of the rest
abbrev pub invariant-loop-line : goal.invariant-loop-line
invariant-loop-line l = slice_index (component_numbers l.fn.lines) l.fn.comp ≡ slice_index (component_numbers l.lines) l.before

abbrev pub decreases-loop-line : goal.decreases-loop-line
decreases-loop-line l = length l.lines
