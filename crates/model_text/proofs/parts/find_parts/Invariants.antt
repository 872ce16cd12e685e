-- The parts found, and those to come, are all parts.
use Rattle.std.proofs.Common.{◌≡◌, ◌++◌, drop}
use Rattle.std.specs.Prelude.{map, option_map}
use Rattle.model_text.specs.Growth.{parts_by_name}
use Rattle.model_text.specs.Shapes.{part_said}
use Rattle.model_text.proofs.parts.find_parts.Given as goal

abbrev pub invariant-loop-part : goal.invariant-loop-part
invariant-loop-part l = parts_by_name l.builder (map part_said l.parts) ≡ option_map (λ rest. l.found.items ++ rest) (parts_by_name l.builder (map part_said (drop l.part-index l.parts)))
