-- the parts so far
use Rattle.std.proofs.Common.{◌≡◌, ◌++◌, take}
use Rattle.std.specs.Prelude.{map}
use Rattle.model_text.specs.PrintedModel.{part_by_name, part_token, spaced}
use Rattle.model_text.proofs.print.print_parts.Given as goal

abbrev pub invariant-loop-part : goal.invariant-loop-part
invariant-loop-part l = l.text.items ≡ l.initial.text.items ++ spaced (map part_token (map (part_by_name l.net) (take l.part-index l.parts)))
