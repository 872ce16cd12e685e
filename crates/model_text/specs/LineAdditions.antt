-- What a step of the reader does to the builder.
use Rattle.std.specs.Prelude.{◌≡◌, ⊤, ℕ, ◌+◌, true, false, List, [], map, length, Option, None, Some, Result, Ok, Err, Vec}
use Rattle.std.specs.declared.alloc.Global.{Global}
use Rattle.std.specs.List.{list_all}
use Rattle.std.specs.Option.{option_to_list}
use Rattle.des_base.specs.Names.{is_name_text}
use Rattle.des_base.specs.CountedLines.{NumberedLine}
use Rattle.des_net.specs.Network.{Net}
use Rattle.model_text.specs.declared.fault.ModelRefusal.{ModelRefusal}
use Rattle.model_text.specs.declared.fault.ModelRefusal.TheVariants as text
use Rattle.model_text.specs.declared.part_name.PartName.{PartName}
use Rattle.model_text.specs.declared.refusal.LineRefusal.{LineRefusal}
use Rattle.model_text.specs.declared.refusal.LineRefusal.TheVariants.{Shape, Name, Memory}
use Rattle.model_text.specs.ModelLines.{ModelLine, parts_of_tokens}
use Rattle.model_text.specs.ModelNetwork.{network_of_lines, model_lines}
use Rattle.model_text.specs.ModelFaults.{first_model_code}
use Rattle.model_text.specs.Growth.{grown_by_tokens}
use Rattle.model_text.specs.LineCodes.{code_by_tokens, IsCoded}
use Rattle.model_text.specs.Shapes.{part_said}

-- the builder has what the line adds, or the line is refused for its code, or memory ran out
abbrev pub AddsLine : Net → Option ModelLine → Net → Result (Unit {0}) LineRefusal → Type 0
AddsLine old line new (Ok _) = grown_by_tokens old line ≡ Some new
AddsLine old line new (Err refusal) = IsCoded (code_by_tokens old line) refusal

-- the text as a name, where it is one
abbrev pub IsNamedInLine : List ℕ → Result (List ℕ) LineRefusal → Type 0
IsNamedInLine text (Ok name) = (name ≡ text) × (is_name_text text ≡ true)
IsNamedInLine text (Err Name) = is_name_text text ≡ false
IsNamedInLine text (Err Memory) = ⊤
IsNamedInLine text (Err refusal) = ⊥

-- the same for a label, which an event need not have
abbrev pub IsLabelled : Option (List ℕ) → Result (Option (List ℕ)) LineRefusal → Type 0
IsLabelled label (Ok name) = (name ≡ label) × (list_all is_name_text (option_to_list label) ≡ true)
IsLabelled label (Err Name) = list_all is_name_text (option_to_list label) ≡ false
IsLabelled label (Err Memory) = ⊤
IsLabelled label (Err refusal) = ⊥

-- the parts that the tokens name, where each is one
abbrev pub ReadsParts : List (List ℕ) → Result (Vec PartName Global) LineRefusal → Type 0
ReadsParts tokens (Ok parts) = parts_of_tokens tokens ≡ Some (map part_said parts.items)
ReadsParts tokens (Err Shape) = parts_of_tokens tokens ≡ None
ReadsParts tokens (Err Memory) = ⊤
ReadsParts tokens (Err refusal) = ⊥

-- the component that was begun last, if there is one
abbrev pub IsCurrent : Net → Option ℕ → Type 0
IsCurrent net None = length net.components ≡ 0
IsCurrent net (Some comp) = comp + 1 ≡ length net.components

-- the network of some lines, or why it isn't all of it
abbrev pub BuildsLines : List NumberedLine → Result Net ModelRefusal → Type 0
BuildsLines lines (Ok net) = (first_model_code [] lines ≡ None) × (net ≡ network_of_lines (model_lines lines))
BuildsLines lines (Err (text.Fault fault)) = first_model_code [] lines ≡ Some fault
BuildsLines lines (Err text.Memory) = ⊤
