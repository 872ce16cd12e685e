-- What the shapes of lines say, as the reader holds them.
use Rattle.std.specs.Prelude.{Option, option_map}
use Rattle.model_text.specs.declared.line_shape.StateLine.{StateLine}
use Rattle.model_text.specs.declared.line_shape.TransitionLine.{TransitionLine}
use Rattle.model_text.specs.declared.line_shape.EventLine.{EventLine}
use Rattle.model_text.specs.declared.part_name.PartName.{PartName}
use Rattle.model_text.specs.ModelLines.{NamedPart, ModelLine, state, transition, event, parts_of_tokens}
use Rattle.des_base.specs.CountedLines.{texts_of}

-- a `state` line, as the definitions know it
abbrev pub state_said : StateLine → ModelLine
state_said line = state line.name.now line.initial

-- a `trans` line, as the definitions know it
abbrev pub transition_said : TransitionLine → ModelLine
transition_said line = transition line.from.now line.action.now line.to.now

-- an `event` line, as the definitions know it, if each token that is left names a part
abbrev pub event_said : EventLine → Option ModelLine
event_said line = option_map (event line.name.now (option_map (λ label. label.now) line.label) line.fault) (parts_of_tokens (texts_of line.parts))

-- a part of an event line, as the definitions know it
abbrev pub part_said : PartName → NamedPart
part_said name = record { component = name.component.now; action = name.action.now }
