use Rattle.std.proofs.Common.{sym, ◌∙◌, refl}
use Rattle.std.specs.Prelude.{Some, map, option_map}
use Rattle.model_text.specs.ModelLines.{event}
use Rattle.model_text.specs.Shapes.{part_said}
use Rattle.model_text.proofs.RefusalLemmas.{event-part_unnamed, part_words-each, found-some, handed, refused-given, unknown-given}
use Rattle.model_text.proofs.addition.add_named_event.Goals as goal

pub returns-then-not-are_names : goal.returns-then-not-are_names
returns-then-not-are_names c =
    event-part_unnamed c.args.builder.now c.args.name.now _ c.args.fault (map part_said c.args.parts.now) (sym (part_words-each c.args.parts.now) ∙ sym c.are_names.ensures ∙ c.if-not-are_names.true)

pub add_event-requires : goal.add_event-requires
add_event-requires c = found-some c.args.builder.now c.args.parts.now c.in-Some.found.items _ (rw c.in-Some.is at c.in_ok-found.ensures.parts) c.as_slice.ensures.value c.requires.some

pub returns-in_err-add_event-in-Some : goal.returns-in_err-add_event-in-Some
returns-in_err-add_event-in-Some c =
    let said = event c.args.name.now (option_map (λ text. text.now) c.args.label) c.args.fault (map part_said c.args.parts.now) in
    handed c.args.builder.now c.add_event.new.self (Some said) said _ _ refl c.from_residual-in_err-add_event-in-Some.ensures.1
    (refused-given c.args.builder.now c.args.name.now _ c.args.fault c.args.parts.now c.in_ok-name.name _ c.in_ok-name.ensures c.in_ok-label.ensures (sym c.are_names.ensures ∙ c.if-not-are_names.false)
    c.in-Some.found.items _ _ c.requires.whole (rw c.in-Some.is at c.in_ok-found.ensures.parts) c.as_slice.ensures.value c.in_err-add_event-in-Some.ensures.refused)

pub returns-in-None : goal.returns-in-None
returns-in-None c =
    unknown-given c.args.builder.now c.args.name.now _ c.args.fault c.args.parts.now c.in_ok-name.name _ c.in_ok-name.ensures c.in_ok-label.ensures (sym c.are_names.ensures ∙ c.if-not-are_names.false)
    _ (rw c.in-None.is at c.in_ok-found.ensures.parts) c.refusal_of_unknown.ensures
