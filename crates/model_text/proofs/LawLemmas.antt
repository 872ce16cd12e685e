-- The law of one more line.
use Rattle.std.proofs.Common.{◌≡◌, List, [], ◌∷◌, ◌++◌, refl, ap, ◌∙◌, append-nil}
use Rattle.std.proofs.lemmas.List.Elements.{filter_map-append}
use Rattle.des_net.specs.Building.{IsDraft}
use Rattle.model_text.specs.ModelLines.{ModelLine, component, state, transition, event}
use Rattle.model_text.specs.ModelNetwork.{Section, NamedEvent, sections, events_in, declared_event, network_of_lines}
use Rattle.model_text.specs.ModelFaults.{model_line_code}
use Rattle.model_text.specs.Growth.{grown}
use Rattle.model_text.specs.GrowthLaw.{HasNames, LinesGrow}
use Rattle.model_text.proofs.SectionLemmas.{sections-push, sections-component}
use Rattle.model_text.proofs.GrowthLemmas.{network_from}
use Rattle.model_text.proofs.CodeLemmas.{Step, Step-same}
use Rattle.model_text.proofs.SameCodeLemmas.{coded-line}
use Rattle.model_text.proofs.StepLemmas.{step-component, step-state, step-transition, step-event, network_from-on_last}

-- what the law says of a line after these
abbrev StepAt : List ModelLine → ModelLine → Type 0
StepAt earlier line = Step (model_line_code earlier line) (grown (network_of_lines earlier) line) (network_of_lines (earlier ++ line ∷ []))

-- a line that is no event leaves the events
events-push : (lines : List ModelLine) (line : ModelLine) → events_in (line ∷ []) ≡ [] → events_in (lines ++ line ∷ []) ≡ events_in lines
events-push lines line h = filter_map-append declared_event lines (line ∷ []) ∙ ap (λ es. events_in lines ++ es) h ∙ append-nil (events_in lines)

next : (lines : List ModelLine) (line : ModelLine) (ss : List Section) (es : List NamedEvent) → sections (lines ++ line ∷ []) ≡ ss → events_in (lines ++ line ∷ []) ≡ es → network_of_lines (lines ++ line ∷ []) ≡ network_from ss es
next lines line ss es f g = λ i. network_from (f i) (g i)

step-of : (earlier : List ModelLine) (line : ModelLine) → IsDraft (network_of_lines earlier) → HasNames (network_of_lines earlier) → StepAt earlier line
step-of earlier (component name) d names =
    Step-same _ _ _ _ _ _ refl refl (next earlier (component name) _ _ (sections-component earlier name) (events-push earlier (component name) refl))
    (step-component (sections earlier) (events_in earlier) name d)
step-of earlier (state name initial) d names =
    Step-same _ _ _ _ _ _ refl refl (next earlier (state name initial) _ _ (sections-push earlier (state name initial) refl) (events-push earlier (state name initial) refl))
    (step-state (sections earlier) (events_in earlier) name initial d)
step-of earlier (transition from action to) d names =
    Step-same _ _ _ _ _ _ refl refl (next earlier (transition from action to) _ _ (sections-push earlier (transition from action to) refl) (events-push earlier (transition from action to) refl))
    (step-transition (sections earlier) (events_in earlier) from action to d names)
step-of earlier (event name label fault parts) d names =
    let e : NamedEvent = record { name = name; label = label; fault = fault; parts = parts } in
    Step-same _ _ _ _ _ _ refl refl
    (next earlier (event name label fault parts) _ _ (sections-push earlier (event name label fault parts) refl) (filter_map-append declared_event earlier (event name label fault parts ∷ []))
    ∙ network_from-on_last (sections earlier) (events_in earlier ++ e ∷ []) name label fault parts)
    (step-event (sections earlier) (events_in earlier) e d names)

pub lines_grow : LinesGrow
lines_grow = record {
  grows = λ earlier line net d names h. let both = (step-of earlier line d names).grows net h in record { well = both.0; network = both.1 };
  refused = λ earlier line d names h. (step-of earlier line d names).refused h;
  coded = λ earlier line d. coded-line earlier line d;
}
