-- A network is a refinement where it has the components and the events, and each further component follows an old one.
use Rattle.std.proofs.Common.{◌≡◌, ℕ, ◌≤◌, true, List, [], ◌∷◌, ◌++◌, length, take, drop, Some, get_or, refl, sym, ap, ◌∙◌, subst, arith}
use Rattle.std.specs.Prelude.{nat_le}
use Rattle.std.specs.List.{AllByRecursion, list_all}
use Rattle.std.proofs.lemmas.List.{append-nil, take-append-drop}
use Rattle.std.proofs.lemmas.Option.{same_Some, slice_get-get_or, slice_get_within, get_or_from_slice_get}
use Rattle.des_base.proofs.BoolLemmas.{both, most_is}
use Rattle.des_net.specs.declared.parts.Part.{Part}
use Rattle.des_net.specs.Network.{Component, Event, Net, no_component, no_event}
use Rattle.des_net.specs.Building.{IsDraft}
use Rattle.refinement.specs.Comparing.{AgreeBelow, FollowUpTo, HasComponents, HasEvents, HaveFurther}
use Rattle.refinement.specs.Refinement.{HasFurtherParts, IsRefinementOf}
use Rattle.refinement.proofs.Lists.{front_is, same_is, zip_from_places}

-- components that are read alike stand in the lists alike
same_components : (fine net : Net) → HasComponents fine net → AgreeBelow (length net.components) fine.components net.components
same_components fine net has c below =
    slice_get-get_or fine.components c no_component (let few = has.few in omega arith) ∙ ap (λ x. Some x) (has.same c below) ∙ sym (slice_get-get_or net.components c no_component below)

pub refines : (fine net : Net) → IsDraft fine → IsDraft net → HasComponents fine net → HasEvents fine net → FollowUpTo (length fine.components) fine net → IsRefinementOf fine net
refines fine net whole old has events follow = record {
  components = (drop (length net.components) fine.components, front_is net.components fine.components has.few (same_components fine net has));
  component_names = (
    drop (length net.component_names) fine.component_names,
    front_is net.component_names fine.component_names
        (let few = has.few in let named = whole.named in let once = old.named in omega arith)
        (subst (λ k. AgreeBelow k fine.component_names net.component_names) (sym old.named) has.names),
  );
  event_names = same_is net.event_names fine.event_names
      (whole.called ∙ events.count ∙ sym old.called)
      (subst (λ k. AgreeBelow k fine.event_names net.event_names) (sym old.called) events.names);
  events = zip_from_places (HasFurtherParts (length net.components)) net.events fine.events events.count (λ e x y at_x at_y.
      subst (λ z. HasFurtherParts (length net.components) x z) (get_or_from_slice_get fine.events e y no_event at_y)
      (subst (λ z. HasFurtherParts (length net.components) z (get_or fine.events e no_event)) (get_or_from_slice_get net.events e x no_event at_x)
      (events.each e (slice_get_within net.events e x at_x))));
  new = follow;
}

-- the component is the same where its parts are
pub same_component : (C D : Component) → D.state_names ≡ C.state_names → D.initial ≡ C.initial → D.transitions ≡ C.transitions → D.action_names ≡ C.action_names → D ≡ C
same_component C D names marks moves actions i = record { state_names = names i; initial = marks i; transitions = moves i; action_names = actions i }

pub further_parts : (k : ℕ) (event fine : Event) → fine.label ≡ event.label → fine.fault ≡ event.fault → HaveFurther k event.parts fine.parts → HasFurtherParts k event fine
further_parts k event fine label fault parts = record { label = label; fault = fault; further = parts.further; parts = parts.is; new = parts.new }

new_ones : (k : ℕ) (parts : List Part) → list_all (λ part. nat_le k part.comp) parts ≡ true → AllByRecursion (λ part. k ≤ part.comp) parts
new_ones k [] h = tt
new_ones k (part ∷ parts) h = let two = both _ _ h in (most_is k part.comp two.0, new_ones k parts two.1)

pub have_further : (k : ℕ) (old fine : List Part) → take (length old) fine ≡ old → list_all (λ part. nat_le k part.comp) (drop (length old) fine) ≡ true → HaveFurther k old fine
have_further k old fine front new = record {
  further = drop (length old) fine;
  is = sym (take-append-drop (length old) fine) ∙ ap (λ ps. ps ++ drop (length old) fine) front;
  new = new_ones k (drop (length old) fine) new;
}

same_event : (k : ℕ) (e : Event) → HasFurtherParts k e e
same_event k e = record { label = refl; fault = refl; further = []; parts = sym (append-nil e.parts); new = tt }

-- a network refines itself, with no further component
pub refines_itself : (net : Net) → IsRefinementOf net net
refines_itself net = record {
  components = ([], sym (append-nil net.components));
  component_names = ([], sym (append-nil net.component_names));
  event_names = refl;
  events = zip_from_places (HasFurtherParts (length net.components)) net.events net.events refl (λ e x y at_x at_y. subst (HasFurtherParts (length net.components) x) (same_Some x y (sym at_x ∙ at_y)) (same_event (length net.components) x));
  new = λ d from below. absurd (omega (arith, from, below));
}
