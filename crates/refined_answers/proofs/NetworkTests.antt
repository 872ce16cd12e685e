-- Whether lists are a network, as a test that computes. Worked networks are tried by it.
use Rattle.std.proofs.Common.{◌≡◌, ℕ, Bool, true, false, List, [], ◌∷◌, length, arith, nat_lt}
use Rattle.std.specs.Prelude.{◌≢◌, ◌==◌, ◌&&◌, not, slice_index_or}
use Rattle.std.specs.List.{AllByRecursion, list_all, list_any}
use Rattle.std.proofs.lemmas.Bool.Decides.{nat_tests}
use Rattle.des_base.specs.Lists.{EachPair}
use Rattle.des_base.proofs.BoolLemmas.{both, less_is, not_true, same}
use Rattle.des_net.specs.declared.parts.Part.{Part}
use Rattle.des_net.specs.declared.parts.Trans.{Trans}
use Rattle.des_net.specs.Network.{Component, Event, IsComponent, IsEvent, IsNetwork, IsPart, IsTransOf, Net, no_component}

-- a test of each shows a fact of each
all_by : {X : Type 0} (test : X → Bool) (P : X → Type 0) (xs : List X) → ((x : X) → test x ≡ true → P x) → list_all test xs ≡ true → AllByRecursion P xs
all_by test P [] by all = tt
all_by test P (x ∷ xs) by all = let two = both (test x) (list_all test xs) all in (by x two.0, all_by test P xs by two.1)

abbrev trans_test : ℕ → ℕ → Trans → Bool
trans_test states actions t = nat_lt t.from states && (nat_lt t.action actions && nat_lt t.to states)

is_trans : (states actions : ℕ) (t : Trans) → trans_test states actions t ≡ true → IsTransOf states actions t
is_trans states actions t test =
    let first = both (nat_lt t.from states) (nat_lt t.action actions && nat_lt t.to states) test in
    let second = both (nat_lt t.action actions) (nat_lt t.to states) first.1 in
    record { from = less_is t.from states first.0; action = less_is t.action actions second.0; to = less_is t.to states second.1 }

abbrev component_test : Component → Bool
component_test c = (length c.initial == length c.state_names) && (list_any (λ initial. initial) c.initial && list_all (trans_test (length c.state_names) (length c.action_names)) c.transitions)

is_component : (c : Component) → component_test c ≡ true → IsComponent c
is_component c test =
    let first = both (length c.initial == length c.state_names) (list_any (λ initial. initial) c.initial && list_all (trans_test (length c.state_names) (length c.action_names)) c.transitions) test in
    let second = both (list_any (λ initial. initial) c.initial) (list_all (trans_test (length c.state_names) (length c.action_names)) c.transitions) first.1 in
    record {
      marked = same (length c.initial) (length c.state_names) first.0;
      startable = second.0;
      closed = all_by (trans_test (length c.state_names) (length c.action_names)) (IsTransOf (length c.state_names) (length c.action_names)) c.transitions (is_trans (length c.state_names) (length c.action_names)) second.1;
    }

abbrev part_test : List Component → Part → Bool
part_test components part = nat_lt part.comp (length components) && nat_lt part.action (length (slice_index_or components part.comp no_component).action_names)

is_part : (components : List Component) (part : Part) → part_test components part ≡ true → IsPart components part
is_part components part test =
    let two = both (nat_lt part.comp (length components)) (nat_lt part.action (length (slice_index_or components part.comp no_component).action_names)) test in
    record { component = less_is part.comp _ two.0; action = less_is part.action _ two.1 }

abbrev apart_test : List Part → Bool
apart_test [] = true
apart_test (part ∷ parts) = list_all (λ other. not (part.comp == other.comp)) parts && apart_test parts

differ : (a b : ℕ) → not (a == b) ≡ true → a ≢ b
differ a b test = let other : (a == b) ≡ false = not_true (a == b) test in grind (arith, nat_tests)

are_apart : (parts : List Part) → apart_test parts ≡ true → EachPair (λ a b. a.comp ≢ b.comp) parts
are_apart [] test = tt
are_apart (part ∷ parts) test =
    let two = both (list_all (λ other. not (part.comp == other.comp)) parts) (apart_test parts) test in
    (all_by (λ other. not (part.comp == other.comp)) (λ other. part.comp ≢ other.comp) parts (λ other. differ part.comp other.comp) two.0, are_apart parts two.1)

abbrev event_test : List Component → Event → Bool
event_test components event = nat_lt 0 (length event.parts) && (list_all (part_test components) event.parts && apart_test event.parts)

is_event : (components : List Component) (event : Event) → event_test components event ≡ true → IsEvent components event
is_event components event test =
    let first = both (nat_lt 0 (length event.parts)) (list_all (part_test components) event.parts && apart_test event.parts) test in
    let second = both (list_all (part_test components) event.parts) (apart_test event.parts) first.1 in
    record { moving = less_is 0 _ first.0; known = all_by (part_test components) (IsPart components) event.parts (is_part components) second.0; once = are_apart event.parts second.1 }

-- all components and events are well
abbrev pub network_test : Net → Bool
network_test net = list_all component_test net.components && list_all (event_test net.components) net.events

pub is_network : (net : Net) → network_test net ≡ true → IsNetwork net
is_network net test =
    let two = both (list_all component_test net.components) (list_all (event_test net.components) net.events) test in
    record { components = all_by component_test IsComponent net.components is_component two.0; events = all_by (event_test net.components) (IsEvent net.components) net.events (is_event net.components) two.1 }
