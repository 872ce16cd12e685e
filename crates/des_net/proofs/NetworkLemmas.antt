-- What is built is a network, where no component lacks an initial state.
use Rattle.std.proofs.Common.{◌≡◌, ◌<◌, ℕ, zero, suc, Bool, true, false, List, [], ◌∷◌, length, None, arith}
use Rattle.std.specs.Prelude.{◌≢◌, ◌==◌, All, nat_lt, slice_get, slice_index_or}
use Rattle.std.specs.List.{AllByRecursion, list_all, list_any}
use Rattle.std.specs.Option.{option_map_or}
use Rattle.std.proofs.lemmas.Bool.Decides.{nat_tests}
use Rattle.std.proofs.lemmas.List.Elements.{All-head, All-tail, All-weaker, recursion_from_All}
use Rattle.des_base.proofs.PlaceLemmas.{none_parts}
use Rattle.des_base.specs.Names.{place_by}
use Rattle.des_net.specs.declared.parts.Part.{Part}
use Rattle.des_net.specs.Network.{Component, Event, Net, no_component, IsTransOf, IsComponent, IsPart, IsEvent, IsNetwork}
use Rattle.des_base.specs.Lists.{EachPair}
use Rattle.des_base.proofs.BoolLemmas.{both, neither, not_is_false, less_is}
use Rattle.des_net.specs.Building.{IsDraft, IsDraftComponent, IsDraftEvent, is_known, lacks_init, repeats}

are_components : (components : List Component) → All IsDraftComponent components → place_by lacks_init components ≡ None → AllByRecursion IsComponent components
are_components [] drafts started = tt
are_components (c ∷ components) drafts started =
    let draft = All-head IsDraftComponent c components drafts in
    let parts = none_parts (lacks_init c) (place_by lacks_init components) started in
    let of = IsTransOf (length c.state_names) (length c.action_names) in (
      record { marked = draft.marked; startable = not_is_false _ parts.0; closed = recursion_from_All of c.transitions draft.trans },
      are_components components (All-tail IsDraftComponent c components drafts) parts.1,
    )

-- a part is known where its component is there and has its action
abbrev found : List Component → ℕ → ℕ → Bool
found components c a = option_map_or (λ component. nat_lt a (length component.action_names)) (slice_get components c) false

is_found : (components : List Component) (c a : ℕ) → found components c a ≡ true → (c < length components) × (a < length (slice_index_or components c no_component).action_names)
is_found [] c a h = cc
is_found (x ∷ xs) zero a h = (omega arith, less_is a _ h)
is_found (x ∷ xs) (suc c) a h = let rest = is_found xs c a h in (let l = rest.0 in omega arith, rest.1)

is_part : (components : List Component) (part : Part) → is_known components part ≡ true → IsPart components part
unfolding is_known
is_part components part h = let two = is_found components part.comp part.action h in record { component = two.0; action = two.1 }

are_parts : (components : List Component) (parts : List Part) → list_all (is_known components) parts ≡ true → AllByRecursion (IsPart components) parts
are_parts components [] h = tt
are_parts components (part ∷ parts) h = let two = both _ _ h in (is_part components part two.0, are_parts components parts two.1)

apart : (a b : ℕ) → (b == a) ≡ false → a ≢ b
apart a b h = grind (arith, nat_tests)

none_again : (part : Part) (parts : List Part) → list_any (λ q. q.comp == part.comp) parts ≡ false → AllByRecursion (λ q. part.comp ≢ q.comp) parts
none_again part [] h = tt
none_again part (q ∷ parts) h = let two = neither _ _ h in (apart part.comp q.comp two.0, none_again part parts two.1)

-- parts that don't repeat are of different components
are_apart : (parts : List Part) → repeats parts ≡ false → EachPair (λ a b. a.comp ≢ b.comp) parts
unfolding repeats
are_apart [] h = tt
are_apart (part ∷ parts) h = let two = neither _ _ h in (none_again part parts two.0, are_apart parts two.1)

is_event : (components : List Component) (event : Event) → IsDraftEvent components event → IsEvent components event
is_event components event draft = record {
  moving = let some = draft.some in omega arith;
  known = are_parts components event.parts draft.known;
  once = are_apart event.parts draft.once;
}

pub IsNetwork-from_draft : (net : Net) → IsDraft net → place_by lacks_init net.components ≡ None → IsNetwork net
IsNetwork-from_draft net draft started = record {
  components = are_components net.components draft.components.each started;
  events = recursion_from_All (IsEvent net.components) net.events (All-weaker _ _ (is_event net.components) net.events draft.events.each);
}
