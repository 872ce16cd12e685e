-- A generated network is as one that was read from a text: its actions stand in the order in which they are first taken, and its labels are names.
use Rattle.std.proofs.Common.{◌≡◌, ◌<◌, ◌≤◌, ◌+◌, ℕ, true, List, [], ◌∷◌, map, refl, arith, subst, sym}
use Rattle.std.specs.Prelude.{All, IsTrue, codes, flat_map}
use Rattle.std.specs.List.{AllByRecursion}
use Rattle.std.proofs.lemmas.List.Elements.{All-nil, All-cons, All-append}
use Rattle.des_base.proofs.BoolLemmas.{join}
use Rattle.des_base.specs.Names.{is_name_byte, is_name_text}
use Rattle.des_net.specs.Network.{Net}
use Rattle.des_net.specs.Models.{takes, seen, unseen_fault}
use Rattle.model_text.specs.ReadBack.{HasNamedLabel, IsAsRead, IsInOrder}
use Rattle.gen_plant.specs.Plant.{most_units, units, bus_component, unit_component, events_of, fix_label, plant_net, trip_label}
use Rattle.gen_plant.specs.Stages.{is_front}
use Rattle.gen_plant.proofs.Lists.{units_below}
use Rattle.gen_plant.proofs.NameLemmas.{numbered_is_name}

bus_in_order : IsInOrder bus_component
bus_in_order = record { once = (refl, tt); in_order = refl }

unit_in_order : IsInOrder unit_component
unit_in_order = record { once = (refl, (refl, (refl, tt))); in_order = refl }

units_in_order : (xs : List ℕ) → All IsInOrder (map (λ i. unit_component) xs)
units_in_order [] = All-nil IsInOrder
units_in_order (x ∷ xs) = All-cons IsInOrder unit_component (map (λ i. unit_component) xs) unit_in_order (units_in_order xs)

trip_front : IsTrue (is_front (codes "T-"))
unfolding is_name_byte
trip_front = refl

fix_front : IsTrue (is_front (codes "F-"))
unfolding is_name_byte
fix_front = refl

-- the labels of one unit's events
unit_named : (i : ℕ) → i < 1000 → All HasNamedLabel (events_of i)
unit_named i h =
    let jam = unseen_fault (takes i 0 ∷ []) in
    let trip = seen (trip_label i) (takes i 1 ∷ takes 0 0 ∷ []) in
    let fix = seen (fix_label i) (takes i 2 ∷ []) in
    All-cons HasNamedLabel jam (trip ∷ fix ∷ []) refl
    (All-cons HasNamedLabel trip (fix ∷ []) (join (is_name_text (trip_label i)) true (numbered_is_name (codes "T-") i trip_front h) refl)
    (All-cons HasNamedLabel fix [] (join (is_name_text (fix_label i)) true (numbered_is_name (codes "F-") i fix_front h) refl) (All-nil HasNamedLabel)))

units_named : (most : ℕ) (xs : List ℕ) → most ≤ 1000 → AllByRecursion (λ j. j < most) xs → All HasNamedLabel (flat_map events_of xs)
units_named most [] small h = All-nil HasNamedLabel
units_named most (x ∷ xs) small h = All-append HasNamedLabel (events_of x) (flat_map events_of xs) (unit_named x (omega (arith, h.0))) (units_named most xs small h.1)

plant_as_read : (z : ℕ) → z ≤ most_units → IsAsRead (plant_net z)
plant_as_read z few = record {
  components = All-cons IsInOrder bus_component (map (λ i. unit_component) (units z)) bus_in_order (units_in_order (units z));
  events = units_named (z + 1) (units z) (omega (arith, few)) (units_below z);
}

-- so is what is equal to it
pub made_as_read : (z : ℕ) (net : Net) → z ≤ most_units → net ≡ plant_net z → IsAsRead net
made_as_read z net few is = subst IsAsRead (sym is) (plant_as_read z few)
