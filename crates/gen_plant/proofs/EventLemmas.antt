-- The events of the units as they are added.
use Rattle.std.proofs.Common.{◌≡◌, ◌<◌, ◌≤◌, ◌+◌, ◌*◌, ℕ, zero, suc, true, false, None, Some, List, [], ◌∷◌, ◌++◌, length, map, refl, arith, ap, sym, ◌∙◌, length-append}
use Rattle.std.proofs.Math.Numerals.{add-one}
use Rattle.std.specs.Prelude.{bytes_eq, flat_map, slice_get, option_map}
use Rattle.std.specs.List.{range_with_len, list_all}
use Rattle.std.proofs.lemmas.Grind.{flat_map-append}
use Rattle.des_base.proofs.BoolLemmas.{join, is_less, not_most, not_less}
use Rattle.des_base.proofs.Elements.{all_change}
use Rattle.des_base.proofs.PlaceLemmas.{none_join}
use Rattle.des_base.specs.Names.{place_of}
use Rattle.des_net.specs.declared.parts.Part.{Part}
use Rattle.des_net.specs.Building.{event_refusal, repeats, is_known}
use Rattle.des_net.specs.Limits.{most_events, most_parts}
use Rattle.des_net.specs.Models.{takes}
use Rattle.des_net.specs.Network.{Component, Net}
use Rattle.gen_plant.specs.Plant.{most_units, units, bus_component, unit_component, jam_name, trip_name, fix_name, event_names_of, events_of, trip_label}
use Rattle.gen_plant.specs.Stages.{first_components, with_unit_events, after_jam, after_trip, AwaitsUnit}
use Rattle.gen_plant.proofs.Lists.{units_more, units_below, absent_append, absent_flat, unlike}
use Rattle.gen_plant.proofs.NameLemmas.{other_numeral}

-- all units, and the events of the first of them
abbrev pub first_events : ℕ → ℕ → Net
first_events z done = record (first_components z) { event_names = flat_map event_names_of (units done); events = flat_map events_of (units done) }

-- ---- nothing is refused

event_free : (net : Net) (name : List ℕ) (parts : List Part) → place_of name net.event_names ≡ None → repeats parts ≡ false → list_all (is_known net.components) parts ≡ true → length net.events < most_events → length parts ≤ most_parts
    → event_refusal net name parts ≡ None
unfolding event_refusal
event_free net name parts h once known few short =
    rw (h, once, known, not_most most_events (length net.events) few, not_less most_parts (length parts) short) refl

known_at : (components : List Component) (comp action : ℕ) (c : Component) → slice_get components comp ≡ Some c → action < length c.action_names → is_known components (takes comp action) ≡ true
unfolding is_known
known_at components comp action c h less = rw h (is_less action (length c.action_names) less)

one_known : (components : List Component) (p : Part) → is_known components p ≡ true → list_all (is_known components) (p ∷ []) ≡ true
one_known components p h = join (is_known components p) true h refl

once_alone : (p : Part) → repeats (p ∷ []) ≡ false
unfolding repeats
once_alone p = refl

once_both : (unit action note : ℕ) → 0 < unit → repeats (takes unit action ∷ takes 0 note ∷ []) ≡ false
unfolding repeats
once_both unit action note some = rw (unlike 0 unit some) refl

-- ---- the components

units_there : (a n k : ℕ) → k < n → slice_get (map (λ i. unit_component) (range_with_len a n)) k ≡ Some unit_component
units_there a zero k less = absurd (omega arith)
units_there a (suc n) zero less = refl
units_there a (suc n) (suc k) less = units_there (a + 1) n k (omega arith)

unit_there : (z done : ℕ) → done < z → slice_get (first_components z).components (done + 1) ≡ Some unit_component
unit_there z done less = ap (slice_get (first_components z).components) (add-one done) ∙ units_there 1 z done less

unit_known : (z done action : ℕ) → done < z → action < 3 → is_known (first_components z).components (takes (done + 1) action) ≡ true
unit_known z done action less few = known_at (first_components z).components (done + 1) action unit_component (unit_there z done less) few

bus_known : (z : ℕ) → is_known (first_components z).components (takes 0 0) ≡ true
bus_known z = known_at (first_components z).components 0 0 bus_component refl (omega arith)

-- ---- the names

jam_other : (n j : ℕ) → j < n → n < 1000 → place_of (jam_name n) (event_names_of j) ≡ None
jam_other n j less few = none_join (bytes_eq (jam_name n) (jam_name j)) None (other_numeral j n less few) refl

trip_other : (n j : ℕ) → j < n → n < 1000 → place_of (trip_name n) (event_names_of j) ≡ None
trip_other n j less few = ap (option_map suc) (none_join (bytes_eq (trip_name n) (trip_name j)) None (other_numeral j n less few) refl)

fix_other : (n j : ℕ) → j < n → n < 1000 → place_of (fix_name n) (event_names_of j) ≡ None
fix_other n j less few = ap (λ o. option_map suc (option_map suc o)) (none_join (bytes_eq (fix_name n) (fix_name j)) None (other_numeral j n less few) refl)

names_other : (text : List ℕ) (done : ℕ) → ((j : ℕ) → j < done + 1 → place_of text (event_names_of j) ≡ None) → place_of text (flat_map event_names_of (units done)) ≡ None
names_other text done other = absent_flat text event_names_of (units done) (all_change (λ j. j < done + 1) (λ j. place_of text (event_names_of j) ≡ None) (units done) other (units_below done))

-- ---- the events

events_count : (a n : ℕ) → length (flat_map events_of (range_with_len a n)) ≡ 3 * n
events_count a zero = refl
events_count a (suc n) = omega (arith, events_count (a + 1) n)

pub awaits_unit : (z done : ℕ) → z ≤ most_units → done < z → AwaitsUnit (first_events z done) (done + 1)
awaits_unit z done few less =
    let net = first_events z done in
    let n = done + 1 in
    let names = flat_map event_names_of (units done) in
    let count = events_count 1 done in
    let jam = names_other (jam_name n) done (λ j below. jam_other n j below (omega arith)) in
    let trip = names_other (trip_name n) done (λ j below. trip_other n j below (omega arith)) in
    let fix = names_other (fix_name n) done (λ j below. fix_other n j below (omega arith)) in
    let one = length-append net.events ((record { parts = takes n 0 ∷ []; label = None; fault = true }) ∷ []) in
    let two = length-append (after_jam net n).events ((record { parts = takes n 1 ∷ takes 0 0 ∷ []; label = Some (trip_label n); fault = false }) ∷ []) in
    let trip_known = join (is_known net.components (takes n 1)) _ (unit_known z done 1 less (omega arith)) (one_known net.components (takes 0 0) (bus_known z)) in
    record {
      small = omega arith;
      jam = event_free net (jam_name n) (takes n 0 ∷ []) jam (once_alone (takes n 0)) (one_known net.components (takes n 0) (unit_known z done 0 less (omega arith))) (omega arith) (omega arith);
      trip = event_free (after_jam net n) (trip_name n) (takes n 1 ∷ takes 0 0 ∷ []) (absent_append (trip_name n) names (jam_name n ∷ []) trip refl) (once_both n 1 0 (omega arith)) trip_known (omega arith) (omega arith);
      fix = event_free (after_trip net n) (fix_name n) (takes n 2 ∷ []) (absent_append (fix_name n) (names ++ jam_name n ∷ []) (trip_name n ∷ []) (absent_append (fix_name n) names (jam_name n ∷ []) fix refl) refl)
          (once_alone (takes n 2)) (one_known net.components (takes n 2) (unit_known z done 2 less (omega arith))) (omega arith) (omega arith);
    }

pub events_more : (z done : ℕ) → with_unit_events (first_events z done) (done + 1) ≡ first_events z (done + 1)
events_more z done =
    let names : flat_map event_names_of (units (done + 1)) ≡ flat_map event_names_of (units done) ++ event_names_of (done + 1) = ap (flat_map event_names_of) (units_more done) ∙ flat_map-append event_names_of (units done) ((done + 1) ∷ []) in
    let events : flat_map events_of (units (done + 1)) ≡ flat_map events_of (units done) ++ events_of (done + 1) = ap (flat_map events_of) (units_more done) ∙ flat_map-append events_of (units done) ((done + 1) ∷ []) in
    λ i. record (first_components z) { event_names = sym names i; events = sym events i }
