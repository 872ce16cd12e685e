-- What is known where a line adds to a network.
use Rattle.std.proofs.Common.{◌≡◌, ◌<◌, ◌≤◌, ℕ, Bool, true, false, cond, List, length, Option, None, Some, refl}
use Rattle.std.specs.Prelude.{◌&&◌, ◌||◌, nat_le, nat_lt, slice_get, is_some}
use Rattle.std.specs.List.{list_all}
use Rattle.std.specs.Option.{option_map_or}
use Rattle.des_base.specs.Names.{place_of}
use Rattle.des_base.proofs.BoolLemmas.{both, neither, less_is, most_not, less_not}
use Rattle.des_net.specs.declared.parts.Part.{Part}
use Rattle.des_net.specs.declared.refusal.BuildRefusal.{BuildRefusal}
use Rattle.des_net.specs.declared.refusal.BuildRefusal.TheVariants.{Double, Unknown, Limit}
use Rattle.des_net.specs.Network.{Component as Automaton, Net}
use Rattle.des_net.specs.Building.{component_refusal, event_refusal, has_trans, is_known, repeats, state_refusal, trans_count, trans_refusal}
use Rattle.model_text.specs.ModelLines.{NamedPart}
use Rattle.model_text.specs.Growth.{parts_by_name, unless}
use Rattle.model_text.proofs.CodeLemmas.{limited}
use Rattle.model_text.proofs.PartLemmas.{all_found}
use Rattle.model_text.proofs.StepLemmas.{length_all}

-- the line has names for its new words, nothing is refused, and this is added
pub record IsAdded (words : Bool) (refusal : Option BuildRefusal) (m now : Net) : Type 0 where
  pub named : words ≡ true
  pub accepted : refusal ≡ None
  pub network : m ≡ now

pub is_added : (named : Bool) (refusal : Option BuildRefusal) (m now : Net) → cond named (unless refusal m) None ≡ Some now → IsAdded named refusal m now
is_added true None m now h = record { named = refl; accepted = refl; network = cc }
is_added true (Some refusal) m now h = cc
is_added false refusal m now h = cc

-- ---- refusals that are none

absent : (o : Option ℕ) → is_some o ≡ false → o ≡ None
absent None h = refl
absent (Some k) h = cc

unlimited : (double past : Bool) → limited double past ≡ None → (double ≡ false) × (past ≡ false)
unlimited true past h = cc
unlimited false true h = cc
unlimited false false h = (refl, refl)

pub record FitsComponent (net : Net) (name : List ℕ) : Type 0 where
  pub absent : place_of name net.component_names ≡ None
  pub few : length net.components < 1000

pub fits_component : (net : Net) (name : List ℕ) → component_refusal net name ≡ None → FitsComponent net name
fits_component net name h =
    let parts = unlimited (is_some (place_of name net.component_names)) (nat_le 1000 (length net.components)) h in
    record { absent = absent (place_of name net.component_names) parts.0; few = most_not 1000 (length net.components) parts.1 }

pub record FitsState (components : List Automaton) (i : ℕ) (name : List ℕ) : Type 0 where
  pub component : Automaton
  pub at : slice_get components i ≡ Some component
  pub absent : place_of name component.state_names ≡ None
  pub few : length component.state_names < 256

state_step : (components : List Automaton) (i : ℕ) (name : List ℕ) (o : Option Automaton) → slice_get components i ≡ o
    → option_map_or (λ c. limited (is_some (place_of name c.state_names)) (nat_le 256 (length c.state_names))) o (Some Unknown) ≡ None → FitsState components i name
state_step components i name None at h = cc
state_step components i name (Some c) at h =
    let parts = unlimited (is_some (place_of name c.state_names)) (nat_le 256 (length c.state_names)) h in
    record { component = c; at = at; absent = absent (place_of name c.state_names) parts.0; few = most_not 256 (length c.state_names) parts.1 }

pub fits_state : (components : List Automaton) (i : ℕ) (name : List ℕ) → state_refusal components i name ≡ None → FitsState components i name
unfolding state_refusal
fits_state components i name h = state_step components i name (slice_get components i) refl h

pub record FitsTransition (components : List Automaton) (i from : ℕ) (action : List ℕ) (to : ℕ) : Type 0 where
  pub component : Automaton
  pub at : slice_get components i ≡ Some component
  pub absent : has_trans component from action to ≡ false
  pub source : from < length component.state_names
  pub target : to < length component.state_names
  pub few : trans_count components < 50000

known_none : (double known past : Bool) → cond double (Some Double) (cond known (cond past (Some Limit) None) (Some Unknown)) ≡ None → (double ≡ false) × (known ≡ true) × (past ≡ false)
known_none true known past h = cc
known_none false true true h = cc
known_none false true false h = (refl, refl, refl)
known_none false false past h = cc

transition_step : (components : List Automaton) (i from : ℕ) (action : List ℕ) (to : ℕ) (o : Option Automaton) → slice_get components i ≡ o
    → option_map_or (λ d. cond (has_trans d from action to) (Some Double) (cond (nat_lt from (length d.state_names) && nat_lt to (length d.state_names)) (cond (nat_le 50000 (trans_count components)) (Some Limit) None) (Some Unknown))) o (Some Unknown) ≡ None
    → FitsTransition components i from action to
transition_step components i from action to None at h = cc
transition_step components i from action to (Some c) at h =
    let parts = known_none (has_trans c from action to) (nat_lt from (length c.state_names) && nat_lt to (length c.state_names)) (nat_le 50000 (trans_count components)) h in
    let ends = both (nat_lt from (length c.state_names)) (nat_lt to (length c.state_names)) parts.1 in
    record { component = c; at = at; absent = parts.0; source = less_is from (length c.state_names) ends.0; target = less_is to (length c.state_names) ends.1; few = most_not 50000 (trans_count components) parts.2 }

pub fits_transition : (components : List Automaton) (i from : ℕ) (action : List ℕ) (to : ℕ) → trans_refusal components i from action to ≡ None → FitsTransition components i from action to
unfolding trans_refusal
fits_transition components i from action to h = transition_step components i from action to (slice_get components i) refl h

pub record FitsEvent (net : Net) (name : List ℕ) (parts : List Part) : Type 0 where
  pub absent : place_of name net.event_names ≡ None
  pub once : repeats parts ≡ false
  pub known : list_all (is_known net.components) parts ≡ true
  pub few : length net.events < 4000
  pub few_parts : length parts ≤ 16

pub fits_event : (net : Net) (name : List ℕ) (parts : List Part) → event_refusal net name parts ≡ None → FitsEvent net name parts
unfolding event_refusal
fits_event net name parts h =
    let a = known_none (is_some (place_of name net.event_names) || repeats parts) (list_all (is_known net.components) parts) (nat_le 4000 (length net.events) || nat_lt 16 (length parts)) h in
    let double = neither (is_some (place_of name net.event_names)) (repeats parts) a.0 in
    let past = neither (nat_le 4000 (length net.events)) (nat_lt 16 (length parts)) a.2 in
    record {
      absent = absent (place_of name net.event_names) double.0;
      once = double.1;
      known = a.1;
      few = most_not 4000 (length net.events) past.0;
      few_parts = less_not 16 (length parts) past.1;
    }

-- as many parts by number as by name
pub as_many : (net : Net) (named : List NamedPart) (parts : List Part) → parts_by_name net named ≡ Some parts → length named ≡ length parts
as_many net named parts h = length_all net named parts (all_found net named parts h)
