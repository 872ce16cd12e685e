-- When the text that is printed of a network reads back as that network.
use Rattle.std.specs.Prelude.{◌≡◌, ⊤, ℕ, true, false, List, [], ◌∷◌, ◌++◌, map, All, None}
use Rattle.std.specs.List.{list_all, list_any}
use Rattle.std.specs.Option.{option_to_list}
use Rattle.des_base.specs.Names.{is_name_text}
use Rattle.des_net.specs.declared.parts.Trans.{Trans}
use Rattle.des_net.specs.Network.{Component, Event, Net}
use Rattle.des_net.specs.Building.{is_trans}
use Rattle.model_text.specs.ModelNetwork.{each_once}
use Rattle.model_text.specs.ModelFaults.{first_model_fault, network_of}
use Rattle.model_text.specs.PrintedModel.{model_text, name_at}

-- none of these transitions is among those before it
abbrev pub AreNew : (earlier : List Trans) → List Trans → Type 0
AreNew earlier [] = ⊤
AreNew earlier (t ∷ ts) = (list_any (is_trans t.from t.action t.to) earlier ≡ false) × AreNew (earlier ++ t ∷ []) ts

-- the names of the actions that the transitions take, one by one
abbrev pub actions_taken : Component → List (List ℕ)
actions_taken c = map (λ t. name_at c.action_names t.action) c.transitions

-- no transition stands twice, and the actions stand in the order in which transitions first take them
pub record IsInOrder (c : Component) : Type 0 where
  pub once : AreNew [] c.transitions
  pub in_order : each_once [] (actions_taken c) ≡ c.action_names

-- a label is a name
abbrev pub HasNamedLabel : Event → Type 0
HasNamedLabel e = list_all is_name_text (option_to_list e.label) ≡ true

-- what is true of a network that was read from a text
pub record IsAsRead (net : Net) : Type 0 where
  pub components : All IsInOrder net.components
  pub events : All HasNamedLabel net.events

-- the printed text has no fault and says this network
pub record ReadsBack (net : Net) : Type 0 where
  pub well : first_model_fault (model_text net) ≡ None
  pub network : network_of (model_text net) ≡ net

-- What a text without a fault says is printed as a text that says the same.
pub record ModelsReadBack : Type 0 where
  pub order : (text : List ℕ) → first_model_fault text ≡ None → IsAsRead (network_of text)
  pub back : (text : List ℕ) → first_model_fault text ≡ None → ReadsBack (network_of text)
