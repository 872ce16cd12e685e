-- The lines that begin a component.
use Rattle.std.proofs.Common.{◌≡◌, ℕ, Bool, true, false, cond, List, [], ◌∷◌, Option, None, Some, refl}
use Rattle.std.specs.Prelude.{bytes_eq, codes, option_map}
use Rattle.std.specs.Option.{option_map_or}
use Rattle.model_text.specs.ModelLines.{ModelLine, state, event, NamedPart, parts_of_tokens, state_line, transition_line, event_line, after_flags, after_label}
use Rattle.model_text.specs.ModelNetwork.{begins_component}

-- ---- a line that begins no component

pub state_begins : (tokens : List (List ℕ)) → option_map_or begins_component (state_line tokens) false ≡ false
state_begins [] = refl
state_begins (name ∷ []) = refl
state_begins (name ∷ word ∷ []) = marked (bytes_eq word (codes "init"))
  where
    marked : (b : Bool) → option_map_or begins_component (cond b (Some (state name true)) None) false ≡ false
    marked true = refl
    marked false = refl
state_begins (name ∷ word ∷ more ∷ tokens) = refl

pub transition_begins : (tokens : List (List ℕ)) → option_map_or begins_component (transition_line tokens) false ≡ false
transition_begins [] = refl
transition_begins (from ∷ []) = refl
transition_begins (from ∷ action ∷ []) = refl
transition_begins (from ∷ action ∷ to ∷ []) = refl
transition_begins (from ∷ action ∷ to ∷ more ∷ tokens) = refl

flags_begin : (name : List ℕ) (label : Option (List ℕ)) (fault : Bool) (tokens : List (List ℕ)) → option_map_or begins_component (after_flags name label fault tokens) false ≡ false
flags_begin name label fault [] = refl
flags_begin name label fault (token ∷ []) = refl
flags_begin name label fault (token ∷ part ∷ parts) = named (bytes_eq token (codes ":")) (parts_of_tokens (part ∷ parts))
  where
    named : (b : Bool) (o : Option (List NamedPart)) → option_map_or begins_component (cond b (option_map (λ named. event name label fault named) o) None) false ≡ false
    named true None = refl
    named true (Some ps) = refl
    named false o = refl

either : (b : Bool) (x y : Option ModelLine) → option_map_or begins_component x false ≡ false → option_map_or begins_component y false ≡ false → option_map_or begins_component (cond b x y) false ≡ false
either true x y h k = h
either false x y h k = k

label_begins : (name : List ℕ) (label : Option (List ℕ)) (tokens : List (List ℕ)) → option_map_or begins_component (after_label name label tokens) false ≡ false
label_begins name label [] = refl
label_begins name label (token ∷ tokens) = either (bytes_eq token (codes "fault")) _ _ (flags_begin name label true tokens) (flags_begin name label false (token ∷ tokens))

pub event_begins : (tokens : List (List ℕ)) → option_map_or begins_component (event_line tokens) false ≡ false
event_begins [] = refl
event_begins (name ∷ []) = refl
event_begins (name ∷ token ∷ []) = refl
event_begins (name ∷ token ∷ next ∷ tokens) = either (bytes_eq token (codes "alarm")) _ _ (label_begins name (Some next) tokens) (label_begins name None (token ∷ next ∷ tokens))

pub ruleset no_beginnings = (state_begins, transition_begins, event_begins)
