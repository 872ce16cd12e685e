-- What lines of states and events add.
use Rattle.std.proofs.Common.{◌≡◌, ℕ, Bool, List, [], ◌∷◌, length, cond, None, Some, refl, arith, ap, ◌∙◌}
use Rattle.des_base.specs.Names.{is_name_text}
use Rattle.des_net.specs.declared.refusal.BuildRefusal.TheVariants.{Unknown}
use Rattle.des_net.specs.Network.{Component, Net}
use Rattle.des_net.specs.Building.{state_refusal, with_state, change_component}
use Rattle.model_text.specs.ModelLines.{state}
use Rattle.model_text.specs.Growth.{grown, unless, last_place}
use Rattle.model_text.proofs.CodeLemmas.{none_either}

no_state : (components : List Component) (place : ℕ) (name : List ℕ) → length components ≡ 0 → state_refusal components place name ≡ Some Unknown
unfolding state_refusal
no_state [] place name h = refl
no_state (c ∷ cs) place name h = absurd (omega arith)

-- a state before any component
pub grown-homeless_state : (net : Net) (name : List ℕ) (initial : Bool) → length net.components ≡ 0 → grown net (state name initial) ≡ None
grown-homeless_state net name initial h =
    ap (λ refusal. cond (is_name_text name) (unless refusal (change_component (last_place net) (with_state name initial) net)) None) (no_state net.components (last_place net) name h)
    ∙ none_either (is_name_text name)

pub ruleset state_lines = (grown-homeless_state)
