-- The law that ties the reader's step to the definitions by selection.
use Rattle.std.specs.Prelude.{◌≡◌, List, [], ◌∷◌, ◌++◌, Some, None, IsSome, All}
use Rattle.std.specs.List.{AllByRecursion}
use Rattle.des_base.specs.Names.{IsName}
use Rattle.des_net.specs.Network.{Component, Net}
use Rattle.des_net.specs.Building.{IsDraft}
use Rattle.model_text.specs.ModelLines.{ModelLine}
use Rattle.model_text.specs.ModelNetwork.{network_of_lines}
use Rattle.model_text.specs.ModelFaults.{model_line_code}
use Rattle.model_text.specs.Growth.{grown}
use Rattle.model_text.specs.LineCodes.{code_by}

-- the states and the actions of a component are called by names
pub record HasNamedParts (component : Component) : Type 0 where
  pub states : AllByRecursion IsName component.state_names
  pub actions : AllByRecursion IsName component.action_names

-- the components are called by names, and so are their states and actions
pub record HasNames (net : Net) : Type 0 where
  pub called : AllByRecursion IsName net.component_names
  pub components : All HasNamedParts net.components

-- a line that adds to the network has no code, and the network with it is that of one line more
pub record Grows (earlier : List ModelLine) (line : ModelLine) (net : Net) : Type 0 where
  pub well : model_line_code earlier line ≡ None
  pub network : network_of_lines (earlier ++ line ∷ []) ≡ net

-- Over the network of any lines, a line adds what it says or is refused, and it is refused exactly if it has a code, which follows from the network.
pub record LinesGrow : Type 0 where
  pub grows : (earlier : List ModelLine) (line : ModelLine) (net : Net) → IsDraft (network_of_lines earlier) → HasNames (network_of_lines earlier) → grown (network_of_lines earlier) line ≡ Some net → Grows earlier line net
  pub refused : (earlier : List ModelLine) (line : ModelLine) → IsDraft (network_of_lines earlier) → HasNames (network_of_lines earlier) → grown (network_of_lines earlier) line ≡ None → IsSome (model_line_code earlier line)
  pub coded : (earlier : List ModelLine) (line : ModelLine) → IsDraft (network_of_lines earlier) → model_line_code earlier line ≡ code_by (network_of_lines earlier) line
