-- What a refinement promises: each question has the same answer, whichever of the two networks it is asked of.
use Rattle.std.specs.Prelude.{◌↔◌, ℕ, List}
use Rattle.des_net.specs.Network.{Net, IsNetwork}
use Rattle.des_net.specs.Run.{IsRun}
use Rattle.refinement.specs.Refinement.{IsRefinementOf}
use Rattle.refined_answers.specs.Behaviour.{BehaveAlike, HaveSamePieces}
use Rattle.refined_answers.specs.Texts.{HaveSameReplays, HaveSamePrices}
use Rattle.refined_answers.specs.AnswerAlike.{HaveSameExplanations, HaveSameTotals, HaveSameVerdicts, HaveSameTwins, AnswerAlike}

-- ---- refinements

-- A word is a run of a refinement exactly if it is one of the network.
abbrev pub RefinementsHaveSameRuns : Type 0
RefinementsHaveSameRuns = (net fine : Net) → IsRefinementOf fine net → (word : List ℕ) → IsRun fine word ↔ IsRun net word

-- Refinements behave alike: their events are the same too, and touch a common component exactly if they do in the network.
abbrev pub RefinementsBehaveAlike : Type 0
RefinementsBehaveAlike = (net fine : Net) → IsNetwork net → IsNetwork fine → IsRefinementOf fine net → BehaveAlike net fine

-- So they answer alike.
abbrev pub RefinementsAnswerAlike : Type 0
RefinementsAnswerAlike = (net fine : Net) → IsNetwork net → IsNetwork fine → IsRefinementOf fine net → AnswerAlike net fine

-- A network refines itself.
abbrev pub NetworksRefineThemselves : Type 0
NetworksRefineThemselves = (net : Net) → IsRefinementOf net net

-- What refines a refinement refines the network.
abbrev pub RefinementsGoOn : Type 0
RefinementsGoOn = (net fine finer : Net) → IsRefinementOf fine net → IsRefinementOf finer fine → IsRefinementOf finer net

-- ---- any two networks that behave alike

-- Their words take as many pieces and have as many faults.
abbrev pub BehaviourGivesPieces : Type 0
BehaviourGivesPieces = (net other : Net) → BehaveAlike net other → HaveSamePieces net other

-- The same explains a log.
abbrev pub BehaviourGivesExplanations : Type 0
BehaviourGivesExplanations = (net other : Net) → BehaveAlike net other → HaveSameExplanations net other

-- What explains it has the same total.
abbrev pub BehaviourGivesTotals : Type 0
BehaviourGivesTotals = (net other : Net) → BehaveAlike net other → HaveSameTotals net other

-- Each event has the same verdict.
abbrev pub BehaviourGivesVerdicts : Type 0
BehaviourGivesVerdicts = (net other : Net) → BehaveAlike net other → HaveSameVerdicts net other

-- The same runs are twins.
abbrev pub BehaviourGivesTwins : Type 0
BehaviourGivesTwins = (net other : Net) → BehaveAlike net other → HaveSameTwins net other

-- A run is answered the same when it is read and replayed.
abbrev pub BehaviourGivesReplays : Type 0
BehaviourGivesReplays = (net other : Net) → BehaveAlike net other → HaveSameReplays net other

-- A text of costs gives the same costs.
abbrev pub BehaviourGivesPrices : Type 0
BehaviourGivesPrices = (net other : Net) → BehaveAlike net other → HaveSamePrices net other

-- All of it together.
abbrev pub BehaviourGivesAnswers : Type 0
BehaviourGivesAnswers = (net other : Net) → BehaveAlike net other → AnswerAlike net other
