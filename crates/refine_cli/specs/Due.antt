-- How the program may end: with the text of a model that refines the one that the words name, or by why there is none.
use Rattle.std.specs.Prelude.{◌≡◌, ◌≢◌, ◌⊎◌, ⊤, ℕ, ◌≤◌, List, length, Result, Ok, Err, None}
use Rattle.des_base.specs.CommandWords.{word_at}
use Rattle.des_net.specs.Network.{Net}
use Rattle.model_text.specs.ModelFaults.{first_model_fault, network_of}
use Rattle.model_text.specs.PrintedModel.{model_text}
use Rattle.refinement.specs.Refinement.{IsRefinementOf}
use Rattle.endings.specs.declared.ending.Kind.{Kind}
use Rattle.endings.specs.declared.ending.Kind.TheVariants.{Done}
use Rattle.endings.specs.declared.stop.Stop.{Stop}
use Rattle.endings.specs.declared.stop.Stop.TheVariants.{Usage, Load, Faulty, Long, NoFault, Large, Memory}
use Rattle.endings.specs.Files.{Loads, IsReadAs, StopsIn}
use Rattle.endings.specs.Texts.{fault_of_model, limit_of, model}
use Rattle.endings.specs.Transcripts.{Ending, IsOne}

-- the words are the program's name and that of a model's file, which has number 1
abbrev pub IsCall : List (List ℕ) → Type 0
IsCall words = length words ≡ 2

-- the reply is the text of a network that refines this one; it is no longer than a model's may be, or the network's own
pub record SaysRefined (net : Net) (reply : Kind × List ℕ) : Type 0 where
  pub done : reply.0 ≡ Done
  pub well : first_model_fault reply.1 ≡ None
  pub refines : IsRefinementOf (network_of reply.1) net
  pub fits : (length reply.1 ≤ limit_of model) ⊎ (reply.1 ≡ model_text net)

-- the model that the words name is read from a text of which P holds
abbrev pub ReadsModel : Loads → List (List ℕ) → (List ℕ → Type 0) → Type 0
ReadsModel l words P = IsReadAs l.held (word_at words 1) (limit_of model) fault_of_model P

-- the words name no model, or the model can't be had
abbrev pub MayStop : Loads → List (List ℕ) → Stop → Type 0
MayStop l words Usage = length words ≢ 2
MayStop l words (Load file) = IsCall words × StopsIn l 1 (word_at words 1) (limit_of model) fault_of_model (Load file)
MayStop l words (Faulty text) = IsCall words × StopsIn l 1 (word_at words 1) (limit_of model) fault_of_model (Faulty text)
MayStop l words (Long file) = IsCall words × StopsIn l 1 (word_at words 1) (limit_of model) fault_of_model (Long file)
MayStop l words NoFault = ⊥
MayStop l words (Large size) = ⊥
MayStop l words Memory = ⊤

-- it says one reply over the text of the model, or stops
abbrev pub MayEnd : Loads → List (List ℕ) → Ending → Type 0
MayEnd l words (Ok told) = IsCall words × ReadsModel l words (λ text. IsOne (SaysRefined (network_of text)) told)
MayEnd l words (Err stop) = MayStop l words stop

-- a reply that it may say, whole or cut short, or why it may stop
abbrev pub IsDue : Loads → List (List ℕ) → Result (Kind × List ℕ) Stop → Type 0
IsDue l words (Ok reply) = IsCall words × ReadsModel l words (λ text. SaysRefined (network_of text) reply)
IsDue l words (Err stop) = MayStop l words stop
