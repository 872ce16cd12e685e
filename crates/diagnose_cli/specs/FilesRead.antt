-- The files of a command, as they are read one after another, what stops it there, and what is read of them.
use Rattle.std.specs.Prelude.{◌≡◌, ◌<◌, ◌⊎◌, ℕ, ◌+◌, ⊤, List, [], ◌∷◌, ◌++◌, All, length, Option, None}
use Rattle.des_base.specs.CommandWords.{word_at}
use Rattle.des_net.specs.Network.{Net}
use Rattle.log_csv.specs.LogText.{log_of}
use Rattle.log_order.specs.Log.{Log as AlarmLog}
use Rattle.model_text.specs.ModelFaults.{network_of}
use Rattle.proof_ledger.specs.Checking.{check_proof}
use Rattle.proof_ledger.specs.declared.checker.Checked.{Checked}
use Rattle.proof_text.specs.CnfText.{Formula, formula_of}
use Rattle.proof_text.specs.LratText.{proof_of}
use Rattle.replay.specs.Traced.{word_of}
use Rattle.replay.specs.declared.run.RunStep.{RunStep}
use Rattle.endings.specs.declared.stop.Stop.{Stop}
use Rattle.endings.specs.Files.{Loads, IsText, StopsIn}
use Rattle.endings.specs.Texts.{FileKind, limit_of, fault_of_model, fault_of_text}

-- ---- one after another

-- these are the bytes of files of these kinds, from number i on, behind those that are read; no text has a fault
abbrev pub AreBytes : (List ℕ → Option (List ℕ)) → List (List ℕ) → ℕ → List FileKind → List (List ℕ) → List (List ℕ) → Type 0
AreBytes held words i [] files [] = ⊤
AreBytes held words i [] files (text ∷ texts) = ⊥
AreBytes held words i (kind ∷ kinds) files [] = ⊥
AreBytes held words i (kind ∷ kinds) files (text ∷ texts) = IsText held (word_at words i) (limit_of kind) (fault_of_text kind files) text × AreBytes held words (i + 1) kinds (files ++ text ∷ []) texts

-- why a command may stop at one of them
abbrev pub StopsAmong : Loads → List (List ℕ) → ℕ → List FileKind → List (List ℕ) → Stop → Type 0
StopsAmong l words i [] files stop = ⊥
StopsAmong l words i (kind ∷ kinds) files stop =
    StopsIn l i (word_at words i) (limit_of kind) (fault_of_text kind files) stop
    ⊎ ((text : List ℕ) × IsText l.held (word_at words i) (limit_of kind) (fault_of_text kind files) text × StopsAmong l words (i + 1) kinds (files ++ text ∷ []) stop)

-- the files of a command, which stand from word 1 on, are read, and P holds of their bytes
pub record AreReadAs (held : List ℕ → Option (List ℕ)) (words : List (List ℕ)) (kinds : List FileKind) (P : List (List ℕ) → Type 0) : Type 0 where
  pub texts : List (List ℕ)
  pub bytes : AreBytes held words 1 kinds [] texts
  pub are : P texts

-- ---- what is read of them

-- the network of a model text, which has no fault
pub record IsModelRead (texts : List (List ℕ)) (net : Net) : Type 0 where
  pub text : List ℕ
  pub texts_are : texts ≡ text ∷ []
  pub is : net ≡ network_of text
  pub well : fault_of_model text ≡ None

-- the formula of a formula text
pub record IsFormulaRead (texts : List (List ℕ)) (formula : Formula) : Type 0 where
  pub text : List ℕ
  pub texts_are : texts ≡ text ∷ []
  pub is : formula ≡ formula_of text

-- the outcome of the proof of a proof text over the formula of a formula text
pub record IsProofChecked (texts : List (List ℕ)) (checked : Checked) : Type 0 where
  pub formula : List ℕ
  pub proof : List ℕ
  pub texts_are : texts ≡ formula ∷ proof ∷ []
  pub is : checked ≡ check_proof (formula_of formula).clauses (proof_of proof)

-- what is read of some files, and of one behind them
pub record AreReadThen {A B : Type 0} (reads : List (List ℕ) → A → Type 0) (tells : A → List ℕ → B → Type 0) (texts : List (List ℕ)) (before : A) (last : B) : Type 0 where
  pub front : List (List ℕ)
  pub text : List ℕ
  pub texts_are : texts ≡ front ++ text ∷ []
  pub first : reads front before
  pub is : tells before text last

-- the log of a log text, whatever the network
abbrev pub IsLogRead : Net → List ℕ → AlarmLog → Type 0
IsLogRead net rows alarms = alarms ≡ log_of rows

-- the network of a model text, and the log of a log text
abbrev pub IsCaseRead : List (List ℕ) → Net → AlarmLog → Type 0
IsCaseRead texts net alarms = AreReadThen IsModelRead IsLogRead texts net alarms

-- the events of a run are the network's
abbrev pub EventsAreOf : Net → List RunStep → Type 0
EventsAreOf net run = All (λ e. e < length net.events) (word_of run)
