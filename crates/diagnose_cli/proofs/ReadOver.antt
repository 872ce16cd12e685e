-- What is so of the values of files is so over their bytes.
use Rattle.std.proofs.Common.{◌≡◌, ◌∙◌, ℕ, List, [], ◌∷◌, ◌++◌, None, ap, sym, subst}
use Rattle.des_net.specs.Network.{Net}
use Rattle.inquiries.specs.declared.question.Case.{Case}
use Rattle.log_csv.specs.LogText.{log_of}
use Rattle.log_csv.specs.ScriptText.{script_of}
use Rattle.log_csv.specs.declared.row.Row.{Row}
use Rattle.log_order.specs.Log.{Log as AlarmLog}
use Rattle.model_text.specs.ModelFaults.{network_of}
use Rattle.proof_ledger.specs.Checking.{check_proof}
use Rattle.proof_ledger.specs.declared.checker.Checked.{Checked}
use Rattle.proof_text.specs.CnfText.{Formula, formula}
use Rattle.proof_text.specs.LratText.{proof_of}
use Rattle.proof_text.specs.declared.cnf.Cnf.{Cnf}
use Rattle.endings.specs.Texts.{fault_of_model}
use Rattle.diagnose_cli.specs.FilesRead.{AreReadThen, IsCaseRead, IsFormulaRead, IsModelRead, IsProofChecked}

module _ (G : List (List ℕ) → Type 0) (texts : List (List ℕ)) where
  pub over_none : texts ≡ [] → G [] → G texts
  over_none none g = subst G (sym none) g

  pub over_model : (F : Net → Type 0) → ((text : List ℕ) → fault_of_model text ≡ None → F (network_of text) → G (text ∷ [])) → (net : Net) → IsModelRead texts net → F net → G texts
  over_model F g net read f = subst G (sym read.texts_are) (g read.text read.well (subst F read.is f))

  -- a model, and one file more of which P holds
  pub over_second : {B : Type 0} (F : Net → Type 0) (P : Net → List ℕ → B → Type 0) (value : B) → ((text second : List ℕ) → P (network_of text) second value → F (network_of text) → G (text ∷ second ∷ [])) → (net : Net) → AreReadThen IsModelRead P texts net value → F net → G texts
  over_second F P value g net read f =
      let first = read.first in
      subst G (sym read.texts_are) (subst (λ (ts : List (List ℕ)). G (ts ++ read.text ∷ [])) (sym first.texts_are) (g first.text read.text (subst (λ (n : Net). P n read.text value) first.is read.is) (subst F first.is f)))

  pub over_case : (F : Net → AlarmLog → Type 0) → ((text alarms : List ℕ) → F (network_of text) (log_of alarms) → G (text ∷ alarms ∷ [])) → (net : Net) (log : AlarmLog) → IsCaseRead texts net log → F net log → G texts
  over_case F g net log read f = over_second (λ n. F n log) (λ n rows a. a ≡ log_of rows) log (λ text rows is h. g text rows (subst (F (network_of text)) is h)) net read f

  pub over_script : (F : Net → List Row → Type 0) → ((text lines : List ℕ) → F (network_of text) (script_of lines) → G (text ∷ lines ∷ [])) → (net : Net) (rows : List Row) → AreReadThen IsModelRead (λ n lines r. r ≡ script_of lines) texts net rows → F net rows → G texts
  over_script F g net rows read f = over_second (λ n. F n rows) (λ n lines r. r ≡ script_of lines) rows (λ text lines is h. g text lines (subst (F (network_of text)) is h)) net read f

-- the outcome of a proof, over the formula that is read before it
pub outcome_read : (texts : List (List ℕ)) (cnf : Cnf) (checked : Checked)
    → AreReadThen (λ ts (c : Cnf). IsFormulaRead ts (formula c.vars c.clauses.clauses)) (λ (c : Cnf) text (o : Checked). o ≡ check_proof c.clauses.clauses (proof_of text)) texts cnf checked → IsProofChecked texts checked
outcome_read texts cnf checked read = record {
  formula = read.first.text;
  proof = read.text;
  texts_are = read.texts_are ∙ ap (λ (ts : List (List ℕ)). ts ++ read.text ∷ []) read.first.texts_are;
  is = read.is ∙ ap (λ (f : Formula). check_proof f.clauses (proof_of read.text)) read.first.is;
}

-- a model, a log, and one file more of which P holds
module _ (G : List (List ℕ) → Type 0) (texts : List (List ℕ)) where
  pub over_third : {B : Type 0} (F : Net → AlarmLog → Type 0) (P : Net → List ℕ → B → Type 0) (value : B) → ((text alarms third : List ℕ) → P (network_of text) third value → F (network_of text) (log_of alarms) → G (text ∷ alarms ∷ third ∷ []))
      → (case : Case) → AreReadThen (λ ts (c : Case). IsCaseRead ts c.net c.log) (λ (c : Case) third b. P c.net third b) texts case value → F case.net case.log → G texts
  over_third F P value g case read f =
      subst G (sym read.texts_are)
      (over_case (λ ts. G (ts ++ read.text ∷ [])) read.front (λ n log. P n read.text value × F n log) (λ text alarms h. g text alarms read.text h.0 h.1) case.net case.log read.first (read.is, f))
