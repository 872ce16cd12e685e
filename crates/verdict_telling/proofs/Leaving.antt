-- What is left in the book behind what was found.
use Rattle.std.proofs.Common.{◌≡◌, ◌*◌, ◌∙◌, ℕ, inl, inr, Bool, Result, List, [], length, count_by, refl, sym, ap, subst, arith, append-nil}
use Rattle.answers.specs.declared.found.Best.{Best}
use Rattle.answers.specs.declared.found.Found.TheVariants.{Explained}
use Rattle.des_base.specs.Outside.{Output}
use Rattle.des_net.specs.Network.{Net}
use Rattle.fault_verdicts.proofs.Riders.{asked_alone, asked_at_last}
use Rattle.fault_verdicts.specs.Judges.{Matter}
use Rattle.fault_verdicts.specs.Ready.{AreReadyForVerdicts}
use Rattle.fault_verdicts.specs.Riders.{AreAskedOf}
use Rattle.inquiries.specs.Begun.{HasAskedWithin, HasQuestion}
use Rattle.inquiries.specs.Diagnosed.{IsDiagnosed}
use Rattle.sat_solve.proofs.Freshness.{fresh_both}
use Rattle.sat_solve.specs.Leaving.{HaveLearntFresh}
use Rattle.least_faults.specs.Growing.{HasGrownWithin}
use Rattle.least_faults.specs.Parts.{BelongTo}
use Rattle.least_faults.specs.declared.parts.Parts.{Parts}
use Rattle.log_order.specs.Log.{Log}
use Rattle.proof_ledger.specs.Book.{BookEntry, IsValidBook, axioms_of}
use Rattle.proof_ledger.specs.Fresh.{is_learnt}
use Rattle.run_decode.proofs.Faults.{count_append}
use Rattle.step_encode.specs.FaultInputs.{fault_events}
use Rattle.telling.specs.declared.each.Broken.{Broken}
use Rattle.verdict_telling.proofs.Ends.{asked_in_order}
use Rattle.verdict_telling.specs.Left.{BeginsWithQuestion, StandsInOrder}
use Rattle.verdict_telling.specs.Replied.{TellsVerdicts, matter_behind}

module _ (net : Net) (log : Log) (n budget : ℕ) (first book : List BookEntry) (question : HasQuestion net log n (HasAskedWithin budget) first) where
  -- behind the question fault events were asked about
  pub left_behind : HasGrownWithin (length (fault_events net) * budget) first book → AreAskedOf net log n (axioms_of book) → IsValidBook book → BeginsWithQuestion net log n budget book
  left_behind grown asked valid = record {
    first = first;
    question = question;
    since = grown.since;
    whole = grown.whole;
    asked = asked;
    learnt = record {
      within = (let few = question.beside.learnt.within in
          let more = grown.within in
          let all = ap (count_by is_learnt) grown.whole ∙ count_append is_learnt first grown.since in
          omega (arith, few, more, all));
      fresh = subst (HaveLearntFresh []) (sym grown.whole) (fresh_both [] first first grown.since refl question.beside.learnt.fresh grown.fresh);
      valid = valid;
    };
  }

-- or nothing was
pub left_alone : (net : Net) (log : Log) (n budget : ℕ) (book : List BookEntry) → HasQuestion net log n (HasAskedWithin budget) book → BeginsWithQuestion net log n budget book
left_alone net log n budget book question = record {
  first = book;
  question = question;
  since = [];
  whole = sym (append-nil book);
  asked = asked_alone net log n question.columns (axioms_of book) question.axioms;
  learnt = record { within = (let few = question.beside.learnt.within in omega (arith, few)); fresh = question.beside.learnt.fresh; valid = question.beside.learnt.valid };
}

-- by the parts of a judge at last, which belong to what is judged
pub asked_by_judge : {R : Type 0} (may : R → ℕ → Type 0) (gives : R → ℕ → ℕ → Type 0) (net : Net) (log : Log) (n : ℕ) (of begun : Matter) (parts : Parts R) (last new : List BookEntry) → of ≡ begun → begun.net ≡ net → begun.log ≡ log → begun.steps ≡ n → BelongTo of.net of.log parts → parts.step.steps ≡ of.steps
    → new ≡ last → AreReadyForVerdicts may gives parts last → AreAskedOf net log n (axioms_of new)
asked_by_judge may gives net log n of begun parts last new stays of_net of_log time belong steps same ready =
    let here = asked_at_last of.net of.log of.steps parts last belong steps ready.1.built in
    subst (λ (book : List BookEntry). AreAskedOf net log n (axioms_of book)) (sym same)
    (subst (λ (k : ℕ). AreAskedOf net log k (axioms_of last)) (ap (λ (m : Matter). m.steps) stays ∙ time)
    (subst (λ (l : Log). AreAskedOf net l of.steps (axioms_of last)) (ap (λ (m : Matter). m.log) stays ∙ of_log)
    (subst (λ (m : Net). AreAskedOf m of.log of.steps (axioms_of last)) (ap (λ (m : Matter). m.net) stays ∙ of_net) here)))

-- by what was asked within the steps of the parts
pub behind_found : (net : Net) (log : Log) (n steps budget : ℕ) (first book : List BookEntry) → steps ≡ n → HasQuestion net log n (HasAskedWithin budget) first → (HasQuestion net log steps (HasAskedWithin budget) first → BeginsWithQuestion net log steps budget book)
    → BeginsWithQuestion net log n budget book
behind_found net log n steps budget first book same question behind =
    subst (λ (k : ℕ). BeginsWithQuestion net log k budget book) same (behind (subst (λ (k : ℕ). HasQuestion net log k (HasAskedWithin budget) first) (sym same) question))

-- by how the book of a judge grew
pub grown_from : (net : Net) (m : Matter) (budget : ℕ) (first old last new : List BookEntry) → m.budget ≡ budget → first ≡ old → new ≡ last → HasGrownWithin (length (fault_events net) * m.budget) first last → HasGrownWithin (length (fault_events net) * budget) old new
grown_from net m budget first old last new same begins ends grown =
    subst (λ (book : List BookEntry). HasGrownWithin (length (fault_events net) * budget) old book) (sym ends)
    (subst (λ (book : List BookEntry). HasGrownWithin (length (fault_events net) * budget) book last) begins (subst (λ (k : ℕ). HasGrownWithin (length (fault_events net) * k) first last) same grown))

-- ---- in order

-- the question of the log alone
pub in_order_alone : (net : Net) (log : Log) (n budget : ℕ) (book : List BookEntry) → HasQuestion net log n (HasAskedWithin budget) book → StandsInOrder net log n budget book
in_order_alone net log n budget book question = record { first = book; question = question; behind = inl refl }

-- and behind it what was told on fault events, within the steps of the parts
pub in_order_behind : (net : Net) (log : Log) (n steps budget : ℕ) (best : Best) (first book : List BookEntry) (before now : Output) (rose : Type 0) (result : Result Bool Broken) → steps ≡ n → HasQuestion net log n (HasAskedWithin budget) first → IsDiagnosed net log n budget first (Explained best)
    → TellsVerdicts (matter_behind net log steps budget best) first book before now rose result → StandsInOrder net log n budget book
in_order_behind net log n steps budget best first book before now rose result same question diagnosed tells = record {
  first = first;
  question = question;
  behind = inr (record {
    best = best;
    diagnosed = diagnosed;
    asked = asked_in_order (matter_behind net log n budget best) first book before now rose result (subst (λ (k : ℕ). TellsVerdicts (matter_behind net log k budget best) first book before now rose result) same tells);
  });
}
