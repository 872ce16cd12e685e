-- What a reply tells of a refutation, by what was refuted.
use Rattle.std.proofs.Common.{◌≡◌, ◌≤◌, ◌∙◌, ℕ, zero, suc, List, Option, Some, None, ap, refl, sym, subst, All, codes}
use Rattle.des_net.specs.Building.{IsDraft}
use Rattle.des_net.specs.Network.{Net, IsNetwork}
use Rattle.inquiries.specs.Refuted.{IsVerifiedRefutation, IsRefutedBelow, IsRefutedFor, IsRefutedWithin, IsRefuting}
use Rattle.inquiries.specs.declared.refutation.Refuted.{Refuted}
use Rattle.inquiries.specs.declared.refutation.Refuted.TheVariants.{Within, Nothing, Undecided as NotRefuted}
use Rattle.answers.specs.declared.found.Found.{Found}
use Rattle.answers.specs.declared.found.Found.TheVariants.{Explained, Absent, Many, Undecided}
use Rattle.log_order.specs.Adding.{IsLog}
use Rattle.log_order.specs.Log.{Log as AlarmLog}
use Rattle.proof_ledger.specs.Book.{BookEntry}
use Rattle.proof_ledger.specs.declared.checker.ProofStep.{ProofStep}
use Rattle.proof_text.specs.PrintedText.{ReadsBackAsProof, steps_text}
use Rattle.proof_text.specs.ProofNumbers.{NumbersAscend, HasNoZero}
use Rattle.report.specs.Replies.{EventsKnown}
use Rattle.endings.specs.declared.ending.Kind.{Kind}
use Rattle.endings.specs.declared.ending.Kind.TheVariants.{Nothing as NothingToSay, Undecided as LeftOpen}
use Rattle.diagnose_cli.specs.Questions.{proof_question, AnswersTo}
use Rattle.diagnose_cli.specs.Replies.{TellsBelow, TellsProof, TellsRefutation, kind_of_found, reply_of_found, reply_of_proof}
use Rattle.diagnose_cli.proofs.Diagnosing.{answers_question, found_decided}
use Rattle.verdict_telling.proofs.Runs.{found_known}
use Rattle.diagnose_cli.proofs.ProofsReadBack.{tells_refutation}
use Rattle.replay.specs.declared.TheConstants.{MOST_FAULTS}

module _ (net : Net) (log : AlarmLog) (n : ℕ) (book : List BookEntry) where
  -- by the answer, where T is what a reply tells
  abbrev Comes : Found → ((Kind × List ℕ) → Type 0) → Refuted → Type 0
  Comes found T (Within bound steps) = IsVerifiedRefutation net log n bound book steps × NumbersAscend 0 steps × All HasNoZero steps × ((reply : Kind × List ℕ) → TellsRefutation net log n bound book reply → T reply)
  Comes found T Nothing = (reply : Kind × List ℕ) → reply ≡ (NothingToSay, codes "NOTHING\n") → T reply
  Comes found T (NotRefuted other) = (other ≡ found) × ((reply : Kind × List ℕ) → reply ≡ reply_of_found net n found → T reply)

  within : (found : Found) (T : (Kind × List ℕ) → Type 0) (bound : Option ℕ) (answer : Refuted) → ((reply : Kind × List ℕ) → TellsRefutation net log n bound book reply → T reply) → IsRefutedWithin net log n bound book answer → Comes found T answer
  within found T bound answer tells h = subst (Comes found T) (sym h.is) (h.refuted, h.ascend, h.above, tells)

  below : (found : Found) (faults : ℕ) (answer : Refuted) → IsRefutedBelow net log n faults book answer → Comes found (TellsBelow net log n faults book) answer
  below found zero answer h = subst (Comes found (TellsBelow net log n 0 book)) (sym h) (λ reply is. is)
  below found (suc k) answer h = within found (TellsBelow net log n (suc k) book) (Some k) answer (λ reply tells. tells) h

  comes : (found : Found) (answer : Refuted) → IsRefutedFor net log n book found answer → Comes found (TellsProof net log n book found) answer
  comes (Explained best) answer h = below (Explained best) best.faults answer h
  comes Absent answer h = within Absent (TellsProof net log n book Absent) None answer (λ reply tells. tells) h
  comes (Many best) answer h = within (Many best) (TellsProof net log n book (Many best)) (Some MOST_FAULTS) answer (λ reply tells. tells) h
  comes (Undecided lo best) answer h = subst (Comes (Undecided lo best) (TellsProof net log n book (Undecided lo best))) (sym h) (refl, λ reply is. is)

module _ (net : Net) (log : AlarmLog) (n budget : ℕ) (book : List BookEntry) (answer : Refuted) (says : IsRefuting net log n budget book answer) where
  comes_so : (other : Refuted) → answer ≡ other → Comes net log n book says.found (TellsProof net log n book says.found) other
  comes_so other is = subst (Comes net log n book says.found (TellsProof net log n book says.found)) is (comes net log n book says.found answer says.refuted)

  -- a proof can be printed,
  pub can_print : (bound : Option ℕ) (steps : List ProofStep) → answer ≡ Within bound steps → NumbersAscend 0 steps × All HasNoZero steps
  can_print bound steps is = let so = comes_so (Within bound steps) is in (so.1, so.2)

  -- the events of what was found are known,
  pub open_known : (found : Found) → answer ≡ NotRefuted found → EventsKnown net found
  open_known found is = subst (EventsKnown net) (sym (comes_so (NotRefuted found) is).0) (found_known net log n budget book says.found says.diagnosed)

  -- and each reply is one to the question
  module _ (network : IsNetwork net) (whole : IsDraft net) (log_whole : IsLog log) (few : n ≤ 1000) where
    answers_by : (reply other : Kind × List ℕ) → reply ≡ other → TellsProof net log n book says.found reply → (other.0 ≡ LeftOpen → kind_of_found says.found ≡ LeftOpen) → AnswersTo proof_question budget net log n book reply
    answers_by reply other told tells open_left = record {
      says = record { found = says.found; holds = answers_question net log n budget book says.found network whole log_whole few says.diagnosed; tells = tells };
      decided = λ enough is. found_decided net log n budget book says.found says.diagnosed enough (open_left (sym (ap (λ (r : Kind × List ℕ). r.0) told) ∙ is));
    }

    pub answers_within : (bound : Option ℕ) (steps : List ProofStep) → answer ≡ Within bound steps → (reply : Kind × List ℕ) → reply ≡ reply_of_proof bound steps → ReadsBackAsProof steps (steps_text steps) → AnswersTo proof_question budget net log n book reply
    answers_within bound steps is reply told reads =
        let so = comes_so (Within bound steps) is in
        answers_by reply (reply_of_proof bound steps) told (so.3 reply (tells_refutation net log n bound book steps reply so.0 reads told)) (λ open_left. cc)

    pub answers_nothing : answer ≡ Nothing → (reply : Kind × List ℕ) → reply ≡ (NothingToSay, codes "NOTHING\n") → AnswersTo proof_question budget net log n book reply
    answers_nothing is reply told = answers_by reply (NothingToSay, codes "NOTHING\n") told (comes_so Nothing is reply told) (λ open_left. cc)

    pub answers_undecided : (found : Found) → answer ≡ NotRefuted found → (reply : Kind × List ℕ) → reply ≡ reply_of_found net n found → AnswersTo proof_question budget net log n book reply
    answers_undecided found is reply told =
        let so = comes_so (NotRefuted found) is in
        let of_found = told ∙ ap (reply_of_found net n) so.0 in
        answers_by reply (reply_of_found net n says.found) of_found (so.1 reply of_found) (λ open_left. open_left)
