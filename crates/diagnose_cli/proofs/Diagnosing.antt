-- The run of what is found replays, and a budget that is large enough decides.
use Rattle.std.proofs.Common.{◌≡◌, ◌≢◌, ◌≤◌, ◌^◌, ℕ, List, map, ap, sym, ◌∙◌, arith}
use Rattle.des_net.specs.Building.{IsDraft}
use Rattle.des_net.specs.Network.{Net, IsNetwork}
use Rattle.inquiries.specs.Diagnosed.{IsDiagnosed}
use Rattle.answers.specs.declared.found.Found.{Found}
use Rattle.answers.specs.declared.found.Found.TheVariants.{Undecided as NotDecided}
use Rattle.least_faults.proofs.Deciding.{undecided_is_small}
use Rattle.log_order.specs.Adding.{IsLog}
use Rattle.log_order.specs.Log.{Log}
use Rattle.proof_ledger.specs.Book.{BookEntry, axiomatic}
use Rattle.replay.specs.QuestionSize.{variable_bound}
use Rattle.run_decode.specs.QuestionAxioms.{question_axioms, question_built}
use Rattle.endings.specs.declared.ending.Kind.TheVariants.{Undecided}
use Rattle.diagnose_cli.specs.Questions.{diagnose_question, AnswersTo}
use Rattle.diagnose_cli.specs.Replies.{kind_of_found, reply_of_found, AnswersQuestion, SaysBenched}
use Rattle.diagnose_cli.specs.Tasks.{Reply}
use Rattle.gen_plant.specs.Plant.{plant_net, plant_log}
use Rattle.diagnose_cli.proofs.RepliesReplay.{run_replays}

pub answers_question : (net : Net) (log : Log) (n budget : ℕ) (book : List BookEntry) (found : Found) → IsNetwork net → IsDraft net → IsLog log → n ≤ 1000 → IsDiagnosed net log n budget book found → AnswersQuestion net log n budget book found
answers_question net log n budget book found network whole log_whole few diagnosed = record {
  diagnosed = diagnosed;
  replays = run_replays _ _ diagnosed.answered.left.since net log n budget found network whole log_whole few diagnosed.answered.found;
}

-- ---- a budget that is large enough

module _ (net : Net) (log : Log) (n budget : ℕ) (book : List BookEntry) where
  -- nothing stays open
  pub found_decided : (found : Found) → IsDiagnosed net log n budget book found → 3 ^ variable_bound net log n ≤ budget → kind_of_found found ≢ Undecided
  found_decided (NotDecided lo best) holds enough is =
      let small = undecided_is_small holds.meanings (question_built net log n 0) net log n budget lo best (map axiomatic (question_axioms net log n 0)) book holds.answered in
      omega (arith, small, enough)
  found_decided _ holds enough is = cc

  -- the reply that tells what is found
  pub found_answers : (found : Found) → IsNetwork net → IsDraft net → IsLog log → n ≤ 1000 → IsDiagnosed net log n budget book found → (reply : Reply) → reply ≡ reply_of_found net n found → AnswersTo diagnose_question budget net log n book reply
  found_answers found network whole log_whole few diagnosed reply is = record {
    says = record { found = found; holds = answers_question net log n budget book found network whole log_whole few diagnosed; is = is };
    decided = λ enough undecided. found_decided found diagnosed enough (sym (ap (λ (r : Reply). r.0) is) ∙ undecided);
  }

-- a summary of it
pub summary_decided : (units start n budget : ℕ) (book : List BookEntry) (reply : Reply) → SaysBenched units start n budget book reply → 3 ^ variable_bound (plant_net units) (plant_log units start) n ≤ budget → reply.0 ≢ Undecided
summary_decided units start n budget book reply says enough is = found_decided (plant_net units) (plant_log units start) n budget book says.found says.holds.diagnosed enough (sym (ap (λ (r : Reply). r.0) says.is) ∙ is)
