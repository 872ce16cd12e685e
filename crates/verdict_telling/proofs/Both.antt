-- What was found is told first, and then the verdicts.
use Rattle.std.proofs.Common.{◌≡◌, ◌≤◌, ◌∙◌, inl, inr, ℕ, ◌+◌, Bool, List, [], ◌∷◌, length, Result, Ok, Err, refl, sym, ap, subst, append-nil, length-append}
use Rattle.des_base.specs.Outside.{Output, Took}
use Rattle.des_net.specs.Network.{Net}
use Rattle.fault_verdicts.proofs.Calling.{best_run}
use Rattle.fault_verdicts.proofs.Ready.{ready_at_first}
use Rattle.fault_verdicts.specs.Judged.{IsBestRun}
use Rattle.inquiries.specs.Begun.{HasAskedWithin, HasQuestion}
use Rattle.inquiries.specs.Diagnosed.{IsDiagnosed}
use Rattle.least_faults.proofs.ColumnsBuilt.{question_columns}
use Rattle.least_faults.specs.Columns.{columns_built}
use Rattle.least_faults.specs.Growing.{KeepsQuestion}
use Rattle.answers.specs.declared.found.Best.{Best}
use Rattle.answers.specs.declared.found.Found.{Found}
use Rattle.answers.specs.declared.found.Found.TheVariants.{Explained, Absent, Many, Undecided}
use Rattle.least_faults.specs.Parts.{AreReady, BelongTo, IsBuilt}
use Rattle.least_faults.specs.declared.TheConstants.{MOST_SIZE}
use Rattle.least_faults.specs.declared.parts.Parts.{Parts}
use Rattle.log_encode.specs.Drafted.{LogCodeState}
use Rattle.log_order.specs.Log.{Log}
use Rattle.proof_ledger.specs.Book.{BookEntry}
use Rattle.replay.specs.QuestionSize.{question_size}
use Rattle.report.specs.Replies.{text_of_found}
use Rattle.run_decode.specs.Decoding.{BelongTogether}
use Rattle.run_decode.specs.QuestionAxioms.{BuiltQuestion, question_built}
use Rattle.step_encode.specs.Coded.{CodedSteps}
use Rattle.step_encode.specs.FaultInputs.{fault_events}
use Rattle.telling.proofs.Taking.{cut_first, took_cut, took_texts}
use Rattle.telling.specs.declared.each.Broken.{Broken}
use Rattle.telling.specs.declared.each.Broken.TheVariants.{Memory, Put}
use Rattle.verdict_telling.specs.Left.{StaysReady}
use Rattle.verdict_telling.specs.Replied.{TellsVerdicts, matter_behind}
use Rattle.verdict_telling.specs.Whole.{FollowsFound, HasJudged, HaveReplies, PutsFound, TellsFound, TellsWhole, told_of, events_behind}
use Rattle.verdict_telling.specs.declared.whole.Told.{Told}
use Rattle.verdict_telling.specs.declared.whole.Told.TheVariants.{Judged}

-- the run that was found is best
pub found_best : (net : Net) (log : Log) (n steps budget : ℕ) (book : List BookEntry) (best : Best) → steps ≡ n → IsDiagnosed net log n budget book (Explained best) → IsBestRun net log steps best.faults best.run
found_best net log n steps budget book best same diagnosed = let found = diagnosed.answered.found in subst (λ (k : ℕ). IsBestRun net log k best.faults best.run) (sym same) (best_run net log n best found.given found.least)

-- ---- the parts behind it

-- the parts belong to network and log as before
pub belong_still : {R : Type 0} (net : Net) (log : Log) (old new : Parts R) → new.step ≡ old.step → new.code ≡ old.code → BelongTo net log old → BelongTo net log new
belong_still net log old new step code belong =
    subst (λ (s : CodedSteps). BelongTogether net log s new.code.coded) (sym step) (subst (λ (k : LogCodeState). BelongTogether net log old.step k.coded) (sym code) belong)

-- and they are ready for verdicts
pub stays_ready : {R : Type 0} (may : R → ℕ → Type 0) (gives : R → ℕ → ℕ → Type 0) (net : Net) (log : Log) (n : ℕ) (old new : Parts R) (book : List BookEntry) → old.step.steps ≡ n → new.step ≡ old.step → new.code ≡ old.code → BelongTo net log old → question_size net log n ≤ MOST_SIZE
    → IsBuilt net log new.step.steps new book → AreReady may gives new book → StaysReady may gives old new book
stays_ready may gives net log n old new book time step code belong size built ready = record {
  step = step;
  code = code;
  ready = ([], ready_at_first may gives new book net log ready (belong_still net log old new step code belong) built (subst (λ (k : ℕ). question_size net log k ≤ MOST_SIZE) (sym (ap (λ (s : CodedSteps). s.steps) step ∙ time)) size));
}

-- it is built still, with the columns that it got
pub built_still : {R : Type 0} (net : Net) (log : Log) (old new : Parts R) (book entries : List BookEntry) → KeepsQuestion old new book entries → IsBuilt net log old.step.steps old book → IsBuilt net log new.step.steps new entries
built_still net log old new book entries keeps built = record {
  determined =
      keeps.built
      ∙ ap (λ (q : BuiltQuestion). columns_built q columns) built.determined
      ∙ question_columns net log old.step.steps (length old.counter.columns) columns
      ∙ ap (question_built net log old.step.steps) counted
      ∙ ap (λ (s : CodedSteps). question_built net log s.steps (length new.counter.columns)) (sym keeps.step);
}
  where
    columns : ℕ
    columns = length keeps.counter.columns

    counted : length old.counter.columns + columns ≡ length new.counter.columns
    counted = sym (ap (λ (cs : List (List ℕ)). length cs) keeps.counter.more ∙ length-append old.counter.columns keeps.counter.columns)

-- ---- the reply about the log alone

none_follow : (net : Net) (log : Log) (n budget : ℕ) (found : Found) (book : List BookEntry) → FollowsFound net log n budget found book book [] [] []
none_follow net log n budget (Explained best) book = record { others = fault_events net; ordered = refl; replied = record { judged = refl; are = refl } }
none_follow net log n budget Absent book = record { book = refl; no_events = refl; no_verdicts = refl; no_texts = refl }
none_follow net log n budget (Many best) book = record { book = refl; no_events = refl; no_verdicts = refl; no_texts = refl }
none_follow net log n budget (Undecided lo best) book = record { book = refl; no_events = refl; no_verdicts = refl; no_texts = refl }

alone : (net : Net) (log : Log) (n budget : ℕ) (found : Found) (book : List BookEntry) → IsDiagnosed net log n budget book found → HaveReplies net log n budget found [] book [] (text_of_found net n found ∷ [])
alone net log n budget found book diagnosed = record { front = book; diagnosed = diagnosed; later = []; follows = none_follow net log n budget found book; are = refl }

module _ (net : Net) (log : Log) (n budget : ℕ) (book : List BookEntry) (before now : Output) (rose : Type 0) where
  -- nothing is to be judged
  pub said_alone : (found : Found) (told : Told) → events_behind net found ≡ [] → told ≡ told_of found [] → TellsFound net log n budget book before now rose (Ok found) → TellsWhole net log n budget book before now rose (Ok told)
  said_alone found told none is tells = record {
    found = found;
    verdicts = [];
    texts = text_of_found net n found ∷ [];
    have = subst (λ events. HaveReplies net log n budget found events book [] (text_of_found net n found ∷ [])) (sym none) (alone net log n budget found book tells.0);
    told_is = is;
    put = tells.1;
  }

  -- it came to no verdict
  pub broken_first : (broken : Broken) → HasQuestion net log n (HasAskedWithin budget) book → TellsFound net log n budget book before now rose (Err broken) → TellsWhole net log n budget book before now rose (Err broken)
  broken_first Memory question tells = inl (record { question = inr question; put = tells })
  broken_first Put question tells = (
    tells.0,
    record {
      found = tells.1;
      events = [];
      verdicts = [];
      texts = text_of_found net n tells.1 ∷ [];
      have = alone net log n budget tells.1 book tells.2;
      put = cut_first before now (text_of_found net n tells.1) tells.3;
    },
  )

  -- the reply that tells what was found
  pub puts_found : (found : Found) (result : Result Found Broken) → IsDiagnosed net log n budget book found → PutsFound (text_of_found net n found) found before now rose result → TellsFound net log n budget book before now rose result
  puts_found found (Ok same) diagnosed puts = (subst (IsDiagnosed net log n budget book) (sym puts.0) diagnosed, subst (λ f. Took before now (text_of_found net n f ∷ [])) (sym puts.0) puts.1)
  puts_found found (Err Memory) diagnosed puts = puts
  puts_found found (Err Put) diagnosed puts = (puts.0, found, diagnosed, puts.1)

-- ---- and the verdicts

module _ (net : Net) (log : Log) (n budget : ℕ) (best : Best) (front book : List BookEntry) (before mid now : Output) (some later all : Type 0) (first : TellsFound net log n budget front before mid some (Ok (Explained best))) where
  then_judged : (r : Result Bool Broken) (result : Result Told Broken) → TellsVerdicts (matter_behind net log n budget best) front book mid now later r → HasJudged r result → (later → all) → TellsWhole net log n budget book before now all result
  then_judged (Ok open_left) result tells is rises = subst (TellsWhole net log n budget book before now all) (sym is) (record {
    found = Explained best;
    verdicts = tells.verdicts;
    texts = text_of_found net n (Explained best) ∷ tells.texts;
    have = record { front = front; diagnosed = first.0; later = tells.texts; follows = record { others = []; ordered = sym (append-nil (fault_events net)); replied = tells.replied }; are = refl };
    told_is = ap Judged tells.left;
    put = took_texts before mid now (text_of_found net n (Explained best) ∷ []) tells.texts first.1 tells.put;
  })
  then_judged (Err Memory) result tells is rises = subst (TellsWhole net log n budget book before now all) (sym is) (inr (record {
    found = Explained best;
    events = tells.events;
    verdicts = tells.verdicts;
    texts = text_of_found net n (Explained best) ∷ tells.texts;
    mid = tells.mid;
    have = record { front = front; diagnosed = first.0; later = tells.texts; follows = tells.front; are = refl };
    grown = tells.grown;
    next = tells.next;
    put = took_texts before mid now (text_of_found net n (Explained best) ∷ []) tells.texts first.1 tells.put;
  }))
  then_judged (Err Put) result tells is rises = subst (TellsWhole net log n budget book before now all) (sym is) (
    rises tells.0,
    record {
      found = Explained best;
      events = tells.1.events;
      verdicts = tells.1.verdicts;
      texts = text_of_found net n (Explained best) ∷ tells.1.texts;
      have = record { front = front; diagnosed = first.0; later = tells.1.texts; follows = tells.1.front; are = refl };
      put = took_cut before mid now (text_of_found net n (Explained best) ∷ []) tells.1.texts first.1 tells.1.put;
    },
  )

  -- within the steps of the parts
  pub judged_behind : (steps : ℕ) (r : Result Bool Broken) (result : Result Told Broken) → steps ≡ n → TellsVerdicts (matter_behind net log steps budget best) front book mid now later r → HasJudged r result → (later → all) → TellsWhole net log n budget book before now all result
  judged_behind steps r result same tells is rises = then_judged r result (subst (λ (k : ℕ). TellsVerdicts (matter_behind net log k budget best) front book mid now later r) same tells) is rises
