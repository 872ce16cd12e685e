-- What a session keeps once an addition is made, and where it isn't.
use Rattle.std.proofs.Common.{◌≡◌, ◌∙◌, ℕ, ◌≤◌, Bool, true, false, cond, List, [], ◌∷◌, ◌++◌, length, Option, None, Some, refl, sym, ap, subst}
use Rattle.alarm_session.proofs.Keeping.{Codes, adds_none, belong_roomy, belong_with, few_with, old_pair, paired, time_roomy, time_with}
use Rattle.alarm_session.specs.Additions.{alarm_addition, built_on, next_id, pair_addition}
use Rattle.alarm_session.specs.Session.{Becomes, IsDraftedFor, IsFor, IsRankedKept, Stage, stage_of}
use Rattle.alarm_session.specs.declared.kept.Drafted.{Drafted}
use Rattle.alarm_session.specs.declared.kept.Kept.{Kept}
use Rattle.des_base.specs.declared.TheConstants.{VAR_LIMIT}
use Rattle.des_net.specs.Network.{Net}
use Rattle.least_faults.proofs.Roomless.{addition_roomless, room_roomless}
use Rattle.least_faults.specs.Adding.{AddsFew, HasAddition, KeepsAllButRoom}
use Rattle.least_faults.specs.Bounds.{question_variables}
use Rattle.least_faults.specs.Parts.{AreParts, AreReady, IsWithinLimits, built_of}
use Rattle.least_faults.specs.declared.parts.Parts.{Parts}
use Rattle.question_clauses.specs.Additions.{Addition, alarm_added, pair_added, with_addition}
use Rattle.log_encode.specs.Drafted.{DraftState, IsDraftOf}
use Rattle.log_order.specs.Log.{Log, Alarm, an_alarm, has_pair, id_of}
use Rattle.log_order.specs.Adding.{with_alarm, with_texts}
use Rattle.proof_ledger.specs.Book.{axioms_of}
use Rattle.proof_ledger.specs.Kept.{LedgerState}
use Rattle.replay.specs.QuestionSize.{question_size}
use Rattle.run_decode.specs.QuestionAxioms.{BuiltQuestion, added_built, roomless}

-- ---- what a draft asks for

module _ {R : Type 0} (net : Net) (n : ℕ) (kept : Kept R) (addition : Addition) (new : Log) (drafted : Drafted) (is : IsDraftedFor net n kept addition new drafted) where
  pub own_draft : IsDraftOf kept.parts.code.coded drafted.draft.addition kept.parts.vars drafted.draft
  own_draft = subst (λ (a : Addition). IsDraftOf kept.parts.code.coded a kept.parts.vars drafted.draft) (sym is.draft.adds) is.draft

  pub own_fits : question_variables kept.parts.step.net (with_addition kept.parts.code.coded.log drafted.draft.addition) kept.parts.step.steps ≤ VAR_LIMIT
  own_fits = subst (λ (a : Addition). question_variables kept.parts.step.net (with_addition kept.parts.code.coded.log a) kept.parts.step.steps ≤ VAR_LIMIT) (sym is.draft.adds) is.fits

  -- ---- it is made

  module _ (of_log : IsFor net n kept) (codes : Codes kept.parts.code.coded.log addition new) (mid now : Parts R) (mid_book now_book : LedgerState) (room : KeepsAllButRoom kept.parts mid kept.book.entries mid_book.entries)
      (draft : DraftState) (same : draft ≡ drafted.draft) (joined : HasAddition draft.addition mid now mid_book.entries now_book.entries) (log : Log) (made : log ≡ new) where
    own_codes : Codes kept.parts.code.coded.log draft.addition log
    own_codes =
        subst (λ (a : Addition). Codes kept.parts.code.coded.log a log) (sym (ap (λ (d : DraftState). d.addition) same ∙ is.draft.adds))
        (subst (Codes kept.parts.code.coded.log addition) (sym made) codes)

    pub kept_with : (may : R → ℕ → Type 0) (gives : R → ℕ → ℕ → Type 0) → AreReady may gives now now_book.entries → IsRankedKept may gives net n (record { log = log; size = drafted.size; parts = now; book = now_book })
    kept_with may gives ready = record {
      of_log = record {
        limits = subst (λ l. IsWithinLimits net l n) (sym made) is.limits;
        size = is.size ∙ ap (λ l. question_size net l n) (sym made);
        belong = belong_with net n kept.log log kept.parts mid now kept.book.entries mid_book.entries now_book.entries of_log.belong of_log.time room draft joined ready.coded own_codes;
        time = time_with net n kept.log log kept.parts mid now kept.book.entries mid_book.entries now_book.entries of_log.belong of_log.time room draft joined ready.coded own_codes;
      };
      ready = ready;
    }

    -- the question is built further by it
    built_further : roomless (built_of now now_book.entries) ≡ added_built (roomless (built_of kept.parts kept.book.entries)) addition
    built_further =
        ap roomless joined.built
        ∙ addition_roomless (built_of mid mid_book.entries) draft.addition
        ∙ ap (λ (q : BuiltQuestion). added_built q draft.addition) (room_roomless kept.parts mid kept.book.entries mid_book.entries room)
        ∙ ap (λ (a : Addition). added_built (roomless (built_of kept.parts kept.book.entries)) a) (ap (λ (d : DraftState). d.addition) same ∙ is.draft.adds)

    pub becomes_with : (may : R → ℕ → Type 0) (gives : R → ℕ → ℕ → Type 0) → AreReady may gives now now_book.entries → AreParts kept.parts.step kept.parts.code.coded kept.parts.counter kept.parts.vars (axioms_of kept.book.entries) →
        AddsFew mid.code.coded.net mid.code.coded.grid.steps mid.code.coded.log now.code.coded.log mid_book.entries now_book.entries → (size : ℕ) →
        (said : Addition) → ((question : BuiltQuestion) → built_on (next_id kept.log.alarms new) question (Some said) ≡ added_built question addition) → Becomes net n new (Some said) (stage_of kept) (stage_of (record { log = log; size = size; parts = now; book = now_book }))
    becomes_with may gives ready coded few size said by_id = record {
      log = made;
      built = built_further ∙ sym (by_id (roomless (built_of kept.parts kept.book.entries)));
      few = subst (λ l. AddsFew net n kept.log l kept.book.entries now_book.entries) made
          (few_with net n kept.log log kept.parts mid now kept.book.entries mid_book.entries now_book.entries of_log.belong of_log.time room draft joined ready.coded own_codes few coded);
    }

-- ---- it isn't made, and there is perhaps more room

pub kept_roomy : {R : Type 0} (may : R → ℕ → Type 0) (gives : R → ℕ → ℕ → Type 0) (net : Net) (n : ℕ) (kept : Kept R) (mid : Parts R) (mid_book : LedgerState) (log : Log) → IsFor net n kept → KeepsAllButRoom kept.parts mid kept.book.entries mid_book.entries →
    AreReady may gives mid mid_book.entries → log ≡ kept.log → IsRankedKept may gives net n (record { log = log; size = kept.size; parts = mid; book = mid_book })
kept_roomy may gives net n kept mid mid_book log of_log room ready same =
    subst (λ (l : Log). IsRankedKept may gives net n (record { log = l; size = kept.size; parts = mid; book = mid_book })) (sym same) (record {
      of_log = record {
        limits = of_log.limits;
        size = of_log.size;
        belong = belong_roomy net n kept.log kept.log kept.parts mid mid kept.book.entries mid_book.entries mid_book.entries of_log.belong of_log.time room ready.coded;
        time = time_roomy net n kept.log kept.log kept.parts mid mid kept.book.entries mid_book.entries mid_book.entries of_log.belong of_log.time room;
      };
      ready = ready;
    })

-- however much room there is, the session has come no further
pub stage_roomy : {R : Type 0} (kept : Kept R) (mid : Parts R) (mid_book : LedgerState) (log : Log) (size : ℕ) → KeepsAllButRoom kept.parts mid kept.book.entries mid_book.entries → log ≡ kept.log →
    stage_of (record { log = log; size = size; parts = mid; book = mid_book }) ≡ stage_of kept
stage_roomy kept mid mid_book log size room same =
    let built = room_roomless kept.parts mid kept.book.entries mid_book.entries room in
    let book = room.book in
    λ i. record { log = same i; built = built i; book = book i }

-- ---- an alarm

-- it has the id that the longer log has for it
pub alarm_by_id : (log : Log) (id : List ℕ) (labels : List (List ℕ)) (doubtful : Bool) (question : BuiltQuestion) →
    built_on (next_id log.alarms (with_alarm log id labels doubtful)) question (Some (alarm_addition labels doubtful)) ≡ added_built question (alarm_added (an_alarm id (with_texts [] labels) doubtful))
alarm_by_id log id labels doubtful question = ap (λ name. added_built question (alarm_added (an_alarm name (with_texts [] labels) doubtful))) (last log.alarms)
  where
    last : (alarms : List Alarm) → id_of (alarms ++ an_alarm id (with_texts [] labels) doubtful ∷ []) (length alarms) ≡ id
    last [] = refl
    last (alarm ∷ alarms) = last alarms

-- ---- a pair

-- that is new adds itself
pub becomes_pair : (net : Net) (n : ℕ) (log : Log) (i j : ℕ) (old new : Stage) → has_pair log.pairs i j ≡ false → Becomes net n (paired log i j) (Some (pair_added i j)) old new → Becomes net n (paired log i j) (pair_addition log (Some (i, j))) old new
becomes_pair net n log i j old new none becomes =
    let some : Some (pair_added i j) ≡ pair_addition log (Some (i, j)) = sym (ap (λ b. cond b None (Some (pair_added i j))) none) in
    subst (λ (added : Option Addition). Becomes net n (paired log i j) added old new) some becomes

-- and one that is there adds nothing
pub becomes_again : (net : Net) (n : ℕ) (stage : Stage) (i j : ℕ) → has_pair stage.log.pairs i j ≡ true → Becomes net n (paired stage.log i j) (pair_addition stage.log (Some (i, j))) stage stage
becomes_again net n stage i j there =
    let none : None ≡ pair_addition stage.log (Some (i, j)) = sym (ap (λ b. cond b None (Some (pair_added i j))) there) in
    let same = old_pair stage.log i j there in
    record {
      log = sym same;
      built = ap (built_on (next_id stage.log.alarms (paired stage.log i j)) stage.built) none;
      few = subst (λ l. AddsFew net n stage.log l stage.book stage.book) (sym same) (adds_none net n stage.log stage.book stage.book refl);
    }
