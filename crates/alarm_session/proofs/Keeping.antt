-- What a session keeps stays so with an addition.
use Rattle.std.proofs.Common.{◌≡◌, ◌∙◌, ℕ, ◌+◌, ◌<◌, ◌≤◌, Bool, true, false, cond, None, Some, List, [], ◌∷◌, ◌++◌, length, map, refl, sym, ap, arith, append-nil}
use Rattle.std.specs.Prelude.{nat_lt}
use Rattle.std.proofs.lemmas.Bool.Decides.{nat_tests}
use Rattle.des_base.specs.declared.TheConstants.{VAR_LIMIT}
use Rattle.des_net.specs.Building.{IsDraft}
use Rattle.des_net.specs.Network.{Net}
use Rattle.least_faults.proofs.Bounded.{width_fits}
use Rattle.least_faults.proofs.QuestionRoom.{question_fits}
use Rattle.least_faults.specs.Adding.{AddsFew, HasAddition, KeepsAllButRoom}
use Rattle.least_faults.specs.Bounds.{question_variables}
use Rattle.least_faults.specs.Parts.{AreParts, BelongTo, IsWithinLimits}
use Rattle.least_faults.specs.declared.parts.Parts.{Parts}
use Rattle.question_clauses.specs.Additions.{Addition, alarm_added, pair_added, with_addition}
use Rattle.log_encode.specs.CodedLog.{CodedLog, addition_width, code_after}
use Rattle.log_encode.specs.Drafted.{DraftState}
use Rattle.log_order.specs.Adding.{before_refusal, with_pair}
use Rattle.log_order.specs.Log.{Log, an_alarm, has_pair}
use Rattle.log_order.specs.declared.refusal.LogRefusal.TheVariants.{Unknown}
use Rattle.proof_ledger.specs.Book.{BookEntry, axiomatic, axioms_of}
use Rattle.prop_core.specs.Clauses.{Clause}
use Rattle.prop_core.specs.declared.grid.Grid.{Grid}
use Rattle.replay.specs.QuestionSize.{question_size}
use Rattle.run_decode.specs.QuestionAxioms.{BuiltQuestion}
use Rattle.step_encode.specs.Coded.{CodedSteps}
use Rattle.log_order.proofs.KeptLemmas.{with_pair-new}

-- ---- a log with an addition, and the coded one

-- the coded log with the addition is this log
abbrev pub Codes : Log → Addition → Log → Type 0
Codes coded addition new = new ≡ with_addition coded addition

pub alarm_codes : (log coded : Log) (name : List ℕ) (labels : List (List ℕ)) (doubtful : Bool) → coded ≡ log → Codes coded (alarm_added (an_alarm name labels doubtful)) (record log { alarms = log.alarms ++ an_alarm name labels doubtful ∷ [] })
alarm_codes log coded name labels doubtful is = sym (ap (λ (l : Log). with_addition l (alarm_added (an_alarm name labels doubtful))) is)

-- a log with a pair
abbrev pub paired : Log → ℕ → ℕ → Log
paired log i j = record log { pairs = with_pair log.pairs i j }

pub old_pair : (log : Log) (i j : ℕ) → has_pair log.pairs i j ≡ true → paired log i j ≡ log
old_pair log i j there = ap (λ b. let l : Log = record log { pairs = cond b log.pairs (log.pairs ++ (i, j) ∷ []) } in l) there

pub paired_is : (log : Log) (i j : ℕ) → has_pair log.pairs i j ≡ false → paired log i j ≡ with_addition log (pair_added i j)
paired_is log i j new = ap (λ (pairs : List (ℕ × ℕ)). let l : Log = record log { pairs = pairs } in l) (with_pair-new log.pairs i j new)

pub pair_codes : (log coded : Log) (i j : ℕ) → has_pair log.pairs i j ≡ false → coded ≡ log → Codes coded (pair_added i j) (paired log i j)
pair_codes log coded i j new is = paired_is log i j new ∙ sym (ap (λ (l : Log). with_addition l (pair_added i j)) is)

-- a pair that the log accepts is of alarms that are there
pub known_pair : (alarms : ℕ) (pairs : List (ℕ × ℕ)) (i j : ℕ) → before_refusal alarms pairs i j ≡ None → (i < alarms) × (j < alarms)
unfolding before_refusal
known_pair alarms pairs i j is = by (nat_lt i alarms) refl (nat_lt j alarms) refl
  where
    by : (a : Bool) → nat_lt i alarms ≡ a → (b : Bool) → nat_lt j alarms ≡ b → (i < alarms) × (j < alarms)
    by true e true f = (let k = less i alarms e in omega (arith, k), let k = less j alarms f in omega (arith, k))
      where
        less : (x y : ℕ) → nat_lt x y ≡ true → x < y
        less x y h = grind (arith, nat_tests)
    by true e false f = absurd (refused (rw (e, f) at is))
      where
        refused : Some Unknown ≡ None → ⊥
        refused h = cc
    by false e b f = absurd (refused (rw e at is))
      where
        refused : Some Unknown ≡ None → ⊥
        refused h = cc

-- the coded log has as many alarms
pub of_coded : (log coded : Log) → coded ≡ log → length coded.alarms ≡ length log.alarms
of_coded log coded is = ap (λ (l : Log). length l.alarms) is

-- ---- room for it

module _ {R : Type 0} (net : Net) (n : ℕ) (log : Log) (parts : Parts R) (axioms : List Clause) (belong : BelongTo net log parts) (time : parts.step.steps ≡ n) (coded : AreParts parts.step parts.code.coded parts.counter parts.vars axioms)
    (addition : Addition) (new : Log) (codes : Codes parts.code.coded.log addition new) where
  -- its variables are within the limit
  pub log_fits : IsDraft net → length new.alarms ≤ 2000 → IsWithinLimits net new n → question_variables parts.step.net (with_addition parts.code.coded.log addition) parts.step.steps ≤ VAR_LIMIT
  log_fits whole few limits =
      let all = question_fits net new n whole few limits.steps limits.size in
      let is =
      ap (λ (m : Net). question_variables m (with_addition parts.code.coded.log addition) parts.step.steps) belong.of_steps ∙ ap (λ k. question_variables net (with_addition parts.code.coded.log addition) k) time
      ∙ ap (λ l. question_variables net l n) (sym codes) in
      omega (arith, all, is)

  pub draft_fits : question_variables parts.step.net (with_addition parts.code.coded.log addition) parts.step.steps ≤ VAR_LIMIT → parts.vars + addition_width parts.code.coded addition ≤ VAR_LIMIT
  draft_fits fits =
      let width = width_fits parts.step parts.code.coded parts.counter parts.vars axioms coded.bounded addition coded.together.beside.net (ap (λ (grid : Grid). grid.steps) coded.together.beside.grid) fits in
      omega (arith, width)

-- ---- what is kept with it

-- nothing was added
pub adds_none : (net : Net) (n : ℕ) (log : Log) (old new : List BookEntry) → new ≡ old → AddsFew net n log log old new
adds_none net n log old new same = record { axioms = []; more = same ∙ sym (append-nil old); few = omega arith }

module _ {R : Type 0} (net : Net) (n : ℕ) (log new : Log) (old mid now : Parts R) (old_book mid_book now_book : List BookEntry) (belong : BelongTo net log old) (time : old.step.steps ≡ n) (room : KeepsAllButRoom old mid old_book mid_book) where
  module _ (draft : DraftState) (joined : HasAddition draft.addition mid now mid_book now_book) (beside : AreParts now.step now.code.coded now.counter now.vars (axioms_of now_book)) (codes : Codes old.code.coded.log draft.addition new) where
    same_steps : now.step ≡ mid.step
    same_steps = ap (λ (q : BuiltQuestion). q.steps) joined.built

    longer_code : now.code.coded ≡ code_after mid.code.coded draft.addition mid.vars
    longer_code = ap (λ (q : BuiltQuestion). q.code) joined.built

    pub belong_with : BelongTo net new now
    belong_with = record {
      of_steps = ap (λ (s : CodedSteps). s.net) (same_steps ∙ room.step) ∙ belong.of_steps;
      beside = beside.together.beside;
      same_log = ap (λ (k : CodedLog). k.log) longer_code ∙ ap (λ (k : CodedLog). with_addition k.log draft.addition) room.code ∙ sym codes;
    }

    pub time_with : now.step.steps ≡ n
    time_with = ap (λ (s : CodedSteps). s.steps) (same_steps ∙ room.step) ∙ time

    -- few axioms are added, by the sizes of the logs
    pub few_with : AddsFew mid.code.coded.net mid.code.coded.grid.steps mid.code.coded.log now.code.coded.log mid_book now_book → AreParts old.step old.code.coded old.counter old.vars (axioms_of old_book) → AddsFew net n log new old_book now_book
    few_with few coded =
        let of_net : mid.code.coded.net ≡ net = ap (λ (k : CodedLog). k.net) room.code ∙ coded.together.beside.net ∙ belong.of_steps in
        let of_time : mid.code.coded.grid.steps ≡ n = ap (λ (k : CodedLog). k.grid.steps) room.code ∙ ap (λ (grid : Grid). grid.steps) coded.together.beside.grid ∙ time in
        let before : mid.code.coded.log ≡ log = ap (λ (k : CodedLog). k.log) room.code ∙ belong.same_log in
        let after : now.code.coded.log ≡ new = ap (λ (k : CodedLog). k.log) longer_code ∙ ap (λ (k : CodedLog). with_addition k.log draft.addition) room.code ∙ sym codes in
        let size_before = sized mid.code.coded.net mid.code.coded.grid.steps mid.code.coded.log log of_net of_time before in
        let size_after = sized mid.code.coded.net mid.code.coded.grid.steps now.code.coded.log new of_net of_time after in
        let most = few.few in
        record { axioms = few.axioms; more = few.more ∙ ap (λ b. b ++ map axiomatic few.axioms) room.book; few = omega (arith, most, size_before, size_after) }
      where
        sized : (m : Net) (k : ℕ) (coded_log named : Log) → m ≡ net → k ≡ n → coded_log ≡ named → question_size m coded_log k ≡ question_size net named n
        sized m k coded_log named one two three =
            ap (λ (x : Net). question_size x coded_log k) one ∙ ap (λ x. question_size net coded_log x) two ∙ ap (λ l. question_size net l n) three

  -- room alone leaves all as it was
  pub belong_roomy : AreParts mid.step mid.code.coded mid.counter mid.vars (axioms_of mid_book) → BelongTo net log mid
  belong_roomy coded = record {
    of_steps = ap (λ (s : CodedSteps). s.net) room.step ∙ belong.of_steps;
    beside = coded.together.beside;
    same_log = ap (λ (k : CodedLog). k.log) room.code ∙ belong.same_log;
  }

  pub time_roomy : mid.step.steps ≡ n
  time_roomy = ap (λ (s : CodedSteps). s.steps) room.step ∙ time
