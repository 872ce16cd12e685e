-- Additions that are drafted for what a session keeps: their sizes, and that there is room for their variables.
use Rattle.std.proofs.Common.{◌≡◌, ◌∙◌, ℕ, ◌+◌, ◌<◌, ◌≤◌, Bool, false, List, [], ◌∷◌, length, sym, ap, subst, arith, length-append}
use Rattle.alarm_session.proofs.Keeping.{Codes, alarm_codes, draft_fits, log_fits, pair_codes, paired, paired_is}
use Rattle.alarm_session.specs.Session.{IsDraftedFor, IsFor}
use Rattle.alarm_session.specs.declared.kept.Drafted.{Drafted}
use Rattle.alarm_session.specs.declared.kept.Kept.{Kept}
use Rattle.des_base.specs.declared.TheConstants.{VAR_LIMIT}
use Rattle.des_net.specs.Building.{IsDraft}
use Rattle.des_net.specs.Network.{Net}
use Rattle.least_faults.specs.Parts.{AreParts, IsWithinLimits}
use Rattle.least_faults.specs.declared.TheConstants.{MOST_SIZE}
use Rattle.question_clauses.specs.Additions.{Addition, alarm_added, pair_added, with_addition}
use Rattle.log_encode.specs.CodedLog.{addition_width}
use Rattle.log_encode.specs.Drafted.{DraftState, IsDraftOf}
use Rattle.log_order.specs.Adding.{with_alarm, with_texts}
use Rattle.log_order.specs.Log.{Log, an_alarm, has_pair}
use Rattle.proof_ledger.specs.Book.{axioms_of}
use Rattle.replay.specs.QuestionSize.{question_size}

module _ {R : Type 0} (net : Net) (n : ℕ) (kept : Kept R) (of_log : IsFor net n kept) (coded : AreParts kept.parts.step kept.parts.code.coded kept.parts.counter kept.parts.vars (axioms_of kept.book.entries)) (whole : IsDraft net) where
  -- ---- any addition

  module _ (addition : Addition) (new : Log) (codes : Codes kept.parts.code.coded.log addition new) (few : length new.alarms ≤ 2000) (size : ℕ) (sized : size ≡ question_size net new n) (small : size ≤ MOST_SIZE) where
    limits : IsWithinLimits net new n
    limits = record { steps = of_log.limits.steps; size = omega (arith, sized, small) }

    pub addition_drafted : (draft : DraftState) → IsDraftOf kept.parts.code.coded addition kept.parts.vars draft → IsDraftedFor net n kept addition new (record { draft = draft; size = size })
    addition_drafted draft is = record {
      draft = is;
      fits = log_fits net n kept.log kept.parts (axioms_of kept.book.entries) of_log.belong of_log.time coded addition new codes whole few limits;
      size = sized;
      limits = limits;
    }

    pub addition_room : kept.parts.vars + addition_width kept.parts.code.coded addition ≤ VAR_LIMIT
    addition_room =
        draft_fits net n kept.log kept.parts (axioms_of kept.book.entries) of_log.belong of_log.time coded addition new codes
        (log_fits net n kept.log kept.parts (axioms_of kept.book.entries) of_log.belong of_log.time coded addition new codes whole few limits)

  -- ---- an alarm

  module _ (name : List ℕ) (labels once : List (List ℕ)) (doubtful : Bool) (each : once ≡ with_texts [] labels) (size : ℕ)
      (sized : (log : Log) (name : List ℕ) → kept.size ≡ question_size net log n → size ≡ question_size net (with_addition log (alarm_added (an_alarm name once doubtful))) n) where
    pub alarm_sized : size ≡ question_size net (with_alarm kept.log name labels doubtful) n
    alarm_sized = sized kept.log name of_log.size ∙ ap (λ ls. question_size net (with_addition kept.log (alarm_added (an_alarm name ls doubtful))) n) each

    module _ (few : length kept.log.alarms < 2000) (small : size ≤ MOST_SIZE) where
      longer : length (with_alarm kept.log name labels doubtful).alarms ≤ 2000
      longer = omega (arith, few, length-append kept.log.alarms (an_alarm name (with_texts [] labels) doubtful ∷ []))

      codes : Codes kept.parts.code.coded.log (alarm_added (an_alarm name (with_texts [] labels) doubtful)) (with_alarm kept.log name labels doubtful)
      codes = alarm_codes kept.log kept.parts.code.coded.log name (with_texts [] labels) doubtful of_log.belong.same_log

      pub alarm_room : kept.parts.vars + addition_width kept.parts.code.coded (alarm_added (an_alarm name once doubtful)) ≤ VAR_LIMIT
      alarm_room =
          subst (λ ls. kept.parts.vars + addition_width kept.parts.code.coded (alarm_added (an_alarm name ls doubtful)) ≤ VAR_LIMIT) (sym each)
          (addition_room (alarm_added (an_alarm name (with_texts [] labels) doubtful)) (with_alarm kept.log name labels doubtful) codes longer size alarm_sized small)

      pub alarm_drafted : (draft : DraftState) → IsDraftOf kept.parts.code.coded (alarm_added (an_alarm name once doubtful)) kept.parts.vars draft →
          IsDraftedFor net n kept (alarm_added (an_alarm name (with_texts [] labels) doubtful)) (with_alarm kept.log name labels doubtful) (record { draft = draft; size = size })
      alarm_drafted draft is =
          addition_drafted (alarm_added (an_alarm name (with_texts [] labels) doubtful)) (with_alarm kept.log name labels doubtful) codes longer size alarm_sized small draft
          (subst (λ ls. IsDraftOf kept.parts.code.coded (alarm_added (an_alarm name ls doubtful)) kept.parts.vars draft) each is)

  -- ---- a pair

  module _ (first second : ℕ) (new : has_pair kept.log.pairs first second ≡ false) (size : ℕ)
      (sized : (net : Net) (log : Log) (i j : ℕ) → kept.size ≡ question_size net log n → size ≡ question_size net (with_addition log (pair_added i j)) n) where
    pub pair_sized : size ≡ question_size net (paired kept.log first second) n
    pair_sized = sized net kept.log first second of_log.size ∙ ap (λ l. question_size net l n) (sym (paired_is kept.log first second new))

    pub pair_drafted : length kept.log.alarms ≤ 2000 → size ≤ MOST_SIZE → (draft : DraftState) → IsDraftOf kept.parts.code.coded (pair_added first second) kept.parts.vars draft →
        IsDraftedFor net n kept (pair_added first second) (paired kept.log first second) (record { draft = draft; size = size })
    pair_drafted few small draft is =
        addition_drafted (pair_added first second) (paired kept.log first second) (pair_codes kept.log kept.parts.code.coded.log first second new of_log.belong.same_log) few size pair_sized small draft is

-- ---- an alarm that is said to be as doubtful as it is

pub drafted_alike : {R : Type 0} (net : Net) (n : ℕ) (kept : Kept R) (name : List ℕ) (labels : List (List ℕ)) (drafted : Drafted) (d e : Bool) → d ≡ e →
    IsDraftedFor net n kept (alarm_added (an_alarm name (with_texts [] labels) d)) (with_alarm kept.log name labels d) drafted → IsDraftedFor net n kept (alarm_added (an_alarm name (with_texts [] labels) e)) (with_alarm kept.log name labels e) drafted
drafted_alike net n kept name labels drafted d e same is =
    subst (λ (doubtful : Bool). IsDraftedFor net n kept (alarm_added (an_alarm name (with_texts [] labels) doubtful)) (with_alarm kept.log name labels doubtful) drafted) same is
