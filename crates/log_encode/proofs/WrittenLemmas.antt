-- The laws on what was written for a log.
use Rattle.std.proofs.Common.{◌∙◌, ◌⊎◌, inl, inr, ℕ, List, ◌++◌, length, sym, ap, subst, arith, Contains}
use Rattle.question_clauses.specs.Additions.{Addition, alarm_added, pair_added}
use Rattle.question_clauses.specs.LogCodes.{AreAmong}
use Rattle.question_clauses.specs.LogNames.{added_meanings}
use Rattle.question_clauses.proofs.LogCodes.{code_grows}
use Rattle.question_clauses.proofs.Drafts.{drafts_are_code}
use Rattle.question_clauses.specs.Drafts.{added_list, first_list}
use Rattle.question_clauses.proofs.Explained.{log_code_is_exact}
use Rattle.log_encode.proofs.CodeLemmas.{beside, grown_is_coded, names_with_alarm}
use Rattle.log_encode.specs.CodedLog.{CodedLog, log_meanings, read_meanings, code_after, IsCodedLog}
use Rattle.log_encode.specs.BuiltLog.{DraftIsBuilt, FirstIsBuilt}
use Rattle.log_encode.specs.Drafted.{DraftState, IsDraftOf}
use Rattle.log_encode.specs.WrittenLog.{WrittenGrows, WrittenIsExact}
use Rattle.prop_core.proofs.Listed.{listed_are_written}
use Rattle.prop_core.specs.VariableNames.{Meaning}
use Rattle.question_clauses.specs.LaidOut.{laid_out, event_block}
use Rattle.std.proofs.lemmas.List.Elements.{Contains-append_cases, Contains-append_left, Contains-append_right}

-- the names of a code are among those of a longer one
names_stay : (code : CodedLog) (addition : Addition) (first : ℕ) → IsCodedLog code → (entry : ℕ × Meaning) → Contains (log_meanings code) entry → Contains (log_meanings (code_after code addition first)) entry
names_stay code (alarm_added new) first coded entry here =
    subst (λ names. Contains names entry) (sym (names_with_alarm code new first coded.each)) (Contains-append_left (log_meanings code) (laid_out first (added_meanings code.net code.log code.grid.steps (alarm_added new))) entry here)
names_stay code (pair_added i j) first coded entry here = here

among : (code : CodedLog) (addition : Addition) (first : ℕ) → IsCodedLog code → AreAmong (read_meanings code) (read_meanings (code_after code addition first))
among code addition first coded entry here = by (Contains-append_cases events (log_meanings code) entry here)
  where
    events : List (ℕ × Meaning)
    events = laid_out code.grid.first (event_block code.grid.steps (length code.net.events))

    by : Contains events entry ⊎ Contains (log_meanings code) entry → Contains (events ++ log_meanings (code_after code addition first)) entry
    by (inl event) = Contains-append_left events (log_meanings (code_after code addition first)) entry event
    by (inr own) = Contains-append_right events (log_meanings (code_after code addition first)) entry (names_stay code addition first coded entry own)

-- a draft is one of its own addition and first variable
pub its_own : (code : CodedLog) (addition : Addition) (first : ℕ) (draft : DraftState) → IsDraftOf code addition first draft → IsDraftOf code draft.addition draft.first draft
its_own code addition first draft is = subst (λ (a : Addition). IsDraftOf code a draft.first draft) (sym is.adds) (subst (λ v. IsDraftOf code addition v draft) (sym is.begins) is)

pub written_grows : WrittenGrows
written_grows code addition draft written is made follows =
    let grown = grown_is_coded code addition draft.first is.coded follows.above (omega (arith, follows.few, made.width)) in record {
      coded = grown;
      clauses = code_grows code.net code.log code.grid.steps addition (read_meanings code) (read_meanings (code_after code addition draft.first)) written draft.clauses (beside (code_after code addition draft.first) grown).once
          (among code addition draft.first is.coded) is.clauses ((drafts_are_code code.net code.grid.steps (read_meanings (code_after code addition draft.first)) draft.clauses).0 code.log addition made.listed);
    }

pub written_is_exact : WrittenIsExact
written_is_exact code written guards is read =
    log_code_is_exact code.net code.log code.grid.steps (read_meanings code) written guards (record { once = (beside code is.coded).once; clauses = is.clauses; guards = read })

-- ---- what is written is determined

pub draft_is_built : DraftIsBuilt
draft_is_built code addition draft coded made few =
    let grown = grown_is_coded code addition code.vars coded (omega arith) (omega (arith, few, made.width)) in
    listed_are_written (read_meanings (code_after code addition code.vars)) (added_list code.net code.log code.grid.steps addition) draft.clauses (beside (code_after code addition code.vars) grown).once made.listed

pub first_is_built : FirstIsBuilt
first_is_built code old new coded made =
    made.whole ∙ ap (λ xs. old ++ xs) (listed_are_written (read_meanings code) (first_list code.net code.grid.steps) made.more (beside code coded).once made.listed)
