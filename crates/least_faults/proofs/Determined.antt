-- Network, log, n and the number of columns determine what is built.
use Rattle.std.proofs.Common.{◌≡◌, ◌∙◌, ℕ, suc, ◌+◌, ◌≤◌, List, [], ◌∷◌, ◌++◌, fold, length, map, take, sym, ap, subst, arith, Some, slice_get}
use Rattle.std.proofs.lemmas.Grind.{fold-append}
use Rattle.std.proofs.lemmas.List.{map-append}
use Rattle.card_counter.specs.CounterState.{CounterState, with_column, without_columns, next_clauses}
use Rattle.des_base.specs.declared.TheConstants.{VAR_LIMIT}
use Rattle.des_net.specs.Network.{Net}
use Rattle.least_faults.specs.LogCoding.{AreBuiltBy, alarms_added, pairs_added, written_of}
use Rattle.question_clauses.specs.Additions.{Addition, alarm_added, pair_added}
use Rattle.log_encode.proofs.WrittenLemmas.{draft_is_built, first_is_built}
use Rattle.log_encode.specs.BuiltLog.{added_written, built_empty, built_log, built_with, first_written}
use Rattle.log_encode.specs.CodedLog.{CodedLog, IsCodedLog, code_after, empty_code, read_meanings}
use Rattle.log_encode.specs.Drafted.{DraftState, IsDraftOf}
use Rattle.log_encode.specs.WrittenLog.{AppendsFirst}
use Rattle.log_order.specs.Log.{Log, Alarm}
use Rattle.proof_ledger.specs.Book.{BookEntry, axiomatic, axioms_of}
use Rattle.prop_core.specs.Clauses.{Clause}
use Rattle.prop_core.specs.declared.grid.Grid.{Grid}
use Rattle.prop_core.specs.declared.lit.Lit.{Lit}
use Rattle.run_decode.proofs.Built.{question_begins}
use Rattle.run_decode.specs.QuestionAxioms.{column_built, question_built, steps_built}
use Rattle.run_decode.specs.WholeNaming.{AreInputs}
use Rattle.step_encode.specs.Coded.{CodedSteps, code_meanings, code_grid, variable_count, AppendsSteps}
use Rattle.des_base.proofs.Elements.{take_push}
use Rattle.proof_ledger.proofs.AxiomLists.{axioms_added}

-- ---- a log

-- a draft that is committed
pub addition_built : (code now : CodedLog) (draft : DraftState) (before after : List Clause) → IsCodedLog code → IsDraftOf code draft.addition draft.first draft → draft.first ≡ code.vars → draft.first + draft.vars ≤ VAR_LIMIT →
    now ≡ code_after code draft.addition draft.first → after ≡ before ++ draft.clauses → AreBuiltBy (draft.addition ∷ []) code before now after
addition_built code now draft before after coded is next few committed appended =
    λ i. record { code = (committed ∙ ap (code_after code draft.addition) next) i; clauses = (appended ∙ ap (λ cs. before ++ cs) clauses) i }
  where
    clauses : draft.clauses ≡ added_written code draft.addition
    clauses = draft_is_built code draft.addition draft coded (subst (λ first. IsDraftOf code draft.addition first draft) next is) (omega (arith, few, next))

-- additions after additions
pub built_further : (first second : List Addition) (old mid new : CodedLog) (old_clauses mid_clauses new_clauses : List Clause) → AreBuiltBy first old old_clauses mid mid_clauses → AreBuiltBy second mid mid_clauses new new_clauses →
    AreBuiltBy (first ++ second) old old_clauses new new_clauses
built_further first second old mid new old_clauses mid_clauses new_clauses one two =
    two ∙ ap (λ built. fold built_with built second) one ∙ sym (fold-append built_with (written_of old old_clauses) first second)

-- the next alarm of a log
pub alarm_built : (log : Log) (i first : ℕ) (alarm : Alarm) (draft : DraftState) (old mid new : CodedLog) (old_clauses mid_clauses new_clauses : List Clause) →
    slice_get log.alarms i ≡ Some alarm → IsDraftOf mid (alarm_added alarm) first draft →
    AreBuiltBy (alarms_added (take i log.alarms)) old old_clauses mid mid_clauses → AreBuiltBy (draft.addition ∷ []) mid mid_clauses new new_clauses →
    AreBuiltBy (alarms_added (take (i + 1) log.alarms)) old old_clauses new new_clauses
alarm_built log i first alarm draft old mid new old_clauses mid_clauses new_clauses there is so_far one =
    subst (λ additions. AreBuiltBy additions old old_clauses new new_clauses) longer
    (built_further (alarms_added (take i alarms)) (draft.addition ∷ []) old mid new old_clauses mid_clauses new_clauses so_far one)
  where
    alarms : List Alarm
    alarms = log.alarms

    next : suc i ≡ i + 1
    next = omega arith

    longer : alarms_added (take i alarms) ++ draft.addition ∷ [] ≡ alarms_added (take (i + 1) alarms)
    longer =
        ap (λ (a : Addition). alarms_added (take i alarms) ++ a ∷ []) is.adds
        ∙ sym (map-append (λ (a : Alarm). alarm_added a) (take i alarms) (alarm ∷ []))
        ∙ ap alarms_added (sym (take_push alarms i alarm there))
        ∙ ap (λ k. alarms_added (take k alarms)) next

-- the next pair
pub pair_built : (pairs : List (ℕ × ℕ)) (i first one second : ℕ) (draft : DraftState) (old mid new : CodedLog) (old_clauses mid_clauses new_clauses : List Clause) → slice_get pairs i ≡ Some (one, second) →
    IsDraftOf mid (pair_added one second) first draft → AreBuiltBy (pairs_added (take i pairs)) old old_clauses mid mid_clauses → AreBuiltBy (draft.addition ∷ []) mid mid_clauses new new_clauses →
    AreBuiltBy (pairs_added (take (i + 1) pairs)) old old_clauses new new_clauses
pair_built pairs i first one second draft old mid new old_clauses mid_clauses new_clauses there is so_far more =
    subst (λ additions. AreBuiltBy additions old old_clauses new new_clauses) longer
    (built_further (pairs_added (take i pairs)) (draft.addition ∷ []) old mid new old_clauses mid_clauses new_clauses so_far more)
  where
    next : suc i ≡ i + 1
    next = omega arith

    longer : pairs_added (take i pairs) ++ draft.addition ∷ [] ≡ pairs_added (take (i + 1) pairs)
    longer =
        ap (λ (a : Addition). pairs_added (take i pairs) ++ a ∷ []) is.adds
        ∙ sym (map-append (λ (pair : ℕ × ℕ). pair_added pair.0 pair.1) (take i pairs) ((one, second) ∷ []))
        ∙ ap pairs_added (sym (take_push pairs i (one, second) there))
        ∙ ap (λ k. pairs_added (take k pairs)) next

-- the whole log
pub log_is_built : (net : Net) (grid : Grid) (vars : ℕ) (log : Log) (code with_alarms with_pairs : CodedLog) (none first alarms_clauses clauses : List Clause) → code ≡ empty_code net grid vars → IsCodedLog code → none ≡ [] →
    AppendsFirst net grid.steps (read_meanings (empty_code net grid vars)) none first → AreBuiltBy (alarms_added log.alarms) code first with_alarms alarms_clauses → AreBuiltBy (pairs_added log.pairs) with_alarms alarms_clauses with_pairs clauses →
    written_of with_pairs clauses ≡ built_log net grid vars log
log_is_built net grid vars log code with_alarms with_pairs none first alarms_clauses clauses is coded empty appended alarms pairs =
    built_further (alarms_added log.alarms) (pairs_added log.pairs) code with_alarms with_pairs first alarms_clauses clauses alarms pairs
    ∙ ap (λ built. fold built_with built (alarms_added log.alarms ++ pairs_added log.pairs)) begun
  where
    written : first ≡ first_written (empty_code net grid vars)
    written = first_is_built (empty_code net grid vars) none first (subst IsCodedLog is coded) appended ∙ ap (λ cs. cs ++ first_written (empty_code net grid vars)) empty

    begun : written_of code first ≡ built_empty net grid vars
    begun = λ i. record { code = is i; clauses = written i }

-- ---- a question

-- steps and log, and a counter without columns
pub question_begun : (net : Net) (log : Log) (n : ℕ) (steps : CodedSteps) (code : CodedLog) (grid : Grid) (made vars : ℕ) (none stepped written : List Clause) (inputs : List Lit) (counter : CounterState) →
    steps ≡ steps_built net n → grid ≡ code_grid steps → made ≡ variable_count net n → none ≡ [] → AppendsSteps net n (code_meanings steps) none stepped → IsCodedLog code → written_of code written ≡ built_log net grid made log →
    AreInputs steps code inputs → counter ≡ without_columns inputs → code.vars ≡ vars →
    record { steps = steps; code = code; counter = counter; vars = vars; axioms = stepped ++ written } ≡ question_built net log n 0
question_begun net log n steps code grid made vars none stepped written inputs counter is beside count empty appended coded built are counts same =
    (λ i. record { steps = is i; code = code; counter = counts i; vars = sym same i; axioms = stepped ++ written })
    ∙ question_begins net log n code stepped written inputs
    (subst (λ (s : CodedSteps). AppendsSteps net n (code_meanings s) [] stepped) is (subst (λ cs. AppendsSteps net n (code_meanings steps) cs stepped) empty appended)) coded
    (built ∙ ap (λ (g : Grid). built_log net g made log) (beside ∙ ap code_grid is) ∙ ap (λ first. built_log net (code_grid (steps_built net n)) first log) count)
    (subst (λ (s : CodedSteps). AreInputs s code inputs) is are)

-- a further column
pub column_determined : (steps : CodedSteps) (code : CodedLog) (old new : CounterState) (vars then : ℕ) (book mid entries : List BookEntry) (clauses : List Clause) →
    new ≡ with_column old vars → then ≡ vars + length old.inputs → mid ≡ book → clauses ≡ next_clauses old vars → entries ≡ mid ++ map axiomatic clauses →
    record { steps = steps; code = code; counter = new; vars = then; axioms = axioms_of entries } ≡ column_built (record { steps = steps; code = code; counter = old; vars = vars; axioms = axioms_of book })
column_determined steps code old new vars then book mid entries clauses grown count same written pushed = λ i. record { steps = steps; code = code; counter = grown i; vars = count i; axioms = axioms i }
  where
    axioms : axioms_of entries ≡ axioms_of book ++ next_clauses old vars
    axioms = ap axioms_of (pushed ∙ ap (λ (front : List BookEntry). front ++ map axiomatic clauses) same) ∙ axioms_added book clauses ∙ ap (λ cs. axioms_of book ++ cs) written
