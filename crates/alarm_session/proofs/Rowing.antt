-- What comes of rows: of each by what its addition answers or what is found, and of some by what comes of one more.
use Rattle.std.proofs.Common.{◌≡◌, ◌≢◌, ◌∙◌, ℕ, Bool, true, false, not, cond, List, [], ◌∷◌, ◌++◌, Option, None, Some, inl, Result, Ok, Err, IfOk, OnOk, OnErr, is_some, refl, sym, ap, subst, append-nil, append_assoc, arith, length, length-append, map}
use Rattle.alarm_session.proofs.Keeping.{adds_none}
use Rattle.alarm_session.specs.Additions.{built_on, next_id}
use Rattle.alarm_session.specs.Refusals.{refusal_of_alarm, refusal_of_before, is_new_pair, log_with, numbers_of}
use Rattle.alarm_session.specs.Rows.{AreRowsTold, HasCarriedOut, IsLeftUndone, IsRowTold, after_row, built_after, built_with_row, log_after_rows, row_addition, row_refusal, rows_built, told_by, with_row}
use Rattle.alarm_session.specs.Session.{Becomes, IsSessionBook, Stage, first_stage}
use Rattle.alarm_session.specs.declared.refusal.SessionRefusal.{SessionRefusal}
use Rattle.alarm_session.specs.declared.refusal.SessionRefusal.TheVariants.{Double, Unknown, Cycle, NoLabels, Limit, TooLarge, Memory}
use Rattle.alarm_session.specs.declared.rows.RowTold.{RowTold}
use Rattle.alarm_session.specs.declared.rows.RowTold.TheVariants.{Made, Refused, Answered}
use Rattle.des_base.specs.Lists.{Extends}
use Rattle.des_base.specs.Refusing.{SucceedsUnless}
use Rattle.des_base.specs.declared.memory.Memory.{Memory as NoMemory}
use Rattle.des_net.specs.Network.{Net}
use Rattle.sat_solve.proofs.Freshness.{fresh_none}
use Rattle.log_csv.specs.declared.row.Row.{Row}
use Rattle.log_csv.specs.declared.row.Row.TheVariants.{Alarm, Maybe, Before, Ask}
use Rattle.log_order.specs.Adding.{with_alarm, with_texts}
use Rattle.log_order.specs.Log.{Log, an_alarm, has_pair}
use Rattle.proof_ledger.specs.Book.{axiomatic, mark}
use Rattle.run_decode.specs.QuestionAxioms.{BuiltQuestion}

-- ---- what is wanted of a row, by what it says

module _ (net : Net) (n : ℕ) (log : Log) (row : Row) where
  pub alarm_wanted : (id name : List ℕ) (labels given : List (List ℕ)) → row ≡ Alarm id labels → name ≡ id → given ≡ labels → row_refusal net n log row ≡ refusal_of_alarm net n log name given false
  alarm_wanted id name labels given is same_name same_labels =
      ap (row_refusal net n log) is ∙ ap (λ i. refusal_of_alarm net n log i labels false) (sym same_name) ∙ ap (λ ls. refusal_of_alarm net n log name ls false) (sym same_labels)

  pub maybe_wanted : (id name : List ℕ) (labels given : List (List ℕ)) → row ≡ Maybe id labels → name ≡ id → given ≡ labels → row_refusal net n log row ≡ refusal_of_alarm net n log name given true
  maybe_wanted id name labels given is same_name same_labels =
      ap (row_refusal net n log) is ∙ ap (λ i. refusal_of_alarm net n log i labels true) (sym same_name) ∙ ap (λ ls. refusal_of_alarm net n log name ls true) (sym same_labels)

  pub before_wanted : (first second : List ℕ) → row ≡ Before first second → row_refusal net n log row ≡ refusal_of_before net n log first second
  before_wanted first second is = ap (row_refusal net n log) is

-- ---- what is in the log already

longer : {X : Type 0} (xs : List X) (x : X) → xs ++ x ∷ [] ≡ xs → ⊥
longer xs x same = let more = ap length same in omega (arith, more, length-append xs (x ∷ []))

-- an alarm never is
alarm_is_new : (log : Log) (id : List ℕ) (labels : List (List ℕ)) (doubtful : Bool) → with_alarm log id labels doubtful ≡ log → ⊥
alarm_is_new log id labels doubtful same = longer log.alarms (an_alarm id (with_texts [] labels) doubtful) (ap (λ (l : Log). l.alarms) same)

-- a pair is, where nothing is new
pair_is_old : (log : Log) (numbers : Option (ℕ × ℕ)) → log_with log numbers ≡ log → is_new_pair log numbers ≡ false
pair_is_old log None same = refl
pair_is_old log (Some pair) same = by_test (has_pair log.pairs pair.0 pair.1) (ap (λ (l : Log). l.pairs) same)
  where
    by_test : (b : Bool) → cond b log.pairs (log.pairs ++ (pair.0, pair.1) ∷ []) ≡ log.pairs → not b ≡ false
    by_test true same = refl
    by_test false same = absurd (longer log.pairs (pair.0, pair.1) same)

module _ (log : Log) (row : Row) (old new : Stage) where
  pub alarm_again : (id : List ℕ) (labels : List (List ℕ)) → row ≡ Alarm id labels → with_row log row ≡ log → new ≡ old
  alarm_again id labels is same = absurd (alarm_is_new log id labels false (sym (ap (with_row log) is) ∙ same))

  pub maybe_again : (id : List ℕ) (labels : List (List ℕ)) → row ≡ Maybe id labels → with_row log row ≡ log → new ≡ old
  maybe_again id labels is same = absurd (alarm_is_new log id labels true (sym (ap (with_row log) is) ∙ same))

  pub before_again : (first second : List ℕ) (fresh : Bool) → row ≡ Before first second → fresh ≡ is_new_pair log (numbers_of log first second) → (fresh ≡ false → new ≡ old) → with_row log row ≡ log → new ≡ old
  before_again first second fresh is fresh_is kept same = kept (fresh_is ∙ pair_is_old log (numbers_of log first second) (sym (ap (with_row log) is) ∙ same))

-- ---- one row

-- where a row doesn't ask, its question is built further with what it adds
adds_built : (log : Log) (question : BuiltQuestion) (row : Row) (columns : ℕ) → row ≢ Ask → built_on (next_id log.alarms (with_row log row)) question (row_addition log row) ≡ built_with_row log question row columns
adds_built log question (Alarm id labels) columns addition = refl
adds_built log question (Maybe id labels) columns addition = refl
adds_built log question (Before first second) columns addition = refl
adds_built log question Ask columns addition = absurd (addition refl)

module _ (net : Net) (n budget : ℕ) (old : Stage) (row : Row) (new : Stage) where
  -- the row is accepted, or refused
  accepted_log : row_refusal net n old.log row ≡ None → after_row net n old.log row ≡ with_row old.log row
  accepted_log none = ap (λ o. cond (is_some o) old.log (with_row old.log row)) none

  refused_log : (refusal : SessionRefusal) → row_refusal net n old.log row ≡ Some refusal → after_row net n old.log row ≡ old.log
  refused_log refusal some = ap (λ o. cond (is_some o) old.log (with_row old.log row)) some

  accepted_built : (columns : ℕ) → row_refusal net n old.log row ≡ None → built_after net n old.log old.built row columns ≡ built_with_row old.log old.built row columns
  accepted_built columns none = ap (λ o. cond (is_some o) old.built (built_with_row old.log old.built row columns)) none

  refused_built : (columns : ℕ) (refusal : SessionRefusal) → row_refusal net n old.log row ≡ Some refusal → built_after net n old.log old.built row columns ≡ old.built
  refused_built columns refusal some = ap (λ o. cond (is_some o) old.built (built_with_row old.log old.built row columns)) some

  -- what it comes to
  abbrev RowBecomes : Type 0
  RowBecomes = Becomes net n (with_row old.log row) (row_addition old.log row) old new

  made : row ≢ Ask → row_refusal net n old.log row ≡ None → RowBecomes → (with_row old.log row ≡ old.log → new ≡ old) → IsSessionBook net n new → IsRowTold net n budget old row new Made
  made addition none becomes again book = record {
    tells = record { addition = addition; accepted = none; few = becomes.few; again = again };
    log = becomes.log ∙ sym (accepted_log none);
    columns = 0;
    built = becomes.built ∙ adds_built old.log old.built row 0 addition ∙ sym (accepted_built 0 none);
    book = book;
  }

  refused : (refusal : SessionRefusal) → refusal ≢ Memory → row_refusal net n old.log row ≡ Some refusal → new ≡ old → IsSessionBook net n new → IsRowTold net n budget old row new (Refused refusal)
  refused refusal known some same book = record {
    tells = record { why = some; known = known; same = same };
    log = ap (λ (s : Stage). s.log) same ∙ sym (refused_log refusal some);
    columns = 0;
    built = ap (λ (s : Stage). s.built) same ∙ sym (refused_built 0 refusal some);
    book = book;
  }

  -- an addition
  by_answer : {X : Type 0} (answer : Result X SessionRefusal) → row ≢ Ask → SucceedsUnless (row_refusal net n old.log row) Memory answer → OnOk answer RowBecomes → OnOk answer (with_row old.log row ≡ old.log → new ≡ old) →
      OnErr answer (new ≡ old) → IsSessionBook net n new → IfOk (told_by answer) (IsRowTold net n budget old row new)
  by_answer (Ok x) addition is becomes again same book = made addition is becomes again book
  by_answer (Err Double) addition is becomes again same book = refused Double (λ h. cc) (is (λ h. cc)) same book
  by_answer (Err Unknown) addition is becomes again same book = refused Unknown (λ h. cc) (is (λ h. cc)) same book
  by_answer (Err Cycle) addition is becomes again same book = refused Cycle (λ h. cc) (is (λ h. cc)) same book
  by_answer (Err NoLabels) addition is becomes again same book = refused NoLabels (λ h. cc) (is (λ h. cc)) same book
  by_answer (Err Limit) addition is becomes again same book = refused Limit (λ h. cc) (is (λ h. cc)) same book
  by_answer (Err (TooLarge size)) addition is becomes again same book = refused (TooLarge size) (λ h. cc) (is (λ h. cc)) same book
  by_answer (Err Memory) addition is becomes again same book = tt

  pub addition_told : {X : Type 0} (answer : Result X SessionRefusal) (told : Result RowTold NoMemory) → told ≡ told_by answer → row ≢ Ask → SucceedsUnless (row_refusal net n old.log row) Memory answer →
      OnOk answer (Becomes net n (with_row old.log row) (row_addition old.log row) old new) → OnOk answer (with_row old.log row ≡ old.log → new ≡ old) → OnErr answer (new ≡ old) → IsSessionBook net n new → IfOk told (IsRowTold net n budget old row new)
  addition_told answer told is addition answers becomes again same book = subst (λ r. IfOk r (IsRowTold net n budget old row new)) (sym is) (by_answer answer addition answers becomes again same book)

  left : new ≡ old → IsSessionBook net n new → IsLeftUndone net n budget old row new
  left same book = record {
    goes_on = record {
      log = ap (λ (s : Stage). s.log) same;
      columns = 0;
      built = ap (λ (s : Stage). s.built) same;
      grown = record { since = []; whole = ap (λ (s : Stage). s.book) same ∙ sym (append-nil old.book); within = omega arith; fresh = fresh_none old.book };
    };
    addition = λ is. same;
    unanswered = ([], inl (ap (λ (s : Stage). s.book) same));
    book = book;
  }

  pub addition_undone : {X : Type 0} (answer : Result X SessionRefusal) (told : Result RowTold NoMemory) → told ≡ told_by answer → OnErr answer (new ≡ old) → IsSessionBook net n new → OnErr told (IsLeftUndone net n budget old row new)
  addition_undone answer told is same book = subst (λ r. OnErr r (IsLeftUndone net n budget old row new)) (sym is) (by_cases answer same)
    where
      by_cases : {X : Type 0} (answer : Result X SessionRefusal) → OnErr answer (new ≡ old) → OnErr (told_by answer) (IsLeftUndone net n budget old row new)
      by_cases (Ok x) same = tt
      by_cases (Err Double) same = tt
      by_cases (Err Unknown) same = tt
      by_cases (Err Cycle) same = tt
      by_cases (Err NoLabels) same = tt
      by_cases (Err Limit) same = tt
      by_cases (Err (TooLarge size)) same = tt
      by_cases (Err Memory) same = left same book

  -- the book goes on
  pub row_extends : (told : RowTold) → IsRowTold net n budget old row new told → Extends old.book new.book
  row_extends Made is = record { more = map axiomatic is.tells.few.axioms; is = is.tells.few.more }
  row_extends (Refused refusal) is = record { more = []; is = ap (λ (s : Stage). s.book) is.tells.same ∙ sym (append-nil old.book) }
  row_extends (Answered found) is =
      let since = is.tells.told.answered.left.since in
      record { more = (mark 0 ∷ since) ++ mark 1 ∷ []; is = is.tells.told.answered.left.whole ∙ append_assoc old.book (mark 0 ∷ since) (mark 1 ∷ []) }

-- a question adds nothing
pub nothing_added : (net : Net) (n : ℕ) (stage : Stage) (row : Row) → row ≡ Ask → Becomes net n (with_row stage.log row) (row_addition stage.log row) stage stage
nothing_added net n stage row ask = subst (λ r. Becomes net n (with_row stage.log r) (row_addition stage.log r) stage stage) (sym ask) (record { log = refl; built = refl; few = adds_none net n stage.log stage.book stage.book refl })

-- ---- all rows

module _ (net : Net) (n budget : ℕ) where
  -- what came of the rows, with one more
  pub rows_told_more : (old : Stage) (rows : List Row) (row : Row) (mid new : Stage) (told : List RowTold) (here : RowTold) → AreRowsTold net n budget old rows mid told →
      IsRowTold net n budget mid row new here → AreRowsTold net n budget old (rows ++ row ∷ []) new (told ++ here ∷ [])
  rows_told_more old [] row mid new told here are is = (new, here, [], subst (λ s. IsRowTold net n budget s row new here) are.0 is, (refl, refl), ap (λ t. t ++ here ∷ []) are.1)
  rows_told_more old (first ∷ rows) row mid new told here are is =
      (are.0, are.1, are.2 ++ here ∷ [], are.3, rows_told_more are.0 rows row mid new are.2 here are.4 is, ap (λ t. t ++ here ∷ []) are.5)

  -- the log is that of the rows, and the question is built of them
  pub rows_log : (old : Stage) (rows : List Row) (new : Stage) (told : List RowTold) → AreRowsTold net n budget old rows new told → new.log ≡ log_after_rows net n old.log rows
  rows_log old [] new told are = ap (λ (s : Stage). s.log) are.0
  rows_log old (row ∷ rows) new told are = rows_log are.0 rows new are.2 are.4 ∙ ap (λ l. log_after_rows net n l rows) are.3.log

  pub rows_are_built : (old : Stage) (rows : List Row) (new : Stage) (told : List RowTold) → AreRowsTold net n budget old rows new told → (columns : List ℕ) × (new.built ≡ rows_built net n old.log old.built rows columns)
  rows_are_built old [] new told are = ([], ap (λ (s : Stage). s.built) are.0)
  rows_are_built old (row ∷ rows) new told are =
      let rest = rows_are_built are.0 rows new are.2 are.4 in (
        are.3.columns ∷ rest.0,
        rest.1
            ∙ ap (λ l. rows_built net n l are.0.built rows rest.0) are.3.log
            ∙ ap (λ q. rows_built net n (after_row net n old.log row) q rows rest.0) are.3.built,
      )

  -- the book of the end has that of the beginning as its front
  pub rows_extend : (old : Stage) (rows : List Row) (new : Stage) (told : List RowTold) → AreRowsTold net n budget old rows new told → Extends old.book new.book
  rows_extend old [] new told are = record { more = []; is = ap (λ (s : Stage). s.book) are.0 ∙ sym (append-nil old.book) }
  rows_extend old (row ∷ rows) new told are =
      let here = row_extends net n budget old row are.0 are.1 are.3 in
      let rest = rows_extend are.0 rows new are.2 are.4 in
      record { more = here.more ++ rest.more; is = rest.is ∙ ap (λ b. b ++ rest.more) here.is ∙ append_assoc old.book here.more rest.more }

  -- ---- a session

  carried_out : (rows : List Row) (left : Stage) (told : List RowTold) → AreRowsTold net n budget (first_stage net n) rows left told → IsSessionBook net n left → HasCarriedOut net n budget rows left told
  carried_out rows left told each book = record {
    each = each;
    log = rows_log (first_stage net n) rows left told each;
    columns = (rows_are_built (first_stage net n) rows left told each).0;
    built = (rows_are_built (first_stage net n) rows left told each).1;
    front = rows_extend (first_stage net n) rows left told each;
    book = book;
  }

  pub nothing_carried_out : (begun : Stage) → begun ≡ first_stage net n → IsSessionBook net n begun → HasCarriedOut net n budget [] begun []
  nothing_carried_out begun is book = carried_out [] begun [] (is, refl) book

  pub carried_out_more : (rows : List Row) (row : Row) (mid left : Stage) (told : List RowTold) (here : RowTold) → HasCarriedOut net n budget rows mid told → IsRowTold net n budget mid row left here →
      HasCarriedOut net n budget (rows ++ row ∷ []) left (told ++ here ∷ [])
  carried_out_more rows row mid left told here has is = carried_out (rows ++ row ∷ []) left (told ++ here ∷ []) (rows_told_more (first_stage net n) rows row mid left told here has.each is) is.book
