-- The codes of a log's records, as the log refuses what they say.
use Rattle.std.proofs.Common.{◌≡◌, ◌+◌, ℕ, Bool, true, false, cond, not, ◌&&◌, ◌||◌, List, [], ◌∷◌, ◌++◌, length, Option, Some, None, Ok, Err, refl, arith, ap, sym, ◌∙◌, subst, append_assoc, map}
use Rattle.std.specs.Prelude.{is_none, is_some, nat_le, nat_lt, option_map, option_and_then}
use Rattle.std.specs.List.{list_all}
use Rattle.std.specs.Option.{option_map_or, option_or}
use Rattle.std.proofs.lemmas.List.{append-nil}
use Rattle.des_base.specs.Names.{is_name_text, place_of}
use Rattle.des_base.proofs.BoolLemmas.{is_less}
use Rattle.des_base.proofs.TableLemmas.{place_of-within}
use Rattle.log_order.specs.Log.{Log, closes_cycle, has_pair, no_log}
use Rattle.des_base.specs.Refusing.{SucceedsUnless}
use Rattle.log_order.specs.Adding.{alarm_refusal, before_refusal, names_of, with_alarm, with_pair}
use Rattle.log_order.specs.declared.TheConstants.{MOST_ALARMS, MOST_LABELS, MOST_PAIRS}
use Rattle.log_order.specs.declared.refusal.LogRefusal.{LogRefusal}
use Rattle.log_order.specs.declared.refusal.LogRefusal.TheVariants as refused
use Rattle.log_order.proofs.AlarmLemmas.{length-names_of}
use Rattle.log_csv.specs.declared.fault.LogReadRefusal.{LogReadRefusal}
use Rattle.log_csv.specs.declared.row.Row.TheVariants as row
use Rattle.log_csv.specs.declared.refusal.RowRefusal.{RowRefusal}
use Rattle.log_csv.specs.declared.refusal.RowRefusal.TheVariants.{Shape, Name, Memory}
use Rattle.log_csv.specs.Records.{Record, alarm, before, ask, nothing, malformed, record_of, records_of}
use Rattle.log_csv.specs.Faults.{IsLogDue, log_fault_at}
use Rattle.log_csv.specs.ScriptText.{is_malformed, row_code, row_of, names_of_record}
use Rattle.log_csv.specs.LogText.{recorded_alarms, first_log_fault, first_record_fault, ids_of, is_pair_past_limit, is_question_record, log_of, log_of_records, pairs_of, record_code}
use Rattle.log_csv.specs.Reading.{Adds, IsLogOf, ReadsRecord, log_refusal_at, row_refusal_at}
use Rattle.csv.specs.Reading.{default_config, records, strip_bom}
use Rattle.log_csv.proofs.RowLemmas.{malformed_refused}
use Rattle.log_csv.proofs.GrowthLemmas.{log-alarm, log-nothing, log-pair}
use Rattle.log_csv.proofs.ScriptLemmas.{due_here, no_fault}

-- the records before these were accepted, and the first fault of these is that of the text
pub record IsReadTo (bytes : List ℕ) (left : List (List (List ℕ))) (row : ℕ) (log : Log) : Type 0 where
  pub earlier : List Record
  pub logged : IsLogOf earlier log
  pub whole : earlier ++ map record_of left ≡ records_of bytes
  pub faults : first_record_fault (row + 1) earlier (map record_of left) ≡ first_log_fault bytes

-- the code of a refusal of the log, or 0 for `Memory`, which is no fault of the text
abbrev pub refusal_code : LogRefusal → ℕ
refusal_code refused.Double = 1
refusal_code refused.Unknown = 2
refusal_code refused.Cycle = 3
refusal_code refused.NoLabels = 4
refusal_code refused.Limit = 5
refusal_code refused.Memory = 0

-- ---- codes 6 and 7 come first

shape_first : (m q : Bool) (o : Option ℕ) → m ≡ true → cond (m || q) (Some 6) o ≡ Some 6
shape_first true q o h = refl
shape_first false q o h = cc

name_first : (m q n : Bool) (o : Option ℕ) → ◌≡◌ {A = Option ℕ} (cond m (Some 6) (cond n (Some 7) None)) (Some 7) → (q ≡ true → n ≡ false) → cond (m || q) (Some 6) (cond n (Some 7) o) ≡ Some 7
name_first true q n o h f = cc
name_first false true true o h f = cc (f refl)
name_first false true false o h f = cc
name_first false false true o h f = refl
name_first false false false o h f = cc

no_words : (said : Record) → is_question_record said ≡ true → not (list_all is_name_text (names_of_record said)) ≡ false
no_words (alarm maybe id labels) h = cc
no_words (before first second) h = cc
no_words ask h = refl
no_words nothing h = cc
no_words malformed h = cc

six_case : (m n : Bool) → ◌≡◌ {A = Option ℕ} (cond m (Some 6) (cond n (Some 7) None)) (Some 6) → m ≡ true
six_case true n h = refl
six_case false true h = cc
six_case false false h = cc

pub code-shape : (earlier : List Record) (said : Record) → row_code said ≡ Some 6 → record_code earlier said ≡ Some 6
unfolding row_code record_code
code-shape earlier said h = shape_first (is_malformed said) (is_question_record said) _ (six_case (is_malformed said) (not (list_all is_name_text (names_of_record said))) h)

pub code-name : (earlier : List Record) (said : Record) → row_code said ≡ Some 7 → record_code earlier said ≡ Some 7
unfolding row_code record_code
code-name earlier said h = name_first (is_malformed said) (is_question_record said) (not (list_all is_name_text (names_of_record said))) _ h (no_words said)

pub code-ask : (earlier : List Record) → record_code earlier ask ≡ Some 6
unfolding record_code
code-ask earlier = refl

pub code-nothing : (earlier : List Record) → record_code earlier nothing ≡ None
unfolding record_code
code-nothing earlier = refl

-- ---- alarms

alarm_case : (n d l p : Bool) → ◌≡◌ {A = Option ℕ} (cond n (Some 7) None) None
    → cond n (Some 7) (cond d (Some 1) (cond l (Some 4) (cond p (Some 5) None))) ≡ option_map refusal_code (cond d (Some refused.Double) (cond l (Some refused.NoLabels) (cond p (Some refused.Limit) None)))
alarm_case true d l p h = cc
alarm_case false true l p h = refl
alarm_case false false true p h = refl
alarm_case false false false true h = refl
alarm_case false false false false h = refl

code-alarm : (earlier : List Record) (maybe : Bool) (id : List ℕ) (labels : List (List ℕ)) → row_code (alarm maybe id labels) ≡ None → record_code earlier (alarm maybe id labels) ≡ option_map refusal_code (alarm_refusal (log_of_records earlier) id labels)
unfolding row_code record_code alarm_refusal
code-alarm earlier maybe id labels h =
    alarm_case (not (list_all is_name_text (id ∷ labels))) (is_some (place_of id (ids_of earlier))) (nat_le (length labels) 0) (nat_le MOST_ALARMS (length (recorded_alarms earlier)) || nat_lt MOST_LABELS (length labels)) h

answer_due : (row : ℕ) (why : Option LogRefusal) (e : LogRefusal) → SucceedsUnless {X = ℕ} why refused.Memory (Err e) → IsLogDue (log_fault_at row (option_map refusal_code why)) (log_refusal_at row e)
answer_due row why refused.Double h = ap (λ o. log_fault_at row (option_map refusal_code o)) (h (λ m. cc))
answer_due row why refused.Unknown h = ap (λ o. log_fault_at row (option_map refusal_code o)) (h (λ m. cc))
answer_due row why refused.Cycle h = ap (λ o. log_fault_at row (option_map refusal_code o)) (h (λ m. cc))
answer_due row why refused.NoLabels h = ap (λ o. log_fault_at row (option_map refusal_code o)) (h (λ m. cc))
answer_due row why refused.Limit h = ap (λ o. log_fault_at row (option_map refusal_code o)) (h (λ m. cc))
answer_due row why refused.Memory h = tt

pub alarm-added : (earlier : List Record) (maybe : Bool) (id : List ℕ) (labels : List (List ℕ)) (row : ℕ) (log new : Log) → IsLogOf earlier log → row_code (alarm maybe id labels) ≡ None
    → alarm_refusal log id labels ≡ None → new ≡ with_alarm log id labels maybe → Adds earlier (alarm maybe id labels) row new (Ok tt)
alarm-added earlier maybe id labels row log new h named none e =
    (code-alarm earlier maybe id labels named ∙ ap (λ l. option_map refusal_code (alarm_refusal l id labels)) (sym h.is) ∙ ap (option_map refusal_code) none, log-alarm earlier maybe id labels log new h e)

pub alarm-refused : (earlier : List Record) (maybe : Bool) (id : List ℕ) (labels : List (List ℕ)) (row : ℕ) (log new : Log) (e : LogRefusal) → IsLogOf earlier log → row_code (alarm maybe id labels) ≡ None
    → SucceedsUnless {X = ℕ} (alarm_refusal log id labels) refused.Memory (Err e) → Adds earlier (alarm maybe id labels) row new (Err (log_refusal_at row e))
alarm-refused earlier maybe id labels row log new e h named a =
    subst (λ (code : Option ℕ). IsLogDue (log_fault_at row code) (log_refusal_at row e)) (sym (code-alarm earlier maybe id labels named ∙ ap (λ l. option_map refusal_code (alarm_refusal l id labels)) (sym h.is)))
    (answer_due row (alarm_refusal log id labels) e a)

-- ---- pairs

unknown_case : (n : Bool) (o : Option ℕ) (u : Bool) → ◌≡◌ {A = Option ℕ} (cond n (Some 7) None) None → u ≡ true → cond n (Some 7) (cond u (Some 2) o) ≡ Some 2
unknown_case true o u h k = cc
unknown_case false o true h k = refl
unknown_case false o false h k = cc

unknown-first : (o p : Option ℕ) → o ≡ None → (is_none o || is_none p) ≡ true
unknown-first o p h = ap (λ x. is_none x || is_none p) h

unknown-second : (o p : Option ℕ) → p ≡ None → (is_none o || is_none p) ≡ true
unknown-second None p h = refl
unknown-second (Some i) p h = ap is_none h

code-unknown : (earlier : List Record) (first second : List ℕ) → row_code (before first second) ≡ None → (is_none (place_of first (ids_of earlier)) || is_none (place_of second (ids_of earlier))) ≡ true → record_code earlier (before first second) ≡ Some 2
unfolding row_code record_code
code-unknown earlier first second h u = unknown_case (not (list_all is_name_text (first ∷ second ∷ []))) _ _ h u

pair_case : (n : Bool) (o p : Option ℕ) (pairs : List (ℕ × ℕ)) (m i j : ℕ) → ◌≡◌ {A = Option ℕ} (cond n (Some 7) None) None → o ≡ Some i → p ≡ Some j → nat_lt i m ≡ true → nat_lt j m ≡ true
    → cond n (Some 7) (cond (is_none o || is_none p) (Some 2) (cond (option_map_or (λ (pair : ℕ × ℕ). closes_cycle pairs pair.0 pair.1) (option_and_then (λ a. option_map (λ b. (a, b)) p) o) false) (Some 3)
    (cond (option_map_or (is_pair_past_limit pairs) (option_and_then (λ a. option_map (λ b. (a, b)) p) o) false) (Some 5) None)))
    ≡ option_map refusal_code (cond (nat_lt i m && nat_lt j m) (cond (closes_cycle pairs i j) (Some refused.Cycle) (cond (not (has_pair pairs i j) && nat_le MOST_PAIRS (length pairs)) (Some refused.Limit) None)) (Some refused.Unknown))
pair_case true o p pairs m i j h a b l k = cc
pair_case false o p pairs m i j h a b l k = rw (a, b, l, k) (last (closes_cycle pairs i j) (not (has_pair pairs i j) && nat_le MOST_PAIRS (length pairs)))
  where
    last : (c d : Bool) → cond c (Some 3) (cond d (Some 5) None) ≡ option_map refusal_code (cond c (Some refused.Cycle) (cond d (Some refused.Limit) None))
    last true d = refl
    last false true = refl
    last false false = refl

place_less : (text : List ℕ) (earlier : List Record) (i : ℕ) → place_of text (ids_of earlier) ≡ Some i → nat_lt i (length (recorded_alarms earlier)) ≡ true
place_less text earlier i h = let l = place_of-within text (ids_of earlier) i (sym h) in is_less i (length (recorded_alarms earlier)) (omega (arith, length-names_of (recorded_alarms earlier)))

code-pair : (earlier : List Record) (first second : List ℕ) (i j : ℕ) → row_code (before first second) ≡ None → place_of first (ids_of earlier) ≡ Some i → place_of second (ids_of earlier) ≡ Some j
    → record_code earlier (before first second) ≡ option_map refusal_code (before_refusal (length (recorded_alarms earlier)) (pairs_of earlier) i j)
unfolding row_code record_code before_refusal
code-pair earlier first second i j h a b =
    pair_case (not (list_all is_name_text (first ∷ second ∷ []))) (place_of first (ids_of earlier)) (place_of second (ids_of earlier)) (pairs_of earlier) (length (recorded_alarms earlier)) i j h a b (place_less first earlier i a) (place_less second earlier j b)

place_in_log : (earlier : List Record) (log : Log) (text : List ℕ) (o : Option ℕ) → IsLogOf earlier log → o ≡ place_of text (names_of log.alarms) → place_of text (ids_of earlier) ≡ o
place_in_log earlier log text o h e = ap (λ l. place_of text (names_of l.alarms)) (sym h.is) ∙ sym e

pub pair-unknown : (earlier : List Record) (first second : List ℕ) (row : ℕ) (log : Log) → IsLogOf earlier log → row_code (before first second) ≡ None
    → (None ≡ place_of first (names_of log.alarms)) → Adds earlier (before first second) row log (Err (log_refusal_at row refused.Unknown))
pair-unknown earlier first second row log h named none = ap (log_fault_at row) (code-unknown earlier first second named (unknown-first _ _ (place_in_log earlier log first None h none)))

pub pair-second_unknown : (earlier : List Record) (first second : List ℕ) (row : ℕ) (log : Log) → IsLogOf earlier log → row_code (before first second) ≡ None
    → (None ≡ place_of second (names_of log.alarms)) → Adds earlier (before first second) row log (Err (log_refusal_at row refused.Unknown))
pair-second_unknown earlier first second row log h named none = ap (log_fault_at row) (code-unknown earlier first second named (unknown-second _ _ (place_in_log earlier log second None h none)))

code-pair_log : (earlier : List Record) (first second : List ℕ) (i j : ℕ) (log : Log) → IsLogOf earlier log → row_code (before first second) ≡ None
    → (Some i ≡ place_of first (names_of log.alarms)) → (Some j ≡ place_of second (names_of log.alarms))
    → record_code earlier (before first second) ≡ option_map refusal_code (before_refusal (length log.alarms) log.pairs i j)
code-pair_log earlier first second i j log h named a b =
    code-pair earlier first second i j named (place_in_log earlier log first (Some i) h a) (place_in_log earlier log second (Some j) h b)
    ∙ ap (λ l. option_map refusal_code (before_refusal (length l.alarms) l.pairs i j)) (sym h.is)

pub pair-added : (earlier : List Record) (first second : List ℕ) (row i j : ℕ) (log new : Log) → IsLogOf earlier log → row_code (before first second) ≡ None
    → (Some i ≡ place_of first (names_of log.alarms)) → (Some j ≡ place_of second (names_of log.alarms))
    → before_refusal (length log.alarms) log.pairs i j ≡ None → new ≡ record log { pairs = with_pair log.pairs i j } → Adds earlier (before first second) row new (Ok tt)
pair-added earlier first second row i j log new h named a b none e = (
  code-pair_log earlier first second i j log h named a b ∙ ap (option_map refusal_code) none,
  log-pair earlier first second i j log new h (place_in_log earlier log first (Some i) h a) (place_in_log earlier log second (Some j) h b) e,
)

pub pair-refused : (earlier : List Record) (first second : List ℕ) (row i j : ℕ) (log new : Log) (e : LogRefusal) → IsLogOf earlier log → row_code (before first second) ≡ None
    → (Some i ≡ place_of first (names_of log.alarms)) → (Some j ≡ place_of second (names_of log.alarms))
    → SucceedsUnless {X = ℕ} (before_refusal (length log.alarms) log.pairs i j) refused.Memory (Err e) → Adds earlier (before first second) row new (Err (log_refusal_at row e))
pair-refused earlier first second row i j log new e h named a b refusal =
    subst (λ (code : Option ℕ). IsLogDue (log_fault_at row code) (log_refusal_at row e)) (sym (code-pair_log earlier first second i j log h named a b)) (answer_due row _ e refusal)

-- ---- rows

ask-of : (of : Record) → row_of of ≡ Some row.Ask → of ≡ ask
ask-of (alarm true i ls) h = cc
ask-of (alarm false i ls) h = cc
ask-of (before f s) h = cc
ask-of ask h = refl
ask-of nothing h = cc
ask-of malformed h = cc

pub row-ask : (earlier : List Record) (of : Record) (number : ℕ) → row_of of ≡ Some row.Ask → log_fault_at number (record_code earlier of) ≡ Some (record { row = number; code = 6 })
row-ask earlier of number h = ap (λ said. log_fault_at number (record_code earlier said)) (ask-of of h) ∙ ap (log_fault_at number) (code-ask earlier)

-- a record without a row is blank, where it has no code
blank-of : (of : Record) → row_of of ≡ None → row_code of ≡ None → of ≡ nothing
blank-of (alarm true i ls) h c = cc
blank-of (alarm false i ls) h c = cc
blank-of (before f s) h c = cc
blank-of ask h c = cc
blank-of nothing h c = refl
blank-of malformed h c = absurd (differ (sym malformed_refused ∙ c))
  where
    differ : ◌≡◌ {A = Option ℕ} (Some 6) None → ⊥
    differ h = cc

pub record-nothing : (earlier : List Record) (of : Record) (number : ℕ) (log : Log) → IsLogOf earlier log → ReadsRecord of (Ok None) → Adds earlier of number log (Ok tt)
record-nothing earlier of number log h r =
    subst (λ (said : Record). Adds earlier said number log (Ok tt)) (sym (blank-of of r.1 r.0)) (code-nothing earlier, log-nothing earlier log h)

pub record-bad : (earlier : List Record) (of : Record) (number : ℕ) (e : RowRefusal) → ReadsRecord of (Err e) → IsLogDue (log_fault_at number (record_code earlier of)) (row_refusal_at number e)
record-bad earlier of number Shape r = ap (log_fault_at number) (code-shape earlier of r)
record-bad earlier of number Name r = ap (log_fault_at number) (code-name earlier of r)
record-bad earlier of number Memory r = tt

-- ---- the records to come

faults-first : (bytes : List ℕ) (old left : List (List (List ℕ))) (fields : List (List ℕ)) (number : ℕ) (log : Log) (h : IsReadTo bytes old number log) → old ≡ fields ∷ left
    → option_or (log_fault_at (number + 1) (record_code h.earlier (record_of fields))) (first_record_fault (number + 1 + 1) (h.earlier ++ record_of fields ∷ []) (map record_of left)) ≡ first_log_fault bytes
faults-first bytes old left fields number log h e = ap (λ xs. first_record_fault (number + 1) h.earlier (map record_of xs)) (sym e) ∙ h.faults

pub read-on : (bytes : List ℕ) (old left : List (List (List ℕ))) (fields : List (List ℕ)) (number : ℕ) (log new : Log) → old ≡ fields ∷ left → IsReadTo bytes old number log
    → ((earlier : List Record) → IsLogOf earlier log → Adds earlier (record_of fields) (number + 1) new (Ok tt)) → IsReadTo bytes left (number + 1) new
read-on bytes old left fields number log new e h f =
    let added = f h.earlier h.logged in
    record {
      earlier = h.earlier ++ record_of fields ∷ [];
      logged = added.1;
      whole = append_assoc h.earlier (record_of fields ∷ []) (map record_of left) ∙ ap (λ xs. h.earlier ++ map record_of xs) (sym e) ∙ h.whole;
      faults = no_fault _ _ (first_log_fault bytes) (faults-first bytes old left fields number log h e) (ap (log_fault_at (number + 1)) added.0);
    }

pub read-refused : (bytes : List ℕ) (old left : List (List (List ℕ))) (fields : List (List ℕ)) (number : ℕ) (log new : Log) (refusal : LogReadRefusal) → old ≡ fields ∷ left → IsReadTo bytes old number log
    → ((earlier : List Record) → IsLogOf earlier log → Adds earlier (record_of fields) (number + 1) new (Err refusal)) → IsLogDue (first_log_fault bytes) refusal
read-refused bytes old left fields number log new refusal e h f = due_here _ _ (first_log_fault bytes) refusal (faults-first bytes old left fields number log h e) (f h.earlier h.logged)

pub read-log : (bytes : List ℕ) (old : List (List (List ℕ))) (number : ℕ) (log : Log) → old ≡ [] → IsReadTo bytes old number log → log ≡ log_of bytes
read-log bytes old number log e h =
    h.logged.is ∙ ap log_of_records (sym (append-nil h.earlier) ∙ ap (λ xs. h.earlier ++ map record_of xs) (sym e) ∙ h.whole)

pub read-well : (bytes : List ℕ) (old : List (List (List ℕ))) (number : ℕ) (log : Log) → old ≡ [] → IsReadTo bytes old number log → first_log_fault bytes ≡ None
read-well bytes old number log e h = sym h.faults ∙ ap (λ xs. first_record_fault (number + 1) h.earlier (map record_of xs)) e

pub read-start : (bytes : List ℕ) (left : List (List (List ℕ))) (log : Log) → left ≡ records default_config (strip_bom bytes) → log ≡ no_log → IsReadTo bytes left 0 log
read-start bytes left log e l = record {
  earlier = [];
  logged = record { is = l; known = tt };
  whole = ap (map record_of) e;
  faults = ap (λ xs. first_record_fault 1 [] (map record_of xs)) e;
}

pub ruleset log_steps = (read-on, read-refused, read-log, read-well, read-start)
