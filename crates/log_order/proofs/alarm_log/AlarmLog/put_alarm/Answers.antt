-- The new alarm's id is new, and it has labels.
use Rattle.std.proofs.Common.{◌≡◌, ◌∙◌, ◌<◌, ◌≤◌, ◌+◌, ◌++◌, ◌∷◌, [], ℕ, List, None, length, ap, sym, subst, arith, length-append}
use Rattle.std.specs.List.{AllByRecursion}
use Rattle.des_base.specs.Names.{place_of, AreNames}
use Rattle.des_base.proofs.TableLemmas.{AreNames-push}
use Rattle.log_order.specs.Log.{Log, Alarm, an_alarm, a_log}
use Rattle.log_order.specs.Certainty.{leaves_doubt}
use Rattle.log_order.specs.Meanings.{AlarmMeaning, alarms_with}
use Rattle.log_order.specs.View.{log_view}
use Rattle.log_order.proofs.Meaning.{alarms_with-push}
use Rattle.log_order.specs.Precedence.{Precedence}
use Rattle.log_order.specs.Adding.{names_of, with_alarm, with_texts, IsAlarm}
use Rattle.log_order.specs.declared.TheConstants.{MOST_ALARMS, MOST_PAIRS}
use Rattle.log_order.proofs.AlarmLemmas.{IsNewAlarm-from, IsAlarm-from, names_of-push, few_ids, length-names_of}
use Rattle.log_order.proofs.OrderLemmas.{all_append}
use Rattle.log_order.proofs.alarm_log.AlarmLog.put_alarm.Goals as goal

pub each_once-requires : goal.each_once-requires
each_once-requires c = (IsNewAlarm-from _ _ _ c.requires).few

room : (c : goal.After-add_number-arg-2-1) → length (log_view c.self.inside).alarms < MOST_ALARMS
room c = subst (λ (log : Log). length log.alarms < MOST_ALARMS) (sym c.self.view_is) (IsNewAlarm-from _ _ _ c.requires).room

pub add_number-requires-clause-room : goal.add_number-requires-clause-room
add_number-requires-clause-room c = subst (λ n. n < MOST_ALARMS) (sym c.self.invariant.counted) (room c)

pub add_number-requires-clause-few : goal.add_number-requires-clause-few
add_number-requires-clause-few c = few_ids _ _ c.self.invariant.named (room c)

pub add_number-requires-clause-new : goal.add_number-requires-clause-new
add_number-requires-clause-new c = ap (place_of c.args.id) (c.self.invariant.named ∙ ap (λ (log : Log). names_of log.alarms) c.self.view_is) ∙ (IsNewAlarm-from _ _ _ c.requires).new

-- the alarm that is added
abbrev added : (c : goal.After-push_reserved) → Alarm
added c = an_alarm c.args.id (with_texts [] c.args.labels.now) (leaves_doubt c.args.certainty)

alarms_are : (c : goal.After-push_reserved) → alarms_with c.add_number.new.ids c.push_reserved.new.self.items ≡ (log_view c.self.inside).alarms ++ added c ∷ []
alarms_are c =
    let meaning : AlarmMeaning = record { labels = with_texts [] c.args.labels.now; doubtful = leaves_doubt c.args.certainty } in
    let meanings : c.push_reserved.new.self.items ≡ c.self.inside.meanings.items ++ meaning ∷ [] =
    c.push_reserved.ensures.items ∙ ap (λ ms. ms ++ record { labels = c.in_ok-each_once.field-0.items; doubtful = leaves_doubt c.args.certainty } ∷ []) c.in_ok-reserve.ensures.items
    ∙ ap (λ (labels : List (List ℕ)). c.self.inside.meanings.items ++ record { labels = labels; doubtful = leaves_doubt c.args.certainty } ∷ []) c.in_ok-each_once.ensures.once in
    (λ i. alarms_with (c.in_ok-number.ensures.ids i) (meanings i)) ∙ alarms_with-push c.self.inside.ids c.self.inside.meanings.items c.args.id meaning c.self.invariant.paired

pub invariant_of-self-2 : goal.invariant_of-self-2
invariant_of-self-2 c =
    let old : List Alarm = (log_view c.self.inside).alarms in
    let is : alarms_with c.add_number.new.ids c.push_reserved.new.self.items ≡ old ++ added c ∷ [] = alarms_are c in
    let new = IsNewAlarm-from _ _ _ c.requires in
    let few : length old < MOST_ALARMS = subst (λ (log : Log). length log.alarms < MOST_ALARMS) (sym c.self.view_is) new.room in
    let fresh : place_of c.args.id (names_of old) ≡ None = ap (λ (log : Log). place_of c.args.id (names_of log.alarms)) c.self.view_is ∙ new.new in
    let names : names_of (alarms_with c.add_number.new.ids c.push_reserved.new.self.items) ≡ names_of old ++ c.args.id ∷ [] = ap names_of is ∙ names_of-push old (added c) in
    let long : length (alarms_with c.add_number.new.ids c.push_reserved.new.self.items) ≡ length old + 1 = ap length is ∙ length-append old (added c ∷ []) in
    let labels : AreNames (with_texts [] c.args.labels.now) = subst AreNames c.in_ok-each_once.ensures.once c.in_ok-each_once.ensures.names in
    let ids : length c.add_number.new.ids ≡ length c.self.inside.ids + 1 = ap length c.in_ok-number.ensures.ids ∙ length-append c.self.inside.ids (c.args.id ∷ []) in
    let meanings : length c.push_reserved.new.self.items ≡ length c.self.inside.meanings.items + 1 = ap length c.push_reserved.ensures.items
    ∙ length-append c.reserve.new.self.items (record { labels = c.in_ok-each_once.field-0.items; doubtful = leaves_doubt c.args.certainty } ∷ []) ∙ ap (λ ms. length ms + 1) c.in_ok-reserve.ensures.items in
    let paired = c.self.invariant.paired in
    record {
      paired = omega arith;
      named = c.in_ok-number.ensures.ids ∙ ap (λ ids. ids ++ c.args.id ∷ []) c.self.invariant.named ∙ sym names;
      counted = ap (λ (p : Precedence). p.count) c.in_ok-number.ensures.ok ∙ ap (λ n. n + 1) c.self.invariant.counted ∙ sym long;
      names = subst AreNames (sym names) (AreNames-push (names_of old) c.args.id c.self.invariant.names c.as_str-text.ensures.name fresh (omega (arith, length-names_of old)));
      alarms = subst (λ (xs : List Alarm). AllByRecursion IsAlarm xs) (sym is) (all_append IsAlarm old (added c ∷ []) c.self.invariant.alarms (IsAlarm-from c.args.id c.args.labels.now (leaves_doubt c.args.certainty) labels new.some new.few, tt));
      few_alarms = omega (arith, long);
      few_pairs = subst (λ (p : Precedence). length p.pairs ≤ MOST_PAIRS) (sym c.in_ok-number.ensures.ok) c.self.invariant.few_pairs;
    }

pub returns-clause-ok : goal.returns-clause-ok
returns-clause-ok c =
    let pairs : c.add_number.new.self.pairs ≡ c.self.inside.precedence.pairs = ap (λ (p : Precedence). p.pairs) c.in_ok-number.ensures.ok in
    (λ i. a_log (alarms_are c i) (pairs i)) ∙ ap (λ (log : Log). with_alarm log c.args.id c.args.labels.now (leaves_doubt c.args.certainty)) c.self.view_is
