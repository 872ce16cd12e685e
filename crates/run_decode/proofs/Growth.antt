-- Instances stay when a question grows.
use Rattle.std.proofs.Common.{◌≡◌, ◌∙◌, ℕ, inl, inr, List, [], ◌∷◌, ◌++◌, length, map, filter, sym, ap, subst, arith, length-append, append-nil, append_assoc}
use Rattle.std.proofs.lemmas.List.{map-append}
use Rattle.card_counter.specs.CounterClauses.{CountClause, counts_on, counts_up, IsCountClause}
use Rattle.des_net.specs.Network.{Net}
use Rattle.question_clauses.proofs.LogCodes.{readings_stay}
use Rattle.question_clauses.proofs.Growth.{additions_are_exact}
use Rattle.question_clauses.proofs.Stay.{with_alarm, doubtful_is}
use Rattle.question_clauses.specs.Additions.{Addition, alarm_added, pair_added, with_addition}
use Rattle.question_clauses.specs.LogClauses.{doubtful_alarms}
use Rattle.log_order.specs.Log.{Log, is_doubtful}
use Rattle.prop_core.specs.VariableNames.{NamedLiteral, yes, dropped}
use Rattle.run_decode.specs.Drawn.{IsNamedClause, fault_inputs, dropped_meanings}
use Rattle.question_clauses.proofs.Lists.{get_more}
use Rattle.step_encode.specs.FaultInputs.{fault_meanings}
use Rattle.run_decode.specs.QuestionLaws.{InstancesStay}

-- the inputs of the counter stay, and those of a doubtful alarm come behind them
inputs_more : (net : Net) (log : Log) (n : ℕ) (addition : Addition) → (more : List NamedLiteral) × (fault_inputs net (with_addition log addition) n ≡ fault_inputs net log n ++ more)
inputs_more net log n (pair_added i j) = ([], sym (append-nil (fault_inputs net log n)))
inputs_more net log n (alarm_added new) = (
  map yes (map (λ i. dropped i) (filter (is_doubtful (with_alarm log new)) (length log.alarms ∷ []))),
  ap (λ names. map yes (fault_meanings net n ++ names)) names ∙ ap (map yes) (sym (append_assoc (fault_meanings net n) (dropped_meanings log) (map (λ i. dropped i) (filter (is_doubtful (with_alarm log new)) (length log.alarms ∷ [])))))
      ∙ map-append yes (fault_meanings net n ++ dropped_meanings log) (map (λ i. dropped i) (filter (is_doubtful (with_alarm log new)) (length log.alarms ∷ []))),
)
  where
    names : dropped_meanings (with_alarm log new) ≡ dropped_meanings log ++ map (λ i. dropped i) (filter (is_doubtful (with_alarm log new)) (length log.alarms ∷ []))
    names = ap (map (λ i. dropped i)) (doubtful_is log new) ∙ map-append (λ i. dropped i) (doubtful_alarms log) (filter (is_doubtful (with_alarm log new)) (length log.alarms ∷ []))

count_stays : (inputs more : List NamedLiteral) (which : CountClause) → IsCountClause inputs which → IsCountClause (inputs ++ more) which
count_stays inputs more (counts_on i j) h = (h.0, let size = length-append inputs more in let below = h.1 in omega (arith, size, below), h.2)
count_stays inputs more (counts_up i j x) h = (get_more inputs more i x h.0, h.1)

named_stays : (net : Net) (log : Log) (n : ℕ) (addition : Addition) (named : List NamedLiteral) → IsNamedClause net log n named → IsNamedClause net (with_addition log addition) n named
named_stays net log n addition named (inl is) = inl is
named_stays net log n addition named (inr (inl (which, is, same))) =
    let exact = additions_are_exact net log n addition which in
    inr (inl (which, exact.0.1 (inl is), sym (exact.1 is) ∙ same))
named_stays net log n addition named (inr (inr (which, is, same))) =
    let more = inputs_more net log n addition in
    inr (inr (which, subst (λ inputs. IsCountClause inputs which) (sym more.1) (count_stays (fault_inputs net log n) more.0 which is), same))

pub instances_stay : InstancesStay
instances_stay net log n addition names more clause once inside (named, is, reads) = (named, named_stays net log n addition named is, readings_stay names more clause named once inside reads)
