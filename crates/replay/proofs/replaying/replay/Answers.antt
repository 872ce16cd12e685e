-- Each answer says that the run is accepted exactly if it is.
use Rattle.std.proofs.Common.{◌≡◌, ◌∙◌, ◌+◌, ◌≤◌, ℕ, List, ap, subst, rules, arith, not, count_by}
use Rattle.std.specs.Prelude.{MatchOption}
use Rattle.std.proofs.lemmas.Option.{MatchOption-at_some}
use Rattle.des_net.specs.Network.{Net}
use Rattle.des_net.specs.Run.{IsRun}
use Rattle.log_order.specs.Log.{Log}
use Rattle.replay.specs.declared.run.RunStep.{RunStep}
use Rattle.replay.specs.declared.replaying.Replayed.{Replayed}
use Rattle.replay.specs.declared.replaying.Replayed.TheVariants.{Accepted, Stuck, TooWide}
use Rattle.replay.specs.declared.tracing.Traced.TheVariants.{Ran}
use Rattle.replay.specs.Traced.{word_of, IsTraced}
use Rattle.replay.specs.Replayed.{HasAlarms, IsReplayed}
use Rattle.des_net.specs.Width.{need}
use Rattle.replay.specs.Matching.{is_real}
use Rattle.replay.proofs.RunLemmas.{fault_few}
use Rattle.replay.proofs.AcceptLemmas.{accepted_where, suited_faults}
use Rattle.replay.proofs.replaying.replay.Goals as goal

-- what is wrong with the alarms of a run that can be performed
abbrev WrongWith : Net → Log → List RunStep → Replayed → Type 0
WrongWith net log run replayed = (n : ℕ) → IsRun net (word_of run) → IsReplayed net log run n replayed

wrong_is : (c : goal.In-Some) → IsReplayed c.args.net.now c.args.log.now c.args.run.now c.args.n c.in-Some.wrong
wrong_is c =
    let traced : IsTraced c.args.net.now c.args.run.now c.in_ok-at.field-0 = c.in_ok-at.ensures in
    let told : MatchOption c.in_ok-wrong.field-0 (HasAlarms c.args.net.now c.args.log.now c.steps-steps.result.now) (WrongWith c.args.net.now c.args.log.now c.steps-steps.result.now) = c.in_ok-wrong.ensures.wrong in
    let wrong : WrongWith c.args.net.now c.args.log.now c.args.run.now c.in-Some.wrong = subst (λ (run : List RunStep). WrongWith c.args.net.now c.args.log.now run c.in-Some.wrong) c.steps-steps.ensures.steps
    (MatchOption-at_some (HasAlarms c.args.net.now c.args.log.now c.steps-steps.result.now) (WrongWith c.args.net.now c.args.log.now c.steps-steps.result.now) c.in-Some.wrong c.in-Some.is told) in
    wrong c.args.n (subst (IsTraced c.args.net.now c.args.run.now) c.in-Ran.is traced).0

pub returns-in-Stuck-clause-accepted : goal.returns-in-Stuck-clause-accepted
returns-in-Stuck-clause-accepted c =
    let h : IsReplayed c.args.net.now c.args.log.now c.args.run.now c.args.n (Stuck c.in-Stuck.at) = search rules in
    accepted_where c.args.net.now c.args.log.now c.args.run.now c.args.n (Stuck c.in-Stuck.at) h

pub returns-in-Some-clause-replayed : goal.returns-in-Some-clause-replayed
returns-in-Some-clause-replayed c = wrong_is c

pub returns-in-Some-clause-accepted : goal.returns-in-Some-clause-accepted
returns-in-Some-clause-accepted c = accepted_where c.args.net.now c.args.log.now c.args.run.now c.args.n c.in-Some.wrong (wrong_is c)

pub returns-then-need-n-clause-accepted : goal.returns-then-need-n-clause-accepted
returns-then-need-n-clause-accepted c =
    let h : IsReplayed c.args.net.now c.args.log.now c.args.run.now c.args.n (TooWide c.in_ok-need.need) = search rules in
    accepted_where c.args.net.now c.args.log.now c.args.run.now c.args.n (TooWide c.in_ok-need.need) h

-- the run explains the log, with its faults and its false alarms
accepted_is : (c : goal.After-count_dropped) → IsReplayed c.args.net.now c.args.log.now c.args.run.now c.args.n (Accepted (c.in-Ran.faults + c.count_dropped.result))
accepted_is c =
    let traced : IsTraced c.args.net.now c.args.run.now c.in_ok-at.field-0 = c.in_ok-at.ensures in
    let ran : IsTraced c.args.net.now c.args.run.now (Ran c.in-Ran.faults) = subst (IsTraced c.args.net.now c.args.run.now) c.in-Ran.is traced in
    let alarms : HasAlarms c.args.net.now c.args.log.now c.args.run.now = search rules in
    let few : need c.args.net.now (word_of c.args.run.now) ≤ c.args.n = search rules in
    let dropped : c.count_dropped.result ≡ count_by (λ step. not (is_real step)) c.args.run.now = c.count_dropped.ensures.count ∙ ap (λ (run : List RunStep). count_by (λ step. not (is_real step)) run) c.steps-steps.ensures.steps in
    (ran.0, alarms, few, suited_faults c.args.net.now c.args.log.now c.args.run.now c.in-Ran.faults c.count_dropped.result alarms.suit ran.1 dropped)

pub overflow_add-result : goal.overflow_add-result
overflow_add-result c =
    let traced : IsTraced c.args.net.now c.args.run.now c.in_ok-at.field-0 = c.in_ok-at.ensures in
    let ran : IsTraced c.args.net.now c.args.run.now (Ran c.in-Ran.faults) = subst (IsTraced c.args.net.now c.args.run.now) c.in-Ran.is traced in
    let faults = fault_few c.args.net.now c.args.run.now in
    let dropped = c.count_dropped.ensures.few in
    let few = c.steps-steps.ensures.few in
    omega (arith, ran.1, faults, dropped, few)

pub returns-clause-replayed : goal.returns-clause-replayed
returns-clause-replayed c = accepted_is c

pub returns-clause-accepted : goal.returns-clause-accepted
returns-clause-accepted c = accepted_where c.args.net.now c.args.log.now c.args.run.now c.args.n (Accepted (c.in-Ran.faults + c.count_dropped.result)) (accepted_is c)
