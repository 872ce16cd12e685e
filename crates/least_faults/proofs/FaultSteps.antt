-- The faults of a run are those of its steps that are fault events or false alarms.
use Rattle.std.proofs.Common.{◌≡◌, ℕ, ◌+◌, Bool, true, false, cond, List, [], ◌∷◌, refl, arith, count_by}
use Rattle.std.specs.Prelude.{not, ◌||◌}
use Rattle.std.proofs.lemmas.List.Sums.{sum_by-cons}
use Rattle.des_net.specs.Network.{Net, is_fault}
use Rattle.des_net.specs.Run.{fault_count}
use Rattle.least_faults.specs.Answers.{is_fault_entry}
use Rattle.log_order.specs.Log.{Log}
use Rattle.replay.proofs.AcceptLemmas.{false_steps}
use Rattle.replay.specs.declared.run.RunStep.{RunStep}
use Rattle.replay.specs.declared.run.RunStep.TheVariants.{Happens, Dropped}
use Rattle.replay.specs.Explanation.{faults_of}
use Rattle.replay.specs.Matching.{is_real, order_of, IsWellMatched}
use Rattle.replay.specs.Traced.{word_of}

-- fault events and false alarms are counted apart
count_apart : (net : Net) (run : List RunStep) → count_by (is_fault_entry net) run ≡ fault_count net (word_of run) + count_by (λ step. not (is_real step)) run
count_apart net [] = refl
count_apart net (Happens e alarm ∷ run) =
    let rest = count_apart net run in
    let whole = sum_by-cons (λ (step : RunStep). cond (is_fault_entry net step) 1 0) (Happens e alarm) run in
    let events = sum_by-cons (λ (f : ℕ). cond (is_fault net f) 1 0) e (word_of run) in
    let alone = sum_by-cons (λ (step : RunStep). cond (not (is_real step)) 1 0) (Happens e alarm) run in
    let same = or_false (is_fault net e) in
    omega (arith, rest, whole, events, alone, same)
  where
    or_false : (b : Bool) → ◌≡◌ {A = ℕ} (cond (b || false) 1 0) (cond b 1 0)
    or_false true = refl
    or_false false = refl
count_apart net (Dropped alarm ∷ run) =
    let rest = count_apart net run in
    let whole = sum_by-cons (λ (step : RunStep). cond (is_fault_entry net step) 1 0) (Dropped alarm) run in
    let alone = sum_by-cons (λ (step : RunStep). cond (not (is_real step)) 1 0) (Dropped alarm) run in
    omega (arith, rest, whole, alone)

pub faults_counted : (net : Net) (log : Log) (run : List RunStep) → IsWellMatched net log run → count_by (is_fault_entry net) run ≡ faults_of net (word_of run) (order_of log run)
faults_counted net log run matched = omega (arith, count_apart net run, false_steps net log run matched)
