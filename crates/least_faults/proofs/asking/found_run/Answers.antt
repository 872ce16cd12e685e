use Rattle.std.proofs.Common.{◌≡◌, ◌∙◌, ℕ, ◌<◌, ◌++◌, All, Bool, List, ap, count_by, length, subst, sym}
use Rattle.card_counter.specs.Counting.{true_count}
use Rattle.des_net.specs.Network.{Net}
use Rattle.least_faults.proofs.FaultSteps.{faults_counted}
use Rattle.least_faults.proofs.KnownEvents.{run_known}
use Rattle.least_faults.proofs.asking.found_run.Goals as goal
use Rattle.least_faults.specs.Answers.{is_fault_entry}
use Rattle.log_order.specs.Log.{Log}
use Rattle.prop_core.specs.Clauses.{value_in}
use Rattle.replay.specs.declared.run.RunStep.{RunStep}
use Rattle.replay.specs.Explanation.{faults_of}
use Rattle.replay.specs.Matching.{order_of, IsWellMatched}
use Rattle.replay.specs.Traced.{word_of}
use Rattle.step_encode.specs.Coded.{code_grid}
use Rattle.step_encode.specs.FaultInputs.{fault_literals}

pub count_faults-faults-requires-clause-known : goal.count_faults-faults-requires-clause-known
count_faults-faults-requires-clause-known g c =
    subst (All (λ e. e < length c.args.question.net.now.events)) (sym (ap word_of c.steps.ensures.steps)) (run_known c.args.question.net.now (word_of c.in_ok-run.run') c.in_ok-run.ensures.explains.run)

-- the steps' faults are those of the run
counted : (net : Net) (log : Log) (run steps : List RunStep) (faults : ℕ) → IsWellMatched net log run → steps ≡ run → faults ≡ count_by (is_fault_entry net) steps → faults_of net (word_of run) (order_of log run) ≡ faults
counted net log run steps faults matched same count = sym (count ∙ ap (λ (xs : List RunStep). count_by (is_fault_entry net) xs) same ∙ faults_counted net log run matched)

pub returns-clause-given : goal.returns-clause-given
returns-clause-given g c = record {
  matched = c.in_ok-run.ensures.matched;
  explains = c.in_ok-run.ensures.explains;
  faults = counted c.args.question.net.now c.args.question.log.now c.in_ok-run.run' c.steps.result.now c.count_faults-faults.result c.in_ok-run.ensures.matched c.steps.ensures.steps c.count_faults-faults.ensures;
}

pub returns-clause-faults : goal.returns-clause-faults
returns-clause-faults g c =
    let inputs = c.requires.inputs in
    let net = ap (λ (net' : Net). fault_literals net' (code_grid c.args.parts.now.step) ++ inputs.false_lits) c.requires.belong.of_steps in
    sym (counted c.args.question.net.now c.args.question.log.now c.in_ok-run.run' c.steps.result.now c.count_faults-faults.result c.in_ok-run.ensures.matched c.steps.ensures.steps c.count_faults-faults.ensures)
    ∙ c.in_ok-run.ensures.faults inputs.false_lits inputs.read
    ∙ ap (λ (values : List Bool). true_count (value_in values) (fault_literals c.args.question.net.now (code_grid c.args.parts.now.step) ++ inputs.false_lits)) c.assignment.ensures.value
    ∙ ap (true_count (value_in c.args.parts.now.solver.assignment)) (sym (inputs.whole ∙ net))
