-- By the plant that is made.
use Rattle.std.proofs.Common.{[], subst}
use Rattle.des_net.specs.Network.{Net}
use Rattle.gen_plant.specs.Plant.{plant_net, plant_log}
use Rattle.log_order.specs.Log.{Log}
use Rattle.replay.specs.QuestionSize.{question_size}
use Rattle.diagnose_cli.specs.Commands.{bench}
use Rattle.diagnose_cli.specs.Due.{ClosesOnce, EndsBySize, MayReply}
use Rattle.diagnose_cli.specs.Replies.{SaysBenched, SaysSummary}
use Rattle.diagnose_cli.proofs.Diagnosing.{summary_decided}
use Rattle.diagnose_cli.proofs.Limits.{ends_weaker}
use Rattle.diagnose_cli.proofs.ReadOver.{over_none}
use Rattle.diagnose_cli.proofs.bench_command.BenchCommandAnswering.answer.Goals as goal

pub returns-clause-closes : goal.returns-clause-closes
returns-clause-closes c texts read never =
    let s = c.args.self.now in
    let n = s.limits.steps in
    let book = c.bench-answer.new.book.entries in
    let r = c.bench-answer.result in
    let plant = c.in_ok-plant.plant in
    over_none (λ ts. ClosesOnce (bench.task s) c.args._words.now book ts r) texts read
    (ends_weaker (question_size (plant_net s.units) (plant_log s.units s.start) n) (SaysBenched s.units s.start n s.limits.budget book) (MayReply (bench.task s) c.args._words.now book []) r (λ reply says. record { says = says; decided = summary_decided s.units s.start n s.limits.budget book reply says })
    (subst (λ (a : Log). EndsBySize (question_size (plant_net s.units) a n) (SaysSummary s.units (plant_net s.units) a n s.limits.budget book) r) c.in_ok-plant.ensures.log
    (subst (λ (m : Net). EndsBySize (question_size m plant.log n) (SaysSummary s.units m plant.log n s.limits.budget book) r) c.in_ok-plant.ensures.net (c.bench-answer.ensures.ends never))))
