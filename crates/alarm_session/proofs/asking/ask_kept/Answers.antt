use Rattle.std.proofs.Common.{refl}
use Rattle.alarm_session.proofs.Stages.{question_goes_on, question_told_by}
use Rattle.alarm_session.proofs.asking.ask_kept.Goals as goal

pub returns-in_err-found-clause-goes_on : goal.returns-in_err-found-clause-goes_on
returns-in_err-found-clause-goes_on g c =
    question_goes_on c.args.budget c.args.kept.now (record { log = c.args.kept.now.log; size = c.args.kept.now.size; parts = c.least.new.parts; book = c.least.new.book }) (rw c.advise.ensures at c.least.ensures.kept) refl c.least.ensures.grown

pub returns-clause-goes_on : goal.returns-clause-goes_on
returns-clause-goes_on g c =
    question_goes_on c.args.budget c.args.kept.now (record { log = c.args.kept.now.log; size = c.args.kept.now.size; parts = c.least.new.parts; book = c.least.new.book }) (rw c.advise.ensures at c.least.ensures.kept) refl c.least.ensures.grown

pub returns-clause-told : goal.returns-clause-told
returns-clause-told g c =
    question_told_by c.args.budget c.args.kept.now (record { log = c.args.kept.now.log; size = c.args.kept.now.size; parts = c.least.new.parts; book = c.least.new.book }) (rw c.advise.ensures at c.least.ensures.kept)
    c.args.setting.net.now c.args.setting.steps c.in_ok-found.found c.requires.kept.of_log.time (rw c.advise.ensures at c.in_ok-found.ensures.answered) c.is_valid.ensures
