-- By what was found, and the verdicts behind it.
use Rattle.std.proofs.Common.{◌∙◌, ap, refl}
use Rattle.des_base.specs.Outside.{Rose}
use Rattle.answers.specs.declared.found.Found.TheVariants.{Many}
use Rattle.step_encode.specs.Coded.{CodedSteps}
use Rattle.telling.proofs.Taking.{rose_later}
use Rattle.verdict_telling.proofs.Both.{broken_first, found_best, judged_behind, said_alone}
use Rattle.verdict_telling.proofs.Failures.{all_said, judged_fails}
use Rattle.verdict_telling.proofs.Leaving.{in_order_alone, in_order_behind, left_alone}
use Rattle.verdict_telling.specs.declared.whole.Told.TheVariants.{TooMany}
use Rattle.verdict_telling.proofs.whole.tell_whole.Goals as goal

pub tell_verdicts-told-requires-clause-known : goal.tell_verdicts-told-requires-clause-known
tell_verdicts-told-requires-clause-known g c =
    let tells = rw c.in-Ok-Explained.field-0-is at c.in-Ok-Explained.ensures.tells in
    found_best c.args.case.now.net c.args.case.now.log c.args.steps c.tell_found.new.parts.step.steps c.args.budget c.tell_found.new.book.entries c.in-Ok-Explained.best (ap (λ (s : CodedSteps). s.steps) c.tell_found.ensures.stays.step ∙ c.requires.time) tells.0

pub returns-in-Ok-Explained-clause-tells : goal.returns-in-Ok-Explained-clause-tells
returns-in-Ok-Explained-clause-tells g c =
    let tells = rw c.in-Ok-Explained.field-0-is at c.in-Ok-Explained.ensures.tells in
    judged_behind c.args.case.now.net c.args.case.now.log c.args.steps c.args.budget c.in-Ok-Explained.best c.tell_found.new.book.entries c.tell_verdicts-told.new.book.entries _ _ _ (Rose (g.S.Sink.faults c.args.out.now) (g.S.Sink.faults c.tell_found.new.out)) _ _ tells c.tell_found.new.parts.step.steps c.tell_verdicts-told.result c.judged.result
    (ap (λ (s : CodedSteps). s.steps) c.tell_found.ensures.stays.step ∙ c.requires.time) c.tell_verdicts-told.ensures.tells c.judged.ensures (rose_later _ _ _ c.tell_found.ensures.never_falls)

pub returns-in-Ok-Many-clause-tells : goal.returns-in-Ok-Many-clause-tells
returns-in-Ok-Many-clause-tells g c =
    let tells = rw c.in-Ok-Many.field-0-is at c.in-Ok-Many.ensures.tells in
    said_alone c.args.case.now.net c.args.case.now.log c.args.steps c.args.budget c.tell_found.new.book.entries _ _ (Rose (g.S.Sink.faults c.args.out.now) (g.S.Sink.faults c.tell_found.new.out)) (Many _) TooMany refl refl tells

pub returns-clause-tells : goal.returns-clause-tells
returns-clause-tells g c = broken_first c.args.case.now.net c.args.case.now.log c.args.steps c.args.budget c.tell_found.new.book.entries _ _ _ c.in-Err.broken c.tell_found.ensures.left c.in-Err.ensures.tells

pub returns-in-Ok-Explained-clause-failures : goal.returns-in-Ok-Explained-clause-failures
returns-in-Ok-Explained-clause-failures g c = judged_fails c.tell_verdicts-told.result c.judged.result _ _ _ c.judged.ensures (c.in-Ok-Explained.ensures.failures.stays (λ put. cc)) c.tell_verdicts-told.ensures.failures

pub returns-in-Ok-Many-clause-failures : goal.returns-in-Ok-Many-clause-failures
returns-in-Ok-Many-clause-failures g c = all_said _ _ _ _ c.in-Ok-Many.ensures.failures

pub returns-in-Ok-Absent-clause-left : goal.returns-in-Ok-Absent-clause-left
returns-in-Ok-Absent-clause-left g c = left_alone c.args.case.now.net c.args.case.now.log c.args.steps c.args.budget c.tell_found.new.book.entries c.tell_found.ensures.left

pub returns-in-Ok-Many-clause-left : goal.returns-in-Ok-Many-clause-left
returns-in-Ok-Many-clause-left g c = left_alone c.args.case.now.net c.args.case.now.log c.args.steps c.args.budget c.tell_found.new.book.entries c.tell_found.ensures.left

pub returns-in-Ok-Undecided-clause-left : goal.returns-in-Ok-Undecided-clause-left
returns-in-Ok-Undecided-clause-left g c = left_alone c.args.case.now.net c.args.case.now.log c.args.steps c.args.budget c.tell_found.new.book.entries c.tell_found.ensures.left

pub returns-clause-left : goal.returns-clause-left
returns-clause-left g c = left_alone c.args.case.now.net c.args.case.now.log c.args.steps c.args.budget c.tell_found.new.book.entries c.tell_found.ensures.left

pub returns-in-Ok-Explained-clause-in_order : goal.returns-in-Ok-Explained-clause-in_order
returns-in-Ok-Explained-clause-in_order g c =
    let tells = rw c.in-Ok-Explained.field-0-is at c.in-Ok-Explained.ensures.tells in
    in_order_behind c.args.case.now.net c.args.case.now.log c.args.steps c.tell_found.new.parts.step.steps c.args.budget c.in-Ok-Explained.best c.tell_found.new.book.entries c.tell_verdicts-told.new.book.entries _ _ _ c.tell_verdicts-told.result
    (ap (λ (s : CodedSteps). s.steps) c.tell_found.ensures.stays.step ∙ c.requires.time) c.tell_found.ensures.left tells.0 c.tell_verdicts-told.ensures.tells

pub returns-in-Ok-Many-clause-in_order : goal.returns-in-Ok-Many-clause-in_order
returns-in-Ok-Many-clause-in_order g c = in_order_alone c.args.case.now.net c.args.case.now.log c.args.steps c.args.budget c.tell_found.new.book.entries c.tell_found.ensures.left
