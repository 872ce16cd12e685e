use Rattle.std.proofs.Common.{subst}
use Rattle.std.specs.Prelude.{Option, IfSome, IfNone}
use Rattle.sat_solve.specs.declared.answer.Answer.{Answer}
use Rattle.sat_solve.specs.Solving.{GoesOn, IsEnded}
use Rattle.sat_solve.proofs.Booking.{searched_both}
use Rattle.sat_solve.proofs.Keeping.{keeps_both}
use Rattle.sat_solve.proofs.Putting.{learnt_both, put_after}
use Rattle.sat_solve.proofs.search.Search.run.Goals as goal

pub returns-in_err-answer-clause-searched : goal.returns-in_err-answer-clause-searched
returns-in_err-answer-clause-searched g c =
    searched_both c.args.book.now.entries c.more.book.entries c.step.new.book.entries c.args.budget.now c.more.budget c.step.new.budget c.more.invariant.searched c.step.ensures.searched

pub returns-in-Some-clause-searched : goal.returns-in-Some-clause-searched
returns-in-Some-clause-searched g c =
    searched_both c.args.book.now.entries c.more.book.entries c.step.new.book.entries c.args.budget.now c.more.budget c.step.new.budget c.more.invariant.searched c.step.ensures.searched

pub returns-in-Some-clause-ended : goal.returns-in-Some-clause-ended
returns-in-Some-clause-ended g c =
    let e = subst (λ (o : Option Answer). IfSome o (IsEnded c.args.assumptions.now c.step.new.self c.more.book.entries c.step.new.book.entries c.step.new.budget)) c.in-Some.is c.in_ok-answer.ensures.ended in
    record {
      sound = e.sound;
      put = put_after c.args.book.now.entries c.more.book.entries c.step.new.book.entries c.in-Some.answer c.more.invariant.learnt e.put;
      found = e.found;
      unfinished = e.unfinished;
    }

pub more-preserved : goal.more-preserved
more-preserved g c =
    let w = subst (λ (o : Option Answer). IfNone o (GoesOn c.args.assumptions.now c.step.new.self c.more.book.entries c.step.new.book.entries)) c.in_default.is c.in_ok-answer.ensures.goes_on in
    record {
      under_way = w.under_way;
      kept = keeps_both c.args.self.now c.more.self c.step.new.self c.more.invariant.kept c.step.ensures.kept;
      searched = searched_both c.args.book.now.entries c.more.book.entries c.step.new.book.entries c.args.budget.now c.more.budget c.step.new.budget c.more.invariant.searched c.step.ensures.searched;
      learnt = learnt_both c.args.book.now.entries c.more.book.entries c.step.new.book.entries c.more.invariant.learnt w.learnt;
    }
