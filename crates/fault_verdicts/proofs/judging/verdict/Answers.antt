use Rattle.des_base.proofs.Results.{on_err}
use Rattle.std.proofs.Common.{List, ap, subst, sym}
use Rattle.std.specs.Prelude.{Contains}
use Rattle.fault_verdicts.proofs.Answered.{judged, left_open, unanswered_shown}
use Rattle.fault_verdicts.proofs.Going.{ready_with_mark}
use Rattle.fault_verdicts.proofs.judging.verdict.Goals as goal
use Rattle.fault_verdicts.specs.Judged.{IsVerdictOpenAtMost}
use Rattle.fault_verdicts.specs.Judging.{EndsWithoutVerdict, IsVerdictShown}
use Rattle.least_faults.proofs.Closing.{grown_closed, grown_opened}
use Rattle.proof_ledger.specs.Kept.{LedgerState}
use Rattle.replay.specs.Traced.{word_of}
use Rattle.replay.specs.declared.run.RunStep.{RunStep}

pub ask-requires-clause-ready : goal.ask-requires-clause-ready
ask-requires-clause-ready g c = ready_with_mark _ _ c.args.parts.now 0 c.args.book.now.entries c.put_mark.new.self.entries (ap (λ (b : LedgerState). b.entries) c.in_ok-put_mark.ensures.added) c.requires.ready

pub returns-clause-ready : goal.returns-clause-ready
returns-clause-ready g c = ready_with_mark _ _ c.ask.new.parts 1 c.ask.new.book.entries c.put_mark-2.new.self.entries (ap (λ (b : LedgerState). b.entries) c.in_ok-put_mark-2.ensures.added) c.ask.ensures.ready

pub returns-clause-grown : goal.returns-clause-grown
returns-clause-grown g c =
    grown_closed c.args.budget c.args.book.now.entries c.ask.new.book.entries c.put_mark-2.new.self.entries (ap (λ (b : LedgerState). b.entries) c.in_ok-put_mark-2.ensures.added)
    (grown_opened c.args.budget c.ask.new.left c.args.book.now.entries c.put_mark.new.self.entries c.ask.new.book.entries (ap (λ (b : LedgerState). b.entries) c.in_ok-put_mark.ensures.added) c.ask.ensures.searching)

pub returns-clause-judged : goal.returns-clause-judged
returns-clause-judged g c =
    judged c.args.net.now c.args.log.now c.ask.new.parts.step.steps c.args.k c.args.event c.args.budget c.args.first.now c.args.book.now.entries c.put_mark.new.self.entries c.ask.new.book.entries c.put_mark-2.new.self.entries c.in_ok-verdict.verdict
    (ap (λ (b : LedgerState). b.entries) c.in_ok-put_mark.ensures.added) (ap (λ (b : LedgerState). b.entries) c.in_ok-put_mark-2.ensures.added)
    (subst (λ steps. IsVerdictShown c.args.net.now c.args.log.now c.ask.new.parts.step.steps c.args.k c.args.event steps c.args.budget c.put_mark.new.self.entries c.ask.new.book.entries c.in_ok-verdict.verdict) c.steps.ensures.steps c.in_ok-verdict.ensures.asked)

pub returns-in_err-verdict-clause-unanswered : goal.returns-in_err-verdict-clause-unanswered
returns-in_err-verdict-clause-unanswered g c =
    on_err _ _ (left_open c.args.net.now c.args.log.now c.ask.new.parts.step.steps c.args.k c.args.event c.args.budget c.ask.new.left c.args.first.now c.args.book.now.entries c.put_mark.new.self.entries c.ask.new.book.entries
    (ap (λ (b : LedgerState). b.entries) c.in_ok-put_mark.ensures.added) c.ask.ensures.searching
    (subst (λ steps. EndsWithoutVerdict c.args.net.now c.args.log.now c.ask.new.parts.step.steps c.args.k c.args.event steps c.put_mark.new.self.entries c.ask.new.book.entries) c.steps.ensures.steps c.in_err-verdict.ensures.quit))

pub returns-in_err-put_mark-2-clause-unanswered : goal.returns-in_err-put_mark-2-clause-unanswered
returns-in_err-put_mark-2-clause-unanswered g c =
    on_err _ _ (subst (λ (b : LedgerState). IsVerdictOpenAtMost c.args.net.now c.args.log.now c.ask.new.parts.step.steps c.args.k c.args.event c.args.budget c.args.first.now c.args.book.now.entries b.entries) (sym c.in_err-put_mark-2.ensures.err)
    (left_open c.args.net.now c.args.log.now c.ask.new.parts.step.steps c.args.k c.args.event c.args.budget c.ask.new.left c.args.first.now c.args.book.now.entries c.put_mark.new.self.entries c.ask.new.book.entries
    (ap (λ (b : LedgerState). b.entries) c.in_ok-put_mark.ensures.added) c.ask.ensures.searching
    (subst (λ steps. EndsWithoutVerdict c.args.net.now c.args.log.now c.ask.new.parts.step.steps c.args.k c.args.event steps c.put_mark.new.self.entries c.ask.new.book.entries) c.steps.ensures.steps (unanswered_shown _ _ _ _ _ _ _ _ _ _ c.in_ok-verdict.ensures.asked)))
    )

pub returns-in_err-verdict-clause-unmade : goal.returns-in_err-verdict-clause-unmade
returns-in_err-verdict-clause-unmade g c has = c.ask.ensures.unmade (subst (λ (steps : List RunStep). Contains (word_of steps) c.args.event) (sym c.steps.ensures.steps) has)

pub returns-in_err-put_mark-2-clause-unmade : goal.returns-in_err-put_mark-2-clause-unmade
returns-in_err-put_mark-2-clause-unmade g c has = c.ask.ensures.unmade (subst (λ (steps : List RunStep). Contains (word_of steps) c.args.event) (sym c.steps.ensures.steps) has)

pub returns-clause-unmade : goal.returns-clause-unmade
returns-clause-unmade g c has = c.ask.ensures.unmade (subst (λ (steps : List RunStep). Contains (word_of steps) c.args.event) (sym c.steps.ensures.steps) has)
