use Rattle.std.proofs.Common.{◌<◌, arith, length, subst, sym}
use Rattle.fault_verdicts.proofs.Going.{goes_nowhere, goes_with_columns}
use Rattle.fault_verdicts.proofs.Guarding.{guards_alone, guards_bound}
use Rattle.fault_verdicts.proofs.Ready.{ready_with_columns}
use Rattle.fault_verdicts.proofs.assuming.guards_within.Goals as goal
use Rattle.fault_verdicts.proofs.assuming.guards_within.Goals.{then-inputs-gt0+in_ok-bound+in_ok-push, else-inputs-gt0}
use Rattle.fault_verdicts.specs.Judging.{KeepsStepsAndLog, bound_for}
use Rattle.fault_verdicts.specs.Ready.{AreReadyWith}
use Rattle.least_faults.proofs.AxiomLists.{adds_none}
use Rattle.least_faults.specs.Asking.{AreAssumptions}
use Rattle.sat_solve.specs.Leaving.{AddsAxioms}
use Rattle.least_faults.specs.declared.parts.Parts.{Parts}

pub returns-in_err-bound-clause-ready : goal.returns-in_err-bound-clause-ready
returns-in_err-bound-clause-ready g c = λ made ready.
    ready_with_columns _ _ c.args.parts.now c.bound.new.parts c.args.book.now.entries c.bound.new.book.entries made (omega (arith, c.if-inputs-gt0.true, c.inputs.ensures)) c.bound.ensures.ready c.bound.ensures.kept c.bound.ensures.axioms ready

pub returns-in_err-bound-clause-goes_on : goal.returns-in_err-bound-clause-goes_on
returns-in_err-bound-clause-goes_on g c = goes_with_columns c.args.parts.now c.bound.new.parts c.args.book.now.entries c.bound.new.book.entries c.bound.ensures.kept

pub returns-in_err-push-clause-ready : goal.returns-in_err-push-clause-ready
returns-in_err-push-clause-ready g c = λ made ready.
    ready_with_columns _ _ c.args.parts.now c.bound.new.parts c.args.book.now.entries c.bound.new.book.entries made (omega (arith, c.if-inputs-gt0.true, c.inputs.ensures)) c.bound.ensures.ready c.bound.ensures.kept c.bound.ensures.axioms ready

pub returns-in_err-push-clause-goes_on : goal.returns-in_err-push-clause-goes_on
returns-in_err-push-clause-goes_on g c = goes_with_columns c.args.parts.now c.bound.new.parts c.args.book.now.entries c.bound.new.book.entries c.bound.ensures.kept

pub returns-clause-ready : goal.returns-clause-ready
returns-clause-ready g c = λ made ready. elim c.if-inputs-gt0.branch [
  | then-inputs-gt0+in_ok-bound+in_ok-push w ↦
      subst (λ (p : Parts g.row.R.Denot). AreReadyWith (goal.R-pre g) (goal.R-post g) p c.if-inputs-gt0.book.entries made) (sym w.parts-is)
      (subst (λ b. AreReadyWith (goal.R-pre g) (goal.R-post g) w.bound.new.parts b.entries made) (sym w.book-is)
      (ready_with_columns _ _ c.args.parts.now w.bound.new.parts c.args.book.now.entries w.bound.new.book.entries made (omega (arith, w.if-inputs-gt0.true, c.inputs.ensures)) w.bound.ensures.ready w.bound.ensures.kept w.bound.ensures.axioms ready))
  | else-inputs-gt0 w ↦
      subst (λ (p : Parts g.row.R.Denot). AreReadyWith (goal.R-pre g) (goal.R-post g) p c.if-inputs-gt0.book.entries made) (sym w.parts-is)
      (subst (λ b. AreReadyWith (goal.R-pre g) (goal.R-post g) c.args.parts.now b.entries made) (sym w.book-is) ready)
]

pub returns-clause-goes_on : goal.returns-clause-goes_on
returns-clause-goes_on g c = elim c.if-inputs-gt0.branch [
  | then-inputs-gt0+in_ok-bound+in_ok-push w ↦
      subst (λ (p : Parts g.row.R.Denot). KeepsStepsAndLog 0 c.args.parts.now p) (sym w.parts-is)
      (goes_with_columns c.args.parts.now w.bound.new.parts c.args.book.now.entries w.bound.new.book.entries w.bound.ensures.kept)
  | else-inputs-gt0 w ↦ subst (λ (p : Parts g.row.R.Denot). KeepsStepsAndLog 0 c.args.parts.now p) (sym w.parts-is) (goes_nowhere 0 c.args.parts.now)
]

pub returns-clause-axioms : goal.returns-clause-axioms
returns-clause-axioms g c = elim c.if-inputs-gt0.branch [
  | then-inputs-gt0+in_ok-bound+in_ok-push w ↦ subst (λ b. AddsAxioms c.args.book.now.entries b.entries) (sym w.book-is) w.bound.ensures.axioms
  | else-inputs-gt0 w ↦ subst (λ b. AddsAxioms c.args.book.now.entries b.entries) (sym w.book-is) (adds_none c.args.book.now.entries)
]

pub returns-clause-within : goal.returns-clause-within
returns-clause-within g c = elim c.if-inputs-gt0.branch [
  | then-inputs-gt0+in_ok-bound+in_ok-push w ↦
      subst (λ (p : Parts g.row.R.Denot). AreAssumptions p.code.coded p.counter (bound_for p.counter c.args.k) c.if-inputs-gt0.assumed.items) (sym w.parts-is)
      (guards_bound c.args.parts.now.code w.bound.new.parts.code w.bound.new.parts.counter c.args.k (length c.args.parts.now.counter.columns) c.guards.result.now w.in_ok-bound.field-0 c.if-inputs-gt0.assumed.items c.guards.ensures.guards w.bound.ensures.kept.code
      (subst (λ inputs. 0 < length inputs) (sym w.bound.ensures.kept.counter.inputs) (omega (arith, w.if-inputs-gt0.true, c.inputs.ensures))) w.in_ok-bound.ensures.literal.columns w.in_ok-bound.ensures.literal.literal_is
      (grind (arith, w.assumed-is, w.in_ok-push.ensures.items, c.in_ok-extend_from_slice.ensures.items, c.new-assumed.ensures.items)))
  | else-inputs-gt0 w ↦
      subst (λ (p : Parts g.row.R.Denot). AreAssumptions p.code.coded p.counter (bound_for p.counter c.args.k) c.if-inputs-gt0.assumed.items) (sym w.parts-is)
      (guards_alone c.args.parts.now.code.coded c.args.parts.now.counter c.args.k c.guards.result.now c.if-inputs-gt0.assumed.items c.guards.ensures.guards (omega (arith, w.if-inputs-gt0.false, c.inputs.ensures))
      (grind (arith, w.assumed-is, c.in_ok-extend_from_slice.ensures.items, c.new-assumed.ensures.items)))
]
