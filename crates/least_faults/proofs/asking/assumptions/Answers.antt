use Rattle.std.proofs.Common.{arith, sym, subst}
use Rattle.least_faults.proofs.Assuming.{assumed_alone, assumed_bound}
use Rattle.least_faults.proofs.AxiomLists.{adds_none}
use Rattle.least_faults.proofs.Staying.{question_same}
use Rattle.least_faults.proofs.asking.assumptions.Goals as goal
use Rattle.least_faults.proofs.asking.assumptions.Goals.{in-Some+in_ok-bound+in_ok-push, in_default}
use Rattle.least_faults.specs.Asking.{AreAssumed}
use Rattle.least_faults.specs.Growing.{KeepsQuestion}
use Rattle.least_faults.specs.Parts.{AreReady}
use Rattle.least_faults.specs.declared.parts.Parts.{Parts}
use Rattle.sat_solve.specs.Leaving.{AddsAxioms}

pub returns-in_err-extend_from_slice-clause-kept : goal.returns-in_err-extend_from_slice-clause-kept
returns-in_err-extend_from_slice-clause-kept g c = question_same c.args.parts.now c.args.book.now.entries

pub returns-clause-ready : goal.returns-clause-ready
returns-clause-ready g c = elim c.match-within.branch [
  | in-Some+in_ok-bound+in_ok-push w ↦
      subst (λ (p : Parts g.row.R.Denot). AreReady (goal.R-pre g) (goal.R-post g) p c.match-within.book.entries) (sym w.parts-is)
      (subst (λ b. AreReady (goal.R-pre g) (goal.R-post g) w.bound.new.parts b.entries) (sym w.book-is) (w.bound.ensures.alone c.requires.ready))
  | in_default w ↦
      subst (λ (p : Parts g.row.R.Denot). AreReady (goal.R-pre g) (goal.R-post g) p c.match-within.book.entries) (sym w.parts-is)
      (subst (λ b. AreReady (goal.R-pre g) (goal.R-post g) c.args.parts.now b.entries) (sym w.book-is) c.requires.ready)
]

pub returns-clause-kept : goal.returns-clause-kept
returns-clause-kept g c = elim c.match-within.branch [
  | in-Some+in_ok-bound+in_ok-push w ↦
      subst (λ (p : Parts g.row.R.Denot). KeepsQuestion c.args.parts.now p c.args.book.now.entries c.match-within.book.entries) (sym w.parts-is)
      (subst (λ b. KeepsQuestion c.args.parts.now w.bound.new.parts c.args.book.now.entries b.entries) (sym w.book-is) w.bound.ensures.kept)
  | in_default w ↦
      subst (λ (p : Parts g.row.R.Denot). KeepsQuestion c.args.parts.now p c.args.book.now.entries c.match-within.book.entries) (sym w.parts-is)
      (subst (λ b. KeepsQuestion c.args.parts.now c.args.parts.now c.args.book.now.entries b.entries) (sym w.book-is) (question_same c.args.parts.now c.args.book.now.entries))
]

pub returns-clause-axioms : goal.returns-clause-axioms
returns-clause-axioms g c = elim c.match-within.branch [
  | in-Some+in_ok-bound+in_ok-push w ↦ subst (λ b. AddsAxioms c.args.book.now.entries b.entries) (sym w.book-is) w.bound.ensures.axioms
  | in_default w ↦ subst (λ b. AddsAxioms c.args.book.now.entries b.entries) (sym w.book-is) (adds_none c.args.book.now.entries)
]

pub returns-clause-assumed : goal.returns-clause-assumed
returns-clause-assumed g c = elim c.match-within.branch [
  | in-Some+in_ok-bound+in_ok-push w ↦
      subst (λ (p : Parts g.row.R.Denot). AreAssumed c.args.parts.now.counter p c.args.within c.match-within.assumed.items) (sym w.parts-is)
      (subst (λ within. AreAssumed c.args.parts.now.counter w.bound.new.parts within c.match-within.assumed.items) (sym w.in-Some.is)
      (assumed_bound c.args.parts.now w.bound.new.parts w.in-Some.k c.guards.result.now w.in_ok-bound.field-0 c.match-within.assumed.items c.guards.ensures.whole c.guards.ensures.listed w.bound.ensures.kept.code
      w.in_ok-bound.ensures.literal.columns w.in_ok-bound.ensures.literal.literal_is (grind (arith, w.assumed-is, w.in_ok-push.ensures.items, c.in_ok-extend_from_slice.ensures.items, c.new-assumed.ensures.items))))
  | in_default w ↦
      subst (λ (p : Parts g.row.R.Denot). AreAssumed c.args.parts.now.counter p c.args.within c.match-within.assumed.items) (sym w.parts-is)
      (subst (λ within. AreAssumed c.args.parts.now.counter c.args.parts.now within c.match-within.assumed.items) (sym w.in_default.is)
      (assumed_alone c.args.parts.now c.guards.result.now c.match-within.assumed.items c.guards.ensures.whole c.guards.ensures.listed
      (grind (arith, w.assumed-is, c.in_ok-extend_from_slice.ensures.items, c.new-assumed.ensures.items))))
]
