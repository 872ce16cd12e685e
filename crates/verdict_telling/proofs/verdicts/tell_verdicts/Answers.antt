-- By what was told from the first stage.
use Rattle.std.proofs.Common.{◌∙◌, ap, false}
use Rattle.verdict_telling.proofs.Ends.{told_from}
use Rattle.verdict_telling.proofs.Failures.{told_fails}
use Rattle.verdict_telling.proofs.Leaving.{asked_by_judge, grown_from, left_behind}
use Rattle.verdict_telling.proofs.verdicts.tell_verdicts.Goals as goal

pub returns-clause-tells : goal.returns-clause-tells
returns-clause-tells g c =
    told_from (record { judge = c.new-2.result; open_left = false }) c.tell_all-told.new.teller _ _ _ _ _ _ c.tell_all-told.result c.left_open.result (ap (λ j. j.matter) c.new-2.ensures) (ap (λ j. j.book) c.new-2.ensures ∙ ap (λ (b : _). b.entries) c.replace-own.ensures.value) c.into_book.ensures.book c.tell_all-told.ensures.tells c.left_open.ensures

pub returns-clause-failures : goal.returns-clause-failures
returns-clause-failures g c = told_fails c.tell_all-told.result _ c.left_open.result _ _ c.left_open.ensures c.tell_all-told.ensures.failures

pub returns-clause-left : goal.returns-clause-left
returns-clause-left g c question =
    let net = c.args.net.now in
    let matter = ap (λ j. j.matter) c.new-2.ensures in
    let begins = ap (λ j. j.book) c.new-2.ensures ∙ ap (λ (b : _). b.entries) c.replace-own.ensures.value in
    left_behind net c.args.log.now c.args.parts.step.steps c.args.budget c.args.book.now.entries c.into_book.result.entries question
    (grown_from net c.new-2.result.matter c.args.budget c.new-2.result.book c.args.book.now.entries c.tell_all-told.new.teller.judge.book c.into_book.result.entries (ap (λ (m : _). m.budget) matter) begins c.into_book.ensures.book c.tell_all-told.ensures.grown)
    (asked_by_judge (goal.R-pre g) (goal.R-post g) net c.args.log.now c.args.parts.step.steps c.tell_all-told.new.teller.judge.matter c.new-2.result.matter c.tell_all-told.new.teller.judge.parts c.tell_all-told.new.teller.judge.book c.into_book.result.entries
    c.tell_all-told.ensures.stays (ap (λ (m : _). m.net) matter) (ap (λ (m : _). m.log) matter) (ap (λ (m : _). m.steps) matter) c.into_book.ensures.belong c.into_book.ensures.steps c.into_book.ensures.book c.tell_all-told.ensures.ready)
    c.is_valid.ensures
