-- Item by item.
use Rattle.std.proofs.Common.{◌∙◌, ◌++◌, ◌∷◌, [], List, Ok, drop, take, arith, refl, sym, ap, subst}
use Rattle.std.specs.Prelude.{◌+◌}
use Rattle.std.proofs.lemmas.List.{take_more, take-append-drop}
use Rattle.des_base.specs.Outside.{Rose}
use Rattle.telling.specs.Telling.{EachGoes}
use Rattle.telling.proofs.Failing.{fails_behind}
use Rattle.telling.proofs.Joining.{broken_off, nothing_told, told_more}
use Rattle.telling.proofs.Taking.{rose_later}
use Rattle.telling.proofs.each.put_each.Goals as goal

pub loop-item-init : goal.loop-item-init
loop-item-init g c = record { ready = c.requires; rises = omega arith; none_failed = refl; so_far = nothing_told g.T.Teller.goes g.T.Teller.undone c.args.teller.now _ _ }

pub loop-item-preserved : goal.loop-item-preserved
loop-item-preserved g c =
    let items = c.args.items.now in
    let i = c.loop-item.item-index in
    let inv = c.loop-item.invariant in
    let here = c.in_ok-put_one.ensures in
    let longer = ap (λ (item : _). take i items ++ item ∷ []) c.item-item.is ∙ sym (take_more items i _ c.loop-item-test.true) in
    record {
      ready = here.ready;
      rises = omega (arith, inv.rises, here.never_falls);
      none_failed = here.failures.stays (λ put. cc) ∙ inv.none_failed;
      so_far = subst (λ (is : List _). EachGoes g.T.Teller.goes g.T.Teller.undone c.args.teller.now is c.put_one.new.teller (g.S.Sink.taken c.args.out.now) (g.S.Sink.taken c.put_one.new.out) (Rose (g.S.Sink.faults c.args.out.now) (g.S.Sink.faults c.put_one.new.out)) (Ok tt)) longer
          (told_more g.T.Teller.goes g.T.Teller.undone c.args.teller.now c.loop-item.teller c.put_one.new.teller (take i items) (c.item-item.result ∷ []) _ _ _ _ _ _ inv.so_far c.in_ok-put_one.field-0 here.goes);
    }

pub returns-in_err-put_one-clause-goes : goal.returns-in_err-put_one-clause-goes
returns-in_err-put_one-clause-goes g c =
    let items = c.args.items.now in
    let i = c.loop-item.item-index in
    let inv = c.loop-item.invariant in
    let longer = ap (λ (item : _). take i items ++ item ∷ []) c.item-item.is ∙ sym (take_more items i _ c.loop-item-test.true) in
    let split = sym (take-append-drop (i + 1) items) ∙ ap (λ (is : List _). is ++ drop (i + 1) items) (sym longer) in
    subst (λ (is : List _). EachGoes g.T.Teller.goes g.T.Teller.undone c.args.teller.now is c.put_one.new.teller (g.S.Sink.taken c.args.out.now) (g.S.Sink.taken c.put_one.new.out) (Rose (g.S.Sink.faults c.args.out.now) (g.S.Sink.faults c.put_one.new.out)) c.from_residual.result) (sym split)
    (broken_off g.T.Teller.goes g.T.Teller.undone c.args.teller.now c.loop-item.teller c.put_one.new.teller (take i items) (c.item-item.result ∷ []) _ _ _ _ _ _ inv.so_far (drop (i + 1) items) _ _ c.from_residual.ensures.1 (rose_later _ _ _ inv.rises) c.in_err-put_one.ensures.goes)

pub returns-in_err-put_one-clause-failures : goal.returns-in_err-put_one-clause-failures
returns-in_err-put_one-clause-failures g c = fails_behind _ _ _ _ _ c.from_residual.ensures.1 c.loop-item.invariant.none_failed c.in_err-put_one.ensures.failures
