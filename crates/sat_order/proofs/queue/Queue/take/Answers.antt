use Rattle.std.proofs.Common.{arith, subst, length}
use Rattle.std.proofs.lemmas.Grind.{common_steps}
use Rattle.sat_order.specs.Queue.{QueueState, GivesNext}
use Rattle.sat_order.specs.Waiting.{IsNext, NoneWaits}
use Rattle.sat_order.proofs.Queues.{IsQueue-moved, IsQueue-take, best_of_queue, best_is_next, none_waits, moved_back}
use Rattle.sat_order.proofs.queue.Queue.take.Goals as goal

pub invariant_of-self : goal.invariant_of-self
invariant_of-self c =
    let ranks = c.self.inside.ranks.items in
    let waiting = c.self.inside.waiting.items in
    let runs = c.self.inside.runs.items in
    let moved = moved_back waiting c.deref.result.now runs c.deref_mut.result.now c.move_on.new.runs c.self.inside.runs.len c.deref.ensures.value c.deref_mut.ensures.value c.move_on.ensures c.move_on.auto.runs c.deref_mut.ensures.len in
    record {
      queue = IsQueue-moved ranks waiting runs _ moved c.self.invariant.queue;
      ranks = c.self.invariant.ranks;
      waiting = c.self.invariant.waiting;
      runs = c.self.invariant.runs;
    }

pub returns-in_err-run-clause-none : goal.returns-in_err-run-clause-none
returns-in_err-run-clause-none c =
    let ranks = c.self.inside.ranks.items in
    let waiting = c.self.inside.waiting.items in
    let runs = c.self.inside.runs.items in
    let moved = moved_back waiting c.deref.result.now runs c.deref_mut.result.now c.move_on.new.runs c.self.inside.runs.len c.deref.ensures.value c.deref_mut.ensures.value c.move_on.ensures c.move_on.auto.runs c.deref_mut.ensures.len in
    let best = best_of_queue ranks waiting runs _ c.deref-2.result.now c.best.result moved c.self.invariant.queue c.deref-2.ensures.value c.best.ensures in
    rw c.from_residual.ensures (subst (λ (s : QueueState). NoneWaits s.waiting) c.self.view_is
    (none_waits ranks waiting runs c.self.invariant.queue (subst (GivesNext ranks waiting (length ranks)) c.in_err-run.was best)))

pub index_mut-requires : goal.index_mut-requires
index_mut-requires c =
    let ranks = c.self.inside.ranks.items in
    let waiting = c.self.inside.waiting.items in
    let runs = c.self.inside.runs.items in
    let moved = moved_back waiting c.deref.result.now runs c.deref_mut.result.now c.move_on.new.runs c.self.inside.runs.len c.deref.ensures.value c.deref_mut.ensures.value c.move_on.ensures c.move_on.auto.runs c.deref_mut.ensures.len in
    let best = best_of_queue ranks waiting runs _ c.deref-2.result.now c.best.result moved c.self.invariant.queue c.deref-2.ensures.value c.best.ensures in
    let next = best_is_next ranks waiting runs c.in_ok-run.run' c.self.invariant.queue (subst (GivesNext ranks waiting (length ranks)) c.in_ok-run.was best) in
    let known = next.known in
    grind (arith, common_steps)

pub invariant_of-self-2 : goal.invariant_of-self-2
invariant_of-self-2 c =
    let ranks = c.self.inside.ranks.items in
    let waiting = c.self.inside.waiting.items in
    let runs = c.self.inside.runs.items in
    let moved = moved_back waiting c.deref.result.now runs c.deref_mut.result.now c.move_on.new.runs c.self.inside.runs.len c.deref.ensures.value c.deref_mut.ensures.value c.move_on.ensures c.move_on.auto.runs c.deref_mut.ensures.len in
    record {
      queue = IsQueue-take ranks waiting _ c.in_ok-run.run'.next (IsQueue-moved ranks waiting runs _ moved c.self.invariant.queue);
      ranks = c.self.invariant.ranks;
      waiting = c.self.invariant.waiting;
      runs = c.self.invariant.runs;
    }

pub returns-clause-next : goal.returns-clause-next
returns-clause-next c =
    let ranks = c.self.inside.ranks.items in
    let waiting = c.self.inside.waiting.items in
    let runs = c.self.inside.runs.items in
    let moved = moved_back waiting c.deref.result.now runs c.deref_mut.result.now c.move_on.new.runs c.self.inside.runs.len c.deref.ensures.value c.deref_mut.ensures.value c.move_on.ensures c.move_on.auto.runs c.deref_mut.ensures.len in
    let best = best_of_queue ranks waiting runs _ c.deref-2.result.now c.best.result moved c.self.invariant.queue c.deref-2.ensures.value c.best.ensures in
    subst (λ (s : QueueState). IsNext s.ranks s.waiting c.in_ok-run.run'.next) c.self.view_is
    (best_is_next ranks waiting runs c.in_ok-run.run' c.self.invariant.queue (subst (GivesNext ranks waiting (length ranks)) c.in_ok-run.was best))
