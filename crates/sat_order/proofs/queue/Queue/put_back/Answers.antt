use Rattle.std.proofs.Common.{◌≡◌, ◌<◌, ◌≤◌, arith, subst, sym, length}
use Rattle.sat_order.specs.Queue.{QueueState, LetsWait}
use Rattle.sat_order.proofs.Queues.{IsQueue-put_back, EndsBehind-known, written_back}
use Rattle.sat_order.proofs.queue.Queue.put_back.Goals as goal

pub lower-requires : goal.lower-requires
lower-requires c =
    let k = subst (λ (s : QueueState). c.args.var < length s.waiting) (sym c.self.view_is) c.requires in
    let q = c.self.invariant.queue in
    let same = q.same in
    rw c.deref_mut.ensures.value (EndsBehind-known c.self.inside.ranks.items c.self.inside.waiting.items 0 (length c.self.inside.ranks.items) c.args.var c.self.inside.runs.items (omega arith) q.all (omega arith))

pub invariant_of-self : goal.invariant_of-self
invariant_of-self c =
    let k = subst (λ (s : QueueState). c.args.var < length s.waiting) (sym c.self.view_is) c.requires in
    let value = c.deref_mut.ensures.value in
    let kept = c.lower.auto.runs in
    let count = c.deref_mut.ensures.len in
    let long : length c.lower.new.runs ≡ length c.self.inside.runs.items = rw value at kept in
    let back = written_back c.lower.new.runs c.self.inside.runs.items c.self.inside.runs.len long (let n : length c.self.inside.runs.items ≡ c.self.inside.runs.len = rw value at count in sym n) in
    let waits_too : LetsWait c.args.var c.self.inside.runs.items c.lower.new.runs = subst (λ l. LetsWait c.args.var l c.lower.new.runs) value c.lower.ensures in
    record {
      queue = rw back (IsQueue-put_back c.self.inside.ranks.items c.self.inside.waiting.items c.self.inside.runs.items c.lower.new.runs c.args.var c.self.invariant.queue k waits_too);
      ranks = c.self.invariant.ranks;
      waiting = c.self.invariant.waiting;
      runs = c.self.invariant.runs;
    }
