-- Each write takes some more of the piece.
use Rattle.std.proofs.Common.{rules, ℕ, List, take, subst}
use Rattle.std.proofs.lemmas.List.{take_rest}
use Rattle.std.specs.Io.KnownBytes.{Appends}
use Rattle.devices.proofs.Taking.{more_taken}
use Rattle.devices.proofs.out_sink.OutSinkSink.put.Goals as goal

pub loop-done-preserved : goal.loop-done-preserved
loop-done-preserved g c =
    let before = g.W.Write.contents c.loop-done.self.to in
    let now = g.W.Write.contents c.write.new.self in
    let piece = c.args.piece.now in
    record {
      same = c.loop-done.invariant.same;
      within = search rules;
      taken = more_taken (g.W.Write.contents c.args.self.now.to) before now piece c.loop-done.done c.in-Ok.count c.loop-done.invariant.taken
          (subst (λ (rest : List ℕ). Appends before now (take c.in-Ok.count rest)) (take_rest piece c.loop-done.done) c.in-Ok.ensures.bytes);
    }
