use Rattle.std.proofs.Common.{◌∙◌, ◌<◌, ℕ, ap, sym, arith, length}
use Rattle.prop_core.specs.declared.lit.Lit.{Lit}
use Rattle.sat_prop.specs.declared.watch_lists.Watch.{Watch}
use Rattle.prop_core.specs.LiteralNumbers.{numbered_literal}
use Rattle.sat_prop.specs.Watches.{WatchState, watch_at, watch_of}
use Rattle.sat_prop.proofs.Nodes.{count_watches, watch_of_node}
use Rattle.sat_prop.proofs.watch_lists.WatchLists.watch.Goals as goal

abbrev with : Watch → Lit → ℕ → Watch
with w lit twin = record w { lit = lit; twin = twin }

pub returns : goal.returns
returns c =
    let within : c.args.number < length c.self.inside.nodes.items = omega (arith, c.requires, count_watches c.self.inside.nodes.items, ap (λ (s : WatchState). length s.watches) c.self.view_is) in
    let w = watch_of_node c.self.inside.nodes.items c.args.number c.index-node.result.now within ∙ ap (watch_of c.args.number) (sym c.index-node.ensures) in
    let l = ap (λ (x : Lit). with (watch_of c.args.number c.index-node.result.now) x c.twin.result) c.numbered.ensures in
    l ∙ ap (with (watch_of c.args.number c.index-node.result.now) (numbered_literal c.index-node.result.now.code)) c.twin.ensures ∙ sym w ∙ ap (λ (s : WatchState). watch_at s.watches c.args.number) c.self.view_is
