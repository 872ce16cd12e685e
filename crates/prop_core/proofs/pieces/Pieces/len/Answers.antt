use Rattle.std.proofs.Common.{ap, arith, length}
use Rattle.prop_core.proofs.PieceLists.{length-pieces_from}
use Rattle.prop_core.proofs.pieces.Pieces.len.Goals as goal

pub returns : goal.returns
returns g c = omega (arith, c.len.ensures, c.self.inside.ends.ok.0, length-pieces_from c.self.inside.items.items 0 c.self.inside.ends.items, ap (λ v. length v.pieces) c.self.view_is)
