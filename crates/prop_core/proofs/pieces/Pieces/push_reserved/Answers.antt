use Rattle.std.proofs.Common.{ap, length, rules}
use Rattle.prop_core.proofs.PieceLists.{cut_pushed, pieces_pushed}
use Rattle.prop_core.proofs.pieces.Pieces.push_reserved.Goals as goal

pub invariant_of-self : goal.invariant_of-self
invariant_of-self g c = record {
  cut = cut_pushed _ _ (length c.args.piece.now) _ _ c.self.invariant.cut (search rules) (search rules);
  room_ends = search rules;
  room_items = search rules;
  few_ends = search rules;
  few_items = search rules;
}

pub returns-clause-added : goal.returns-clause-added
returns-clause-added g c = pieces_pushed c.self.inside.items.items c.args.piece.now c.extend_from_slice.new.self.items _ c.len.result c.self.inside.ends.items c.push.new.self.items _ (ap (λ v. v.pieces) c.self.view_is) c.self.invariant.cut c.self.inside.items.ok.0 (search rules) (search rules) (search rules)
