use Rattle.std.proofs.Common.{ap, rules, vec_len}
use Rattle.prop_core.proofs.PieceLists.{cut_appended, pieces_appended}
use Rattle.prop_core.proofs.pieces.Pieces.append.Goals as goal

pub invariant_of-self-2 : goal.invariant_of-self-2
invariant_of-self-2 g c = record {
  cut = cut_appended (vec_len c.self.inside.items) (vec_len c.more.inside.items) _ c.self.inside.ends.items c.more.inside.ends.items _ c.self.invariant.cut c.more.invariant.cut (search rules) (search rules);
  room_ends = search rules;
  room_items = search rules;
  few_ends = search rules;
  few_items = search rules;
}

pub returns-clause-added : goal.returns-clause-added
returns-clause-added g c = pieces_appended c.self.inside.items.items c.more.inside.items.items c.extend_from_slice.new.self.items (vec_len c.self.inside.items) c.self.inside.ends.items c.more.inside.ends.items c.append_ends.new.ends.items _ _
    (ap (λ v. v.pieces) c.self.view_is) (ap (λ v. v.pieces) c.more.view_is) c.self.invariant.cut c.self.inside.items.ok.0 (search rules) (search rules)
