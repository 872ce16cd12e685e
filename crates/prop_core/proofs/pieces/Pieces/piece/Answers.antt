use Rattle.std.proofs.Common.{ap, arith, length}
use Rattle.prop_core.proofs.PieceLists.{place_within, bounds_at, read_at}
use Rattle.prop_core.proofs.pieces.Pieces.piece.Goals as goal

pub start-start-requires : goal.start-start-requires
start-start-requires g c = let w = place_within _ _ _ _ (ap (λ v. v.pieces) c.self.view_is) c.requires in omega (arith, w, ap length c.deref.ensures.value)

pub index-requires : goal.index-requires
index-requires g c = let w = place_within _ _ _ _ (ap (λ v. v.pieces) c.self.view_is) c.requires in omega (arith, w, c.self.inside.ends.ok.0)

pub offset_bounds-deref-start : goal.offset_bounds-deref-start
offset_bounds-deref-start g c =
    let w = place_within _ _ _ _ (ap (λ v. v.pieces) c.self.view_is) c.requires in
    let b = bounds_at _ _ _ _ _ _ c.self.invariant.cut w c.deref.ensures.value c.start-start.ensures c.index.ensures in
    omega (arith, b.0, b.1, c.deref-2.ensures.len)

pub slice_bounds-result-count : goal.slice_bounds-result-count
slice_bounds-result-count g c =
    let w = place_within _ _ _ _ (ap (λ v. v.pieces) c.self.view_is) c.requires in
    (bounds_at _ _ _ _ _ _ c.self.invariant.cut w c.deref.ensures.value c.start-start.ensures c.index.ensures).0

pub slice_bounds-result-start : goal.slice_bounds-result-start
slice_bounds-result-start g c =
    let w = place_within _ _ _ _ (ap (λ v. v.pieces) c.self.view_is) c.requires in
    let b = bounds_at _ _ _ _ _ _ c.self.invariant.cut w c.deref.ensures.value c.start-start.ensures c.index.ensures in
    omega (arith, b.0, b.1, c.deref-2.ensures.len)

pub slice_bounds-result-end : goal.slice_bounds-result-end
slice_bounds-result-end g c =
    let w = place_within _ _ _ _ (ap (λ v. v.pieces) c.self.view_is) c.requires in
    let b = bounds_at _ _ _ _ _ _ c.self.invariant.cut w c.deref.ensures.value c.start-start.ensures c.index.ensures in
    omega (arith, b.0, b.1, c.deref-2.ensures.len)

pub returns : goal.returns
returns g c =
    let w = place_within _ _ _ _ (ap (λ v. v.pieces) c.self.view_is) c.requires in
    read_at _ _ _ _ _ _ _ _ (ap (λ v. v.pieces) c.self.view_is) w c.deref.ensures.value c.deref-2.ensures.value c.start-start.ensures c.index.ensures
