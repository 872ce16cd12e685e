use Rattle.refinement.proofs.NearLemmas.{effects_are, near_take}
use Rattle.refinement.proofs.effect.effects_of.Goals as goal

pub marks_of-requires : goal.marks_of-requires
marks_of-requires c = near_take _ _ _ _ _ _ c.actions-actions.ensures.whole c.requires.sorted c.requires.state c.near_of-near.ensures c.actions-actions.ensures.count

pub counts_of-requires : goal.counts_of-requires
counts_of-requires c = near_take _ _ _ _ _ _ c.actions-actions.ensures.whole c.requires.sorted c.requires.state c.near_of-near.ensures c.actions-actions.ensures.count

pub returns : goal.returns
returns c = effects_are _ _ _ _ _ _ _ _ _ _ _ c.requires.sorted c.requires.state c.near_of-near.ensures c.actions-actions.ensures.count
    c.in_ok-effects.ensures c.in_ok-counts.ensures c.as_slice.ensures.value c.as_slice-2.ensures.value c.mark_others.ensures
