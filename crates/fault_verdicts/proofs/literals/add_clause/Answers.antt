use Rattle.fault_verdicts.proofs.Making.{can_adopt}
use Rattle.fault_verdicts.proofs.literals.add_clause.Goals as goal

pub adopt-requires : goal.adopt-requires
adopt-requires g c =
    let can = can_adopt _ _ _ _ _ _ c.push_axiom.ensures.added c.requires.adopted c.requires.spare c.requires.below in
    record { grown = can.grown; room = can.room; known = can.known }
