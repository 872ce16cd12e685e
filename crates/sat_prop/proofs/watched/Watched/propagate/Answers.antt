use Rattle.std.proofs.Common.{◌≡◌, ◌∙◌, sym, length, arith}
use Rattle.sat_prop.proofs.Fronts.{front_length}
use Rattle.sat_prop.proofs.Justifying.{justified_consistent}
use Rattle.sat_prop.proofs.Settling.{watched_quiet}
use Rattle.sat_prop.proofs.Visiting.{same_front}
use Rattle.sat_prop.proofs.watched.Watched.propagate.Goals as goal

pub returns-then-len-before-clause-outcome : goal.returns-then-len-before-clause-outcome
returns-then-len-before-clause-outcome c =
    let one = c.propagate_short.ensures in
    let two = c.propagate_watched.ensures in
    let a = front_length c.more.trail.literals c.propagate_short.new.trail.literals one.grown.literals in
    let b = front_length c.propagate_short.new.trail.literals c.propagate_watched.new.trail.literals two.grown.literals in
    let t = c.if-len-before.true in
    let n = c.len.ensures in
    let m = c.len-before.ensures in
    let q = c.in_default.ensures.quiet (omega arith) in
    let same = same_front c.propagate_short.new.trail.literals c.propagate_watched.new.trail.literals two.grown.literals (omega arith) in
    watched_quiet c.propagate_watched.new.trail c.propagate_watched.new.self (justified_consistent _ _ _ _ _ c.is_sound.ensures.state.justified) two.watched c.in_default-propagate_watched.ensures.all
    (rw (two.grown.clauses, two.short, same) q)

pub more-smaller : goal.more-smaller
more-smaller c =
    let one = c.propagate_short.ensures.grown in
    let two = c.propagate_watched.ensures.grown in
    let a = front_length c.more.trail.literals c.propagate_short.new.trail.literals one.literals in
    let b = front_length c.propagate_short.new.trail.literals c.propagate_watched.new.trail.literals two.literals in
    let f = c.if-len-before.false in
    let n = c.len.ensures in
    let m = c.len-before.ensures in
    let v = one.vars in
    let w = two.vars in
    let room = c.is_sound.ensures.room in
    let longer : length c.more.trail.literals ≡ length c.propagate_watched.new.trail.literals → ⊥ = λ e. f (n ∙ sym e ∙ sym m) in
    grind arith
