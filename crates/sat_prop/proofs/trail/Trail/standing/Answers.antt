use Rattle.std.proofs.Common.{◌≡◌, ◌∙◌, sym, get_or}
use Rattle.std.proofs.lemmas.List.{get_or_default}
use Rattle.std.proofs.lemmas.Bool.{not-true, not-false}
use Rattle.prop_core.specs.Trail.{no_literal}
use Rattle.prop_core.proofs.Literals.{same_is}
use Rattle.sat_prop.proofs.Justifying.{justified_consistent}
use Rattle.sat_prop.proofs.Seeing.{value_agrees, value_denies, value_lacks, seen_false_at, seen_first_at, seen_again_at, seen_unit, seen_true, seen_two}
use Rattle.sat_prop.proofs.trail.Trail.standing.Goals as goal
use Rattle.sat_prop.proofs.trail.Trail.standing.Goals.{in-Some+else-value-is_positive, in-None, in-Some-candidate+else-ne, in_default}

pub returns-then-value-is_positive : goal.returns-then-value-is_positive
returns-then-value-is_positive c =
    let item : c.lit-item.result ≡ get_or c.args.clause.now c.loop-lit.lit-index no_literal = c.lit-item.is ∙ get_or_default c.args.clause.now c.loop-lit.lit-index c.lit-item.result no_literal c.loop-lit-test.true in
    seen_true c.args.self.now.literals c.args.clause.now c.loop-lit.lit-index (justified_consistent _ _ _ _ _ c.is_sound.ensures.state.justified) c.loop-lit-test.true
    (value_agrees c.args.self.now.literals (get_or c.args.clause.now c.loop-lit.lit-index no_literal) c.in-Some.value (rw (c.var.ensures, item) at (sym c.in-Some.ensures)) (rw (c.is_positive.ensures, item) at c.if-value-is_positive.true))

pub returns-then-ne : goal.returns-then-ne
returns-then-ne c =
    let item : c.lit-item.result ≡ get_or c.args.clause.now c.loop-lit.lit-index no_literal = c.lit-item.is ∙ get_or_default c.args.clause.now c.loop-lit.lit-index c.lit-item.result no_literal c.loop-lit-test.true in
    seen_two c.args.self.now.literals c.args.clause.now c.loop-lit.lit-index c.loop-lit.candidate c.in-Some-candidate.first c.loop-lit-test.true c.loop-lit.invariant c.in-Some-candidate.is
    (value_lacks c.args.self.now.literals (get_or c.args.clause.now c.loop-lit.lit-index no_literal) (rw (c.var.ensures, item) at (sym c.in-None.ensures))) (rw item at (not-true _ (sym c.ne.ensures ∙ c.if-ne.true)))

pub loop-lit-preserved : goal.loop-lit-preserved
loop-lit-preserved c =
    let item : c.lit-item.result ≡ get_or c.args.clause.now c.loop-lit.lit-index no_literal = c.lit-item.is ∙ get_or_default c.args.clause.now c.loop-lit.lit-index c.lit-item.result no_literal c.loop-lit-test.true in
    elim c.match-value.branch [
      | in-Some+else-value-is_positive w ↦ seen_false_at c.args.self.now.literals c.args.clause.now c.loop-lit.lit-index c.loop-lit.candidate _ c.loop-lit-test.true c.loop-lit.invariant
          (value_denies c.args.self.now.literals (get_or c.args.clause.now c.loop-lit.lit-index no_literal) w.in-Some.value (rw (c.var.ensures, item) at (sym w.in-Some.ensures)) (rw (w.is_positive.ensures, item) at w.if-value-is_positive.false)) w.candidate-is
      | in-None w ↦
          let o = value_lacks c.args.self.now.literals (get_or c.args.clause.now c.loop-lit.lit-index no_literal) (rw (c.var.ensures, item) at (sym w.in-None.ensures)) in
          elim w.match-candidate.branch [
            | in-Some-candidate+else-ne w' ↦ seen_again_at c.args.self.now.literals c.args.clause.now c.loop-lit.lit-index c.loop-lit.candidate _ w'.in-Some-candidate.first c.loop-lit-test.true c.loop-lit.invariant w'.in-Some-candidate.is
                (same_is w'.in-Some-candidate.first (get_or c.args.clause.now c.loop-lit.lit-index no_literal) (rw item at (not-false _ (sym w'.ne.ensures ∙ w'.if-ne.false)))) (rw item at w.candidate-is)
            | in_default w' ↦ seen_first_at c.args.self.now.literals c.args.clause.now c.loop-lit.lit-index c.loop-lit.candidate _ c.loop-lit-test.true c.loop-lit.invariant w'.in_default.is o (rw item at w.candidate-is)
          ]
    ]

pub returns-in-Some-candidate-2 : goal.returns-in-Some-candidate-2
returns-in-Some-candidate-2 c = seen_unit c.args.self.now.literals c.args.clause.now c.loop-lit.lit-index c.loop-lit.candidate c.in-Some-candidate-2.lit (justified_consistent _ _ _ _ _ c.is_sound.ensures.state.justified) c.loop-lit-test.false c.loop-lit.invariant c.in-Some-candidate-2.is
