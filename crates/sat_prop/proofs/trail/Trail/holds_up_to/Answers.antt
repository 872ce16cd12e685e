use Rattle.std.proofs.Common.{sym, ◌∙◌, ◌+◌, ⊎_elim}
use Rattle.std.proofs.lemmas.Bool.{cases_Bool}
use Rattle.prop_core.specs.Clauses.{is_true}
use Rattle.prop_core.proofs.Literals.{literal_of, has_among, open_parts}
use Rattle.sat_prop.proofs.Falling.{holds_at, not_yet}
use Rattle.sat_prop.proofs.Justifying.{justified_once, justified_consistent}
use Rattle.sat_prop.proofs.Links.{not_both}
use Rattle.sat_prop.proofs.Placing.{value_some}
use Rattle.sat_prop.proofs.Seeing.{value_agrees, value_denies, value_lacks}
use Rattle.sat_prop.proofs.trail.Trail.holds_up_to.Goals as goal

pub place_of-requires : goal.place_of-requires
place_of-requires c = rw c.var-then-value-is_positive.ensures (has_among c.args.self.now.literals (literal_of c.args.lit.var c.in-Some.value) (value_some c.args.self.now.literals c.args.lit.var c.in-Some.value (rw c.var.ensures at (sym c.in-Some.ensures))))

pub returns-then-value-is_positive : goal.returns-then-value-is_positive
returns-then-value-is_positive c = holds_at c.args.self.now.literals c.args.lit c.place_of.result c.args.place (justified_once _ _ _ _ _ c.is_sound.ensures.state.justified)
    (value_agrees c.args.self.now.literals c.args.lit c.in-Some.value (rw c.var.ensures at (sym c.in-Some.ensures)) (rw c.is_positive.ensures at c.if-value-is_positive.true)) (rw c.var-then-value-is_positive.ensures at c.place_of.ensures)

pub returns-else-value-is_positive : goal.returns-else-value-is_positive
returns-else-value-is_positive c =
    let f = value_denies c.args.self.now.literals c.args.lit c.in-Some.value (rw c.var.ensures at (sym c.in-Some.ensures)) (rw c.is_positive.ensures at c.if-value-is_positive.false) in
    let n = ⊎_elim (λ t. absurd (not_both _ f (justified_consistent _ _ _ _ _ c.is_sound.ensures.state.justified c.args.lit t))) (λ t. t) (cases_Bool (is_true c.args.self.now.literals c.args.lit)) in
    c.if-value-is_positive.false ∙ sym (not_yet c.args.self.now.literals (c.args.place + 1) c.args.lit n)

pub returns-in-None : goal.returns-in-None
returns-in-None c =
    let o = value_lacks c.args.self.now.literals c.args.lit (rw c.var.ensures at (sym c.in-None.ensures)) in
    sym (not_yet c.args.self.now.literals (c.args.place + 1) c.args.lit (open_parts c.args.self.now.literals c.args.lit o).0)
