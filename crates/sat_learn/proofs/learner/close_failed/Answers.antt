use Rattle.std.proofs.Common.{◌≡◌, ◌∙◌, ℕ, ◌∷◌, [], length, ap}
use Rattle.prop_core.specs.declared.lit.Lit.{Lit}
use Rattle.prop_core.specs.Clauses.{negation}
use Rattle.prop_core.proofs.Literals.{place_found, has_at}
use Rattle.sat_learn.specs.Seen.{negated_seen}
use Rattle.sat_learn.proofs.Finishing.{put_together}
use Rattle.sat_learn.proofs.Closing.{fail_start, fail_known, fail_from, closing_same}
use Rattle.sat_learn.proofs.learner.close_failed.Goals as goal

pub place_of-place-requires : goal.place_of-place-requires
place_of-place-requires c = rw c.var.ensures (let a = place_found c.args.trail.now.literals (negation c.args.lit) c.requires.false_now in has_at c.args.trail.now.literals a.0 c.args.lit.var a.1.within (ap (λ (l : Lit). l.var) a.1.at))

pub returns-clause-closing : goal.returns-clause-closing
returns-clause-closing c =
    let p = c.place_of-place.result in
    let b = c.place_of-place.ensures.within in
    let v = rw c.var.ensures at c.place_of-place.ensures.at in
    let why = c.requires.forced p (rw c.var.ensures at c.place_of-place.ensures) in
    let justified = c.is_sound.ensures.state.justified in
    let start = fail_start c.args.trail.now c.args.db.now.clauses c.args.lit p c.args.seen.now c.new-hints.result.items c.requires.grown justified c.requires.false_now b v why c.requires.size c.requires.cleared in
    let h = c.in_ok-resolve_to_decisions.ensures.refuted (c.args.lit ∷ []) start in
    let var = fail_known c.args.trail.now c.args.db.now.clauses c.args.lit p c.args.seen.now _ start c.requires.size b v in
    let r = fail_from c.args.trail.now c.args.db.now.clauses c.args.lit p c.resolve_to_decisions.new.seen c.resolve_to_decisions.new.hints.items justified c.requires.false_now b v why var h c.in_ok-resolve_to_decisions.ensures.decided in
    let n : length c.literals-literals.result.now ≡ length c.args.trail.now.literals = ap length c.literals-literals.ensures in
    closing_same c.args.trail.now c.args.db.now.clauses _ _ _ _ _ (c.clause-2.view_is ∙ put_together c.new-clause.result c.push.new.self _ c.args.trail.now.literals c.literals-literals.result.now c.resolve_to_decisions.new.seen c.negated.result (negation c.args.lit) (length c.literals-literals.result.now) c.new-clause.ensures c.in_ok-push.ensures.ok c.in_ok-add_negated.ensures c.literals-literals.ensures c.negated.ensures
    ∙ ap (λ (k : ℕ). negation c.args.lit ∷ negated_seen c.args.trail.now.literals c.resolve_to_decisions.new.seen k) n) (c.in_ok-from_slice.ensures ∙ c.deref.ensures.value ∙ c.reverse.ensures.items) r
