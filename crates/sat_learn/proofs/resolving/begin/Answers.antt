use Rattle.std.proofs.Common.{◌≡◌, ◌∙◌, ◌+◌, ℕ, List, refl, Bool, false, get_or, arith, drop}
use Rattle.std.proofs.lemmas.Grind.{common_steps}
use Rattle.sat_learn.specs.Seen.{count_seen}
use Rattle.sat_learn.proofs.Descending.{count_zero}
use Rattle.sat_learn.proofs.Beginning.{read_false, false_on_trail, refuted_start}
use Rattle.sat_learn.proofs.resolving.begin.Goals as goal

pub see-more-requires-clause-stands : goal.see-more-requires-clause-stands
see-more-requires-clause-stands c = false_on_trail c.args.on.now.trail.now.literals c.clause.result.now (read_false c.args.on.now.trail.now c.args.on.now.clauses.now.clauses c.args.conflict c.clause.result.now c.requires.analysed.grown c.requires.conflict c.clause.ensures).false_now

pub returns-clause-refuted : goal.returns-clause-refuted
returns-clause-refuted c =
    let f = read_false c.args.on.now.trail.now c.args.on.now.clauses.now.clauses c.args.conflict c.clause.result.now c.requires.analysed.grown c.requires.conflict c.clause.ensures in
    refuted_start _ _ _ _ c.args.conflict c.clause.result.now f (c.see-more.ensures.size ∙ c.requires.analysed.size)
    (λ i m. let e = c.see-more.ensures.each i (let s = c.requires.analysed.size in omega arith) in let z = c.requires.cleared i in e ∙ rw z refl)
    (let e = c.requires.empty in c.in_ok-push.ensures.items ∙ rw e refl)

pub returns-clause-counted : goal.returns-clause-counted
returns-clause-counted c =
    let z : count_seen c.args.on.now.start c.args.seen.now ≡ 0 = none_from c.args.on.now.start c.args.seen.now c.requires.cleared in
    let e = c.see-more.ensures.counted in
    omega arith
  where
    none_from : (start : ℕ) (bs : List Bool) → ((i : ℕ) → get_or bs i false ≡ false) → count_seen start bs ≡ 0
    none_from start bs h = count_zero (λ b. b) (drop start bs) false (λ i m. let f : get_or (drop start bs) i false ≡ get_or bs (start + i) false = grind (arith, common_steps) in f ∙ h (start + i))
