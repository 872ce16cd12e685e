-- The pair is the right way round, so the wrong one comes later.
use Rattle.std.proofs.Common.{◌<◌, ◌∙◌, ap, sym, subst, drop, get_or, cond, not, ◌+◌, List, ℕ, Some}
use Rattle.des_base.proofs.BoolLemmas.{is_less}
use Rattle.std.proofs.lemmas.List.{drop_more}
use Rattle.log_order.specs.Log.{place_in}
use Rattle.replay.specs.Matching.{wrong_pair}
use Rattle.replay.proofs.placing.Placing.wrong_pair.Goals as goal

pub loop-pair-preserved : goal.loop-pair-preserved
loop-pair-preserved c =
    let order = c.args.self.now.order in
    let pairs = c.args.pairs.now in
    let i = c.loop-pair.pair-index in
    let pair : ℕ × ℕ = get_or pairs i (0, 0) in
    let right = is_less (place_in order pair.0) (place_in order pair.1) (subst (λ n. n < place_in order pair.1) c.place.ensures (subst (λ n. c.place.result < n) c.place-in-loop-pair.ensures c.if-place.false)) in
    sym (ap (λ (ps : List (ℕ × ℕ)). wrong_pair order ps) (drop_more pairs i (0, 0) c.loop-pair-test.true) ∙ ap (λ b. cond (not b) (Some pair) (wrong_pair order (drop (i + 1) pairs))) right) ∙ c.loop-pair.invariant
