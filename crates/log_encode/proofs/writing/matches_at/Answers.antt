use Rattle.std.proofs.Common.{ℕ, ◌∙◌, ◌++◌, ◌∷◌, [], ap, sym, map}
use Rattle.des_base.proofs.NumbersBelow.{map_numbers_more}
use Rattle.des_base.specs.Lists.{numbers_below}
use Rattle.card_counter.specs.CounterState.{positive}
use Rattle.log_encode.proofs.writing.matches_at.Goals as goal
use Rattle.log_encode.specs.AlarmVariables.{match_variable}

pub loop-link-preserved : goal.loop-link-preserved
loop-link-preserved c =
    let literal = λ (link : ℕ). positive (match_variable c.args.vars link c.args.step) in
    c.in_ok-push.ensures.items ∙ ap (λ lits. lits ++ c.holds.result ∷ []) c.loop-link.invariant
    ∙ ap (λ lit. map literal (numbers_below c.loop-link.link) ++ lit ∷ []) (c.holds.ensures ∙ ap positive c.matched.ensures.variable)
    ∙ sym (map_numbers_more literal c.loop-link.link)
