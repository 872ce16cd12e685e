use Rattle.std.proofs.Common.{◌≡◌, ◌∙◌, arith, ap, length}
use Rattle.std.proofs.lemmas.List.FromFn.{length-map-range_with_len}
use Rattle.des_base.specs.ChainCount.{chain_count}
use Rattle.card_counter.specs.CounterState.{positive}
use Rattle.log_encode.specs.AlarmVariables.{match_variable}
use Rattle.log_encode.proofs.writing.write_step.Goals as goal

pub exclude-requires : goal.exclude-requires
exclude-requires c =
    let count : length c.as_slice-3.result.now ≡ c.args.vars.links =
    ap length (c.as_slice-3.ensures.value ∙ c.in_ok-matches.ensures) ∙ length-map-range_with_len (λ link. positive (match_variable c.args.vars link c.args.step)) 0 c.args.vars.links in
    omega (arith, c.chain.ensures.room, ap chain_count count)
