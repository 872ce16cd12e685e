use Rattle.std.proofs.Common.{◌<◌, ◌^◌, arith}
use Rattle.des_base.proofs.Appended.{digit_behind}
use Rattle.des_base.proofs.decimal.+push_decimal.Goals as goal

pub returns-in-Ok-clause-ok : goal.returns-in-Ok-clause-ok
returns-in-Ok-clause-ok t c =
    let small : c.args.n < 2 ^ 64 = omega arith in
    digit_behind c.args.out.now.items _ _ c.args.n c.if-n-lt10.false small c.in_ok-push_decimal.ensures.ok c.in-Ok.ensures.items
