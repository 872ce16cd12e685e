use Rattle.std.proofs.Common.{◌<◌, ◌^◌, ◌++◌, ◌∷◌, [], ℕ, arith, ap, ◌∙◌, subst}
use Rattle.std.proofs.lemmas.List.Elements.{All-more}
use Rattle.std.specs.Fmt.{decimal}
use Rattle.des_base.proofs.Appended.{one_more}
use Rattle.proof_text.proofs.print.push_numbers.Goals as goal

pub loop-id-preserved : goal.loop-id-preserved
loop-id-preserved c =
    let small : c.id.inside.0 < 2 ^ 64 = omega arith in
    record {
      text = one_more (λ n. decimal n ++ 32 ∷ []) c.args.ids.now c.loop-id.id-index c.id-item.result c.args.out.now.items _ _ c.loop-id-test.true c.id-item.is c.loop-id.invariant.text
          (c.in_ok-push_number.ensures.ok ∙ ap (λ (n : ℕ). c.loop-id.out.items ++ (decimal n ++ 32 ∷ [])) c.id.view_is);
      fit = All-more (λ (n : ℕ). n < 2 ^ 64) c.args.ids.now c.loop-id.id-index c.id-item.result c.loop-id-test.true c.loop-id.invariant.fit
          (subst (λ (n : ℕ). n < 2 ^ 64) (c.id.view_is ∙ c.id-item.is) small);
    }
