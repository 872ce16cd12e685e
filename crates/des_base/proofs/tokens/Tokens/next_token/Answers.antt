use Rattle.std.proofs.Common.{◌≡◌, ◌<◌, length, arith, sym, ◌∙◌}
use Rattle.std.proofs.lemmas.Bool.Decides.{nat_tests}
use Rattle.des_base.proofs.TokenLemmas.{IsCut, cut_at, tokens_from-some, tokens_from-none, tokens_from-none_left}
use Rattle.des_base.proofs.tokens.Tokens.next_token.Goals as goal

pub returns-then-is_empty : goal.returns-then-is_empty
returns-then-is_empty c =
    let cut : IsCut c.self.inside.rest.now c.split_at.result.0.now c.split_at.result.1.now c.split_at-2.result.0.now c.split_at-2.result.1.now
    = cut_at _ _ _ _ _ _ _ c.blank_len.ensures.blanks c.split_at.ensures.front_len c.split_at.ensures.back
    c.word_len.ensures.word c.split_at-2.ensures.front_len c.split_at-2.ensures.front c.split_at-2.ensures.back in
    let empty : length c.split_at-2.result.0.now ≡ 0 = grind (arith, nat_tests) in
    record {
      token = sym c.self.view_is ∙ tokens_from-none _ _ _ _ _ _ cut empty;
      end = tokens_from-none_left _ _ _ _ _ _ cut empty;
      place_behind = tt;
    }

pub returns-clause-token : goal.returns-clause-token
returns-clause-token c =
    let cut : IsCut c.self.inside.rest.now c.split_at.result.0.now c.split_at.result.1.now c.split_at-2.result.0.now c.split_at-2.result.1.now
    = cut_at _ _ _ _ _ _ _ c.blank_len.ensures.blanks c.split_at.ensures.front_len c.split_at.ensures.back
    c.word_len.ensures.word c.split_at-2.ensures.front_len c.split_at-2.ensures.front c.split_at-2.ensures.back in
    let some : 0 < length c.split_at-2.result.0.now = grind (arith, nat_tests) in
    sym c.self.view_is ∙ tokens_from-some _ _ _ _ _ _ cut some
