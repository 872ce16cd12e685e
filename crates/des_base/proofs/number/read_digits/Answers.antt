use Rattle.std.proofs.Common.{◌≡◌, ◌<◌, ◌∷◌, [], None, length, get_or, arith, sym, ◌∙◌}
use Rattle.des_base.specs.Numbers.{digits_value, up_to}
use Rattle.des_base.proofs.NumberLemmas.{up_to-drop_none}
use Rattle.des_base.proofs.number.read_digits.Goals as goal

-- A digit that can't be taken ends the number.
pub returns-in_err-value : goal.returns-in_err-value
returns-in_err-value c =
    let within : c.loop-digit.digit-index < length c.args.text.now = omega arith in
    let refused : None ≡ up_to c.args.max (digits_value c.loop-digit.value (get_or c.args.text.now c.loop-digit.digit-index 0 ∷ [])) = sym c.in_err-value.was ∙ c.with_digit.ensures in
    c.from_residual.ensures ∙ sym (c.loop-digit.invariant.1 ∙ up_to-drop_none _ _ _ _ within refused)
