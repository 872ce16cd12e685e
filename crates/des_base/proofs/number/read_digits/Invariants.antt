use Rattle.std.proofs.Common.{◌≡◌, ◌≤◌, drop}
use Rattle.des_base.specs.Numbers.{digits_value, up_to}
use Rattle.des_base.proofs.number.read_digits.Given as goal

abbrev pub invariant-loop-digit : goal.invariant-loop-digit
invariant-loop-digit l = (l.value ≤ l.max) × (up_to l.max (digits_value 0 l.text) ≡ up_to l.max (digits_value l.value (drop l.digit-index l.text)))
