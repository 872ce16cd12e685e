-- What is known of a clause whose first literals were looked at.
use Rattle.std.specs.Prelude.{Bool, false, not, ◌&&◌, ◌||◌, Option, None, Some, if◌then◌else◌}
use Rattle.prop_core.specs.declared.lit.Lit.{Lit}
use Rattle.prop_core.specs.Clauses.{same_literal}
use Rattle.prop_core.specs.Derivation.{Standing, falsified, satisfied, unit, wide}
use Rattle.proof_ledger.specs.declared.truths.Front.{Front}

-- with one more literal that is open: the first one, or another one
abbrev pub with_open : Option Lit → Bool → Lit → Option Lit × Bool
with_open None more l = (Some l, false)
with_open (Some first) more l = (Some first, more || not (same_literal first l))

-- with one more literal, which may be false and may be true
abbrev pub front_with : Front → Lit → Bool → Bool → Front
front_with front l is_false is_true =
    record {
      all_false = front.all_false && is_false;
      any_true = front.any_true || is_true;
      first = if not is_false && not is_true then (with_open front.first front.wide l).0 else front.first;
      wide = if not is_false && not is_true then (with_open front.first front.wide l).1 else front.wide;
    }

-- how a clause stands whose open literal is this one, if no other is open
abbrev pub one_open : Option Lit → Bool → Standing
one_open None more = wide
one_open (Some l) more = if more then wide else unit l

-- how a clause stands whose literals were all looked at
abbrev pub front_standing : Front → Standing
front_standing front = if front.all_false then falsified else (if front.any_true then satisfied else one_open front.first front.wide)
