-- Clauses under premises, read as tests: `not a || b` is "b, where a".
use Rattle.std.proofs.Common.{◌≡◌, Bool, true, false, not, ◌||◌, refl}
use Rattle.std.specs.Bool.{beq}

pub from_premise : (a b : Bool) → not a || b ≡ true → a ≡ true → b ≡ true
from_premise true b h e = h
from_premise false b h e = cc

pub one_premise : (a b : Bool) → (a ≡ true → b ≡ true) → not a || b ≡ true
one_premise true b h = h refl
one_premise false b h = refl

-- the same for a clause of two literals
pub implied : (a b : Bool) → not a || (b || false) ≡ true → a ≡ true → b ≡ true
implied true true h e = refl
implied true false h e = cc
implied false b h e = cc

pub implies : (a b : Bool) → (a ≡ true → b ≡ true) → not a || (b || false) ≡ true
implies true true h = refl
implies true false h = let e = h refl in cc
implies false b h = refl

-- not both
pub neither : (a b : Bool) → not a || (not b || false) ≡ true → a ≡ true → b ≡ true → ⊥
neither true true h e f = cc
neither true false h e f = cc
neither false b h e f = cc

pub two_negations : (a b : Bool) → (a ≡ true → b ≡ true → ⊥) → not a || (not b || false) ≡ true
two_negations true true h = absurd (h refl refl)
two_negations true false h = refl
two_negations false b h = refl

-- a literal and its negation aren't both true
pub opposite : (a b : Bool) → beq a (not b) ≡ true → beq a b ≡ true → ⊥
opposite true true h k = cc
opposite true false h k = cc
opposite false true h k = cc
opposite false false h k = cc

-- a clause that is one literal
pub alone : (b : Bool) → b || false ≡ true → b ≡ true
alone true h = refl
alone false h = cc

pub alone_back : (b : Bool) → b ≡ true → b || false ≡ true
alone_back true h = refl
alone_back false h = cc

pub never : (a : Bool) → not a || false ≡ true → a ≡ true → ⊥
never true h e = cc
never false h e = cc

pub never_true : (a : Bool) → (a ≡ true → ⊥) → not a || false ≡ true
never_true true h = absurd (h refl)
never_true false h = refl

-- ---- literals by their variables: `beq a b` says that a variable has the sign b

pub without_literal : (a b c : Bool) → beq a (not b) || c ≡ true → beq a b ≡ true → c ≡ true
without_literal true true c h e = h
without_literal true false c h e = cc
without_literal false true c h e = cc
without_literal false false c h e = h

pub with_literal_false : (a b c : Bool) → (beq a b ≡ true → c ≡ true) → beq a (not b) || c ≡ true
with_literal_false true true c h = h refl
with_literal_false true false c h = refl
with_literal_false false true c h = refl
with_literal_false false false c h = h refl

pub last_literal : (b : Bool) → beq b true || false ≡ true → b ≡ true
last_literal true h = refl
last_literal false h = cc

pub last_literal_true : (b : Bool) → b ≡ true → beq b true || false ≡ true
last_literal_true true h = refl
last_literal_true false h = cc

pub negated : (b : Bool) → beq b false ≡ true → b ≡ true → ⊥
negated true h k = cc
negated false h k = cc
