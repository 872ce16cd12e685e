-- The clauses that were learnt last, and of each its signature: bits of its literals, which show at once that it is no part of another clause.
use Rattle.std.specs.Prelude.{◌≡◌, ℕ, ◌%◌, ◌≤◌, ◌==◌, List, [], ◌∷◌, ◌++◌, drop, replicate, if◌then◌else◌}
use Rattle.std.specs.Int.{bit_at}
use Rattle.std.specs.List.{list_any}
use Rattle.prop_core.specs.declared.lit.Lit.{Lit}
use Rattle.prop_core.specs.Clauses.{Clause}
use Rattle.prop_core.specs.LiteralNumbers.{literal_number}
use Rattle.sat_prop.specs.declared.recent.RecentClause.{RecentClause}
use Rattle.sat_prop.specs.declared.recent.TheConstants.{RECENT}
use Rattle.sat_prop.specs.declared.watch_lists.TheConstants.{NO_WATCH}

-- what stands where none was learnt
abbrev pub no_learnt : RecentClause
no_learnt = record { watch = NO_WATCH; signature = 0 }

-- none was learnt
abbrev pub none_learnt : List RecentClause
none_learnt = replicate RECENT no_learnt

-- One more was learnt. The oldest stands first, and is kept no longer.
abbrev pub with_learnt : List RecentClause → RecentClause → List RecentClause
with_learnt recent learnt = drop 1 recent ++ learnt ∷ []

-- the bit of a literal
abbrev pub literal_bit : Lit → ℕ
literal_bit l = literal_number l % 64

-- these are the bits of the clause's literals, and no others
abbrev pub IsSignature : Clause → ℕ → Type 0
IsSignature clause bits = (bit : ℕ) → bit_at bits bit ≡ (if list_any (λ l. literal_bit l == bit) clause then 1 else 0)

-- each bit of the first is one of the second
abbrev pub AreBitsWithin : ℕ → ℕ → Type 0
AreBitsWithin part whole = (bit : ℕ) → bit_at part bit ≤ bit_at whole bit
