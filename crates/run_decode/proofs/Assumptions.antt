-- Assumptions don't contradict each other: guards alone are assumed to be true, and the bound to be false.
use Rattle.std.proofs.Common.{◌≡◌, ◌≢◌, ◌∙◌, ℕ, suc, zero, Bool, true, false, not, List, [], ◌∷◌, length, Option, Some, None, refl, sym, ap, subst, map, option_map}
use Rattle.std.proofs.lemmas.Option.{same_Some}
use Rattle.std.specs.List.{AllByRecursion}
use Rattle.des_base.proofs.Elements.{all_append, all_from}
use Rattle.des_base.specs.Lists.{EachPair}
use Rattle.des_net.specs.Network.{Net, observable_events}
use Rattle.question_clauses.proofs.LogCodes.{read_of}
use Rattle.question_clauses.proofs.Lists.{all_at}
use Rattle.question_clauses.specs.LogClauses.{chain, guard_literals}
use Rattle.log_order.specs.Log.{Log}
use Rattle.prop_core.specs.Clauses.{negation}
use Rattle.prop_core.specs.VariableNames.{Meaning, in_state, happens, asked, matches, done, unmatched, closed, dropped, reaches, some_of_first, NamedLiteral, yes, meaning_of, named_literal, named_clause, ReadsAs}
use Rattle.prop_core.specs.declared.lit.Lit.{Lit}
use Rattle.run_decode.specs.Drawn.{fault_inputs, at_most, bound_literals, assumption_literals}

abbrev pub is_guard : Meaning → Bool
is_guard (in_state c q t) = false
is_guard (happens e t) = false
is_guard asked = true
is_guard (matches i e t) = false
is_guard (done i t) = false
is_guard (unmatched e k t) = false
is_guard (closed e k) = true
is_guard (dropped i) = false
is_guard (reaches i j) = false
is_guard (some_of_first family i) = false

-- the literal has the sign of its name
abbrev pub HasSign : NamedLiteral → Type 0
HasSign l = l.positive ≡ is_guard l.meaning

ends_signed : (net : Net) (log : Log) (es : List ℕ) → AllByRecursion HasSign (map (λ e. yes (closed e (length (chain net log e)))) es)
ends_signed net log [] = tt
ends_signed net log (e ∷ es) = (refl, ends_signed net log es)

at_most_signed : (m b : ℕ) → AllByRecursion HasSign (at_most m b)
at_most_signed zero b = tt
at_most_signed (suc m) b = (refl, tt)

bound_signed : (net : Net) (log : Log) (n : ℕ) (bound : Option ℕ) → AllByRecursion HasSign (bound_literals net log n bound)
bound_signed net log n None = tt
bound_signed net log n (Some b) = at_most_signed (length (fault_inputs net log n)) b

pub assumptions_signed : (net : Net) (log : Log) (n : ℕ) (bound : Option ℕ) → AllByRecursion HasSign (assumption_literals net log n bound)
assumptions_signed net log n bound = all_append HasSign (guard_literals net log) (bound_literals net log n bound) (refl, ends_signed net log (observable_events net)) (bound_signed net log n bound)

-- ---- over variables

-- the variable of the literal has a name, whose sign it has
abbrev HasNamedSign : List (ℕ × Meaning) → Lit → Type 0
HasNamedSign names l = (meaning : Meaning) × (meaning_of names l.var ≡ Some meaning) × (l.positive ≡ is_guard meaning)

some_name : (a b : Meaning) → Some a ≡ Some b → a ≡ b
some_name a b h = cc

literal_signed : (names : List (ℕ × Meaning)) (l : Lit) (m : NamedLiteral) → named_literal names l ≡ Some m → HasSign m → HasNamedSign names l
literal_signed names l m h sign = by (meaning_of names l.var) refl h
  where
    by : (o : Option Meaning) → meaning_of names l.var ≡ o → option_map (λ (meaning : Meaning). record { meaning = meaning; positive = l.positive }) o ≡ Some m → HasNamedSign names l
    by None e is = cc
    by (Some meaning) e is = (meaning, e, subst HasSign (sym (same_Some (record { meaning = meaning; positive = l.positive }) m is)) sign)

literals_signed : (names : List (ℕ × Meaning)) (literals : List Lit) (read : List NamedLiteral) → named_clause names literals ≡ Some read → AllByRecursion HasSign read → AllByRecursion (HasNamedSign names) literals
literals_signed names [] read h signs = tt
literals_signed names (l ∷ literals) read h signs =
    let parts = read_of names l literals read h in
    let signs' = subst (AllByRecursion HasSign) parts.whole signs in
    (literal_signed names l parts.first parts.literal signs'.0, literals_signed names literals parts.rest parts.later signs'.1)

other_sign : (c : Bool) → c ≡ not c → ⊥
other_sign true e = cc
other_sign false e = cc

no_opposites : (names : List (ℕ × Meaning)) (literals : List Lit) → AllByRecursion (HasNamedSign names) literals → EachPair (λ a b. a ≢ negation b) literals
no_opposites names [] signs = tt
no_opposites names (a ∷ literals) signs = (
  all_from (λ b. a ≢ negation b) literals (λ b in' opposite.
      let other = all_at (HasNamedSign names) literals signs.1 b in' in
      let var : a.var ≡ b.var = ap (λ (l : Lit). l.var) opposite in
      let sign : a.positive ≡ not b.positive = ap (λ (l : Lit). l.positive) opposite in
      let meaning = some_name signs.0.0 other.0 (sym signs.0.1 ∙ ap (meaning_of names) var ∙ other.1) in
      other_sign b.positive (other.2 ∙ ap is_guard (sym meaning) ∙ sym signs.0.2 ∙ sign)),
  no_opposites names literals signs.1,
)

pub assumptions_are_consistent : (net : Net) (log : Log) (n : ℕ) (bound : Option ℕ) (names : List (ℕ × Meaning)) (assumed : List Lit) → ReadsAs names assumed (assumption_literals net log n bound) → EachPair (λ a b. a ≢ negation b) assumed
assumptions_are_consistent net log n bound names assumed reads =
    no_opposites names assumed (literals_signed names assumed reads.read reads.by_name
    (all_from HasSign reads.read (λ l in'. all_at HasSign (assumption_literals net log n bound) (assumptions_signed net log n bound) l ((reads.same l).0 in'))))
