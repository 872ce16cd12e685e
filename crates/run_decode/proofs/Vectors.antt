-- Worked inputs of the counter, bounds and assumptions; clauses that are instances, and one that isn't.
use Rattle.std.proofs.Common.{◌≡◌, ℕ, zero, suc, ◌<◌, length, slice_get, ◌⊎◌, inl, inr, true, false, List, [], ◌∷◌, Some, None, refl, ap, sym, subst, ◌∙◌, arith, Contains, map}
use Rattle.card_counter.specs.Exclusions.{ExclusionClause, exclusion_clause, IsExclusionClause, two, opens, goes_on, shuts_out}
use Rattle.card_counter.specs.CounterClauses.{CountClause, counts_on, counts_up, count_clause, unless_reached, opposite}
use Rattle.des_base.proofs.Elements.{cons_cases, here_first, here_later, none_in_nil}
use Rattle.des_base.specs.Lists.{numbers_below}
use Rattle.des_net.specs.Models.{apart, pump}
use Rattle.des_net.specs.QuestionSize.{component_state_count}
use Rattle.question_clauses.specs.LogClauses.{LogClause, log_clause, IsLogClause, chain_closed, takes_rest, uses_up, passes_on, taken_or_passed, not_done_first, stays_done, match_is_done, matched_once, match_is_real, done_by_match, one_match, done_if_asked, before_if_asked}
use Rattle.log_order.specs.Log.{no_log}
use Rattle.prop_core.proofs.FamilyLemmas.{reads_whole}
use Rattle.prop_core.specs.VariableNames.{Meaning, in_state, happens, asked, matches, done, unmatched, closed, reaches, some_of_first, of_states, of_events, NamedLiteral, yes, no, named_clause}
use Rattle.prop_core.specs.declared.lit.Lit.{Lit}
use Rattle.question_clauses.specs.StepClauses.{StepClause, step_clause, IsStepClause, some_state, one_state, not_at_start, moves, stays, one_of_group, not_both, event_groups, state_inputs, group_inputs}
use Rattle.run_decode.specs.Drawn.{fault_inputs, bound_literals, assumption_literals, IsNamedClause, IsInstance}
use Rattle.std.proofs.lemmas.List.Elements.{Contains-append_right}

-- ---- inputs, bounds and assumptions

-- the pump jams in the first step, or in the second
pub pump_inputs : fault_inputs pump no_log 2 ≡ yes (happens 0 1) ∷ yes (happens 0 2) ∷ []
pump_inputs = refl

pub inputs_without_faults : fault_inputs apart no_log 2 ≡ []
inputs_without_faults = refl

pub inputs_without_steps : fault_inputs pump no_log 0 ≡ []
inputs_without_steps = refl

pub no_jam : bound_literals pump no_log 2 (Some 0) ≡ no (reaches 2 1) ∷ []
no_jam = refl

pub one_jam : bound_literals pump no_log 2 (Some 1) ≡ no (reaches 2 2) ∷ []
one_jam = refl

pub many_jams : bound_literals pump no_log 2 (Some 255) ≡ no (reaches 2 256) ∷ []
many_jams = refl

pub without_bound : bound_literals pump no_log 2 None ≡ []
without_bound = refl

-- where nothing can fail there is nothing to bound
pub bound_without_faults : bound_literals apart no_log 2 (Some 0) ≡ []
bound_without_faults = refl

pub pump_assumptions : assumption_literals pump no_log 2 (Some 0) ≡ yes asked ∷ yes (closed 1 0) ∷ yes (closed 2 0) ∷ yes (closed 3 0) ∷ no (reaches 2 1) ∷ []
pump_assumptions = refl

-- ---- instances

abbrev names : List (ℕ × Meaning)
names = (0, happens 0 1) ∷ (1, happens 0 2) ∷ (2, reaches 1 1) ∷ (3, reaches 2 1) ∷ []

abbrev positive : ℕ → Lit
positive var = record { var = var; positive = true }

abbrev negative : ℕ → Lit
negative var = record { var = var; positive = false }

-- a jam in the second step makes one of two
pub counts_second : IsInstance pump no_log 2 names (negative 1 ∷ positive 3 ∷ [])
counts_second = (
  no (happens 0 2) ∷ yes (reaches 2 1) ∷ [],
  inr (inr (counts_up 1 0 (yes (happens 0 2)), (refl, inl refl), refl)),
  reads_whole names (negative 1 ∷ positive 3 ∷ []) (no (happens 0 2) ∷ yes (reaches 2 1) ∷ []) refl,
)

-- the same clause with its literals in another order, one of them twice
pub counts_second_twice : IsInstance pump no_log 2 names (positive 3 ∷ negative 1 ∷ positive 3 ∷ [])
counts_second_twice = (
  no (happens 0 2) ∷ yes (reaches 2 1) ∷ [],
  inr (inr (counts_up 1 0 (yes (happens 0 2)), (refl, inl refl), refl)),
  record { read = yes (reaches 2 1) ∷ no (happens 0 2) ∷ yes (reaches 2 1) ∷ []; by_name = refl; same = λ x. (to x, from x) },
)
  where
    to : (x : NamedLiteral) → Contains (yes (reaches 2 1) ∷ no (happens 0 2) ∷ yes (reaches 2 1) ∷ []) x → Contains (no (happens 0 2) ∷ yes (reaches 2 1) ∷ []) x
    to x in' = by (cons_cases (yes (reaches 2 1)) (no (happens 0 2) ∷ yes (reaches 2 1) ∷ []) x in')
      where
        by : (yes (reaches 2 1) ≡ x) ⊎ Contains (no (happens 0 2) ∷ yes (reaches 2 1) ∷ []) x → Contains (no (happens 0 2) ∷ yes (reaches 2 1) ∷ []) x
        by (inl is) = here_later (no (happens 0 2)) (yes (reaches 2 1) ∷ []) x (here_first (yes (reaches 2 1)) [] x is)
        by (inr rest) = rest

    from : (x : NamedLiteral) → Contains (no (happens 0 2) ∷ yes (reaches 2 1) ∷ []) x → Contains (yes (reaches 2 1) ∷ no (happens 0 2) ∷ yes (reaches 2 1) ∷ []) x
    from x in' = here_later (yes (reaches 2 1)) (no (happens 0 2) ∷ yes (reaches 2 1) ∷ []) x in'

-- ---- and one that isn't

-- all literals of the clause have this name
abbrev HaveName : List NamedLiteral → Type 0
HaveName clause = (m : NamedLiteral) → Contains clause m → happens 0 1 ≡ m.meaning

states_no : (c t : ℕ) (qs : List ℕ) → HaveName (map (λ q. yes (in_state c q t)) qs) → Contains (map (λ q. yes (in_state c q t)) qs) (no (happens 0 1)) → ⊥
states_no c t [] each in' = none_in_nil (no (happens 0 1)) in'
states_no c t (q ∷ qs) each in' = let same = each (yes (in_state c q t)) (0, omega arith, refl) in cc

-- no state of a component is an event
not_a_state : (c t : ℕ) (qs : List ℕ) (i : ℕ) (x : Meaning) → slice_get (map (λ q. in_state c q t) qs) i ≡ Some x → happens 0 1 ≡ x → ⊥
not_a_state c t [] i x at same = cc
not_a_state c t (q ∷ qs) zero x at same = cc
not_a_state c t (q ∷ qs) (suc i) x at same = not_a_state c t qs i x at same

not_over_states : (c t : ℕ) (which : ExclusionClause) → IsExclusionClause (state_inputs pump c t) which → HaveName (exclusion_clause (of_states c t) which) → ⊥
not_over_states c t (two i j x y) (few, order, first, second) each = not_a_state c t (numbers_below (component_state_count pump c)) i x first (each (no x) (0, omega arith, refl))
not_over_states c t (opens i x) is each = let same = each (yes (some_of_first (of_states c t) (suc i))) (1, omega arith, refl) in cc
not_over_states c t (goes_on i) is each = let same = each (no (some_of_first (of_states c t) (suc i))) (0, omega arith, refl) in cc
not_over_states c t (shuts_out i x) is each = let same = each (no (some_of_first (of_states c t) (suc i))) (1, omega arith, refl) in cc

-- the first event stands once in the one group of the pump
once_in_group : (t i j : ℕ) (x y : Meaning) → i < j → slice_get (group_inputs pump 0 (suc t)) i ≡ Some x → slice_get (group_inputs pump 0 (suc t)) j ≡ Some y → happens 0 1 ≡ x → happens 0 1 ≡ y → ⊥
once_in_group t i zero x y order first second p q = absurd (omega (arith, order))
once_in_group t i (suc zero) x y order first second p q = cc
once_in_group t i (suc (suc zero)) x y order first second p q = cc
once_in_group t i (suc (suc (suc zero))) x y order first second p q = cc
once_in_group t i (suc (suc (suc (suc j)))) x y order first second p q = cc

not_over_events : (g t : ℕ) (which : ExclusionClause) → g < length (event_groups pump) → IsExclusionClause (group_inputs pump g (suc t)) which → HaveName (exclusion_clause (of_events (suc t) g) which) → ⊥
not_over_events zero t (two i j x y) known (few, order, first, second) each = once_in_group t i j x y order first second (each (no x) (0, omega arith, refl)) (each (no y) (1, omega arith, refl))
not_over_events (suc g) t (two i j x y) known is each = absurd (omega (arith, known))
not_over_events g t (opens i x) known is each = let same = each (yes (some_of_first (of_events (suc t) g) (suc i))) (1, omega arith, refl) in cc
not_over_events g t (goes_on i) known is each = let same = each (no (some_of_first (of_events (suc t) g) (suc i))) (0, omega arith, refl) in cc
not_over_events g t (shuts_out i x) known is each = let same = each (no (some_of_first (of_events (suc t) g) (suc i))) (1, omega arith, refl) in cc

not_of_steps : (which : StepClause) → IsStepClause pump 2 which → HaveName (step_clause pump which) → Contains (step_clause pump which) (no (happens 0 1)) → ⊥
not_of_steps (some_state c t) known each in' = states_no c t (numbers_below (component_state_count pump c)) each in'
not_of_steps (one_state c t which) (known, time, is) each in' = not_over_states c t which is each
not_of_steps (not_at_start c q) known each in' = let same = each (no (in_state c q 0)) (0, omega arith, refl) in cc
not_of_steps (moves e c a q t) known each in' = let same = each (no (in_state c q t)) (1, omega arith, refl) in cc
not_of_steps (stays c q t) known each in' = let same = each (no (in_state c q t)) (0, omega arith, refl) in cc
not_of_steps (one_of_group g t which) (known, time, is) each in' = not_over_events g t which known is each
not_of_steps (not_both e f t) (across, below) each in' = across.apart (first_group across.first across.in_first.0 across.in_first.1 ∙ sym (first_group across.second across.in_second.0 across.in_second.1))
  where
    first_group : (g : ℕ) (group : List ℕ) → slice_get (event_groups pump) g ≡ Some group → g ≡ 0
    first_group zero group at = refl
    first_group (suc g) group at = cc

not_of_log : (which : LogClause) → IsLogClause pump no_log 2 which → HaveName (log_clause pump no_log 2 which) → ⊥
not_of_log (chain_closed e k t) known each = let same = each (no (closed e k)) (0, omega arith, refl) in cc
not_of_log (takes_rest i e k t) known each = let same = each (no (matches i e (suc t))) (0, omega arith, refl) in cc
not_of_log (uses_up i e k t) known each = let same = each (no (matches i e (suc t))) (0, omega arith, refl) in cc
not_of_log (passes_on e k t) known each = let same = each (no (unmatched e (suc k) (suc t))) (0, omega arith, refl) in cc
not_of_log (taken_or_passed i e k t) known each = let same = each (yes (matches i e (suc t))) (1, omega arith, refl) in cc
not_of_log (not_done_first i) known each = let same = each (no (done i 0)) (0, omega arith, refl) in cc
not_of_log (stays_done i t) known each = let same = each (no (done i t)) (0, omega arith, refl) in cc
not_of_log (match_is_done i e t) known each = let same = each (no (matches i e (suc t))) (0, omega arith, refl) in cc
not_of_log (matched_once i e t) known each = let same = each (no (matches i e (suc t))) (0, omega arith, refl) in cc
not_of_log (match_is_real i e t) known each = let same = each (no (matches i e (suc t))) (0, omega arith, refl) in cc
not_of_log (done_by_match i t) known each = let same = each (no (done i (suc t))) (0, omega arith, refl) in cc
not_of_log (one_match i t which) known each = absurd (omega (arith, known.0))
not_of_log (done_if_asked i) known each = let same = each (no asked) (0, omega arith, refl) in cc
not_of_log (before_if_asked i j t) known each = let same = each (no asked) (0, omega arith, refl) in cc

not_of_counter : (which : CountClause) → HaveName (count_clause which) → ⊥
not_of_counter (counts_on i j) each = let same = each (no (reaches i j)) (0, omega arith, refl) in cc
not_of_counter (counts_up i j x) each =
    let same = each (yes (reaches (suc i) (suc j)))
    (Contains-append_right (unless_reached i j) (opposite x ∷ yes (reaches (suc i) (suc j)) ∷ []) (yes (reaches (suc i) (suc j))) (1, omega arith, refl)) in
    cc

-- a clause that states by itself that the pump doesn't jam in the first step is none
pub statement_is_no_instance : IsInstance pump no_log 2 names (negative 0 ∷ []) → ⊥
statement_is_no_instance (named, is, reads) = by is
  where
    read_is : (read : List NamedLiteral) → named_clause names (negative 0 ∷ []) ≡ Some read → no (happens 0 1) ∷ [] ≡ read
    read_is read h = some_is (no (happens 0 1) ∷ []) read h
      where
        some_is : (a b : List NamedLiteral) → Some a ≡ Some b → a ≡ b
        some_is a b q = cc

    only : (m : NamedLiteral) → Contains named m → no (happens 0 1) ≡ m
    only m in' = at (cons_cases (no (happens 0 1)) [] m (subst (λ read. Contains read m) (sym (read_is reads.read reads.by_name)) ((reads.same m).1 in')))
      where
        at : (no (happens 0 1) ≡ m) ⊎ Contains [] m → no (happens 0 1) ≡ m
        at (inl same) = same
        at (inr none) = absurd (none_in_nil m none)

    there : Contains named (no (happens 0 1))
    there = (reads.same (no (happens 0 1))).0 (subst (λ read. Contains read (no (happens 0 1))) (read_is reads.read reads.by_name) (0, omega arith, refl))

    -- no literal of another name stands in it
    name_is : (m : NamedLiteral) → Contains named m → happens 0 1 ≡ m.meaning
    name_is m in' = ap (λ (l : NamedLiteral). l.meaning) (only m in')

    by : IsNamedClause pump no_log 2 named → ⊥
    by (inl (which, known, same)) = not_of_steps which known
        (λ m in'. name_is m (subst (λ clause. Contains clause m) same in')) (subst (λ clause. Contains clause (no (happens 0 1))) (sym same) there)
    by (inr (inl (which, known, same))) = not_of_log which known (λ m in'. name_is m (subst (λ clause. Contains clause m) same in'))
    by (inr (inr (which, known, same))) = not_of_counter which (λ m in'. name_is m (subst (λ clause. Contains clause m) same in'))
