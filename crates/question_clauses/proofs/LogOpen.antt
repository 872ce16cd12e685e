-- Without the guards the clauses are true where nothing is matched.
use Rattle.std.proofs.Common.{◌≡◌, ℕ, zero, suc, Bool, true, false, List, [], ◌∷◌, map, Some, slice_get, refl, sym, ap, not, ◌||◌}
use Rattle.card_counter.specs.Exclusions.{two, opens, goes_on, shuts_out}
use Rattle.des_net.specs.Network.{Net}
use Rattle.question_clauses.specs.Coded.{opened}
use Rattle.question_clauses.specs.LogClauses.{LogClause, log_clause, IsLogClause, matching_events, chain_closed, takes_rest, uses_up, passes_on, taken_or_passed, not_done_first, stays_done, match_is_done, matched_once, match_is_real, done_by_match, one_match, done_if_asked, before_if_asked}
use Rattle.question_clauses.specs.LogLaws.{LogIsOpen}
use Rattle.question_clauses.specs.LogTruth.{DifferInLog}
use Rattle.log_order.specs.Log.{Log}
use Rattle.prop_core.specs.NamedClauses.{named_clause_true}
use Rattle.prop_core.specs.VariableNames.{Meaning, in_state, happens, asked, matches, done, unmatched, closed, dropped, reaches, some_of_first, of_states, of_events, of_matches}

implied_or_none : (b : Bool) → not b || (b || false) ≡ true
implied_or_none true = refl
implied_or_none false = refl

passed : (b : Bool) → not b || (false || (b || false)) ≡ true
passed true = refl
passed false = refl

-- no match is true
none_matched : (value : Meaning → Bool) (i t : ℕ) (es : List ℕ) (k : ℕ) (x : Meaning) → slice_get (map (λ e. matches i e t) es) k ≡ Some x → opened value x ≡ false
none_matched value i t [] k x at = cc
none_matched value i t (e ∷ es) zero x at = let same : matches i e t ≡ x = cc in sym (ap (opened value) same)
none_matched value i t (e ∷ es) (suc k) x at = none_matched value i t es k x at

first_fails : (a b : Bool) → a ≡ false → not a || b ≡ true
first_fails false b h = refl
first_fails true b h = cc

all_open : (value : Meaning → Bool) (net : Net) (log : Log) (n : ℕ) (which : LogClause) → IsLogClause net log n which → named_clause_true (opened value) (log_clause net log n which) ≡ true
all_open value net log n (chain_closed e k t) h = refl
all_open value net log n (takes_rest i e k t) h = refl
all_open value net log n (uses_up i e k t) h = refl
all_open value net log n (passes_on e zero t) h = implied_or_none (value (happens e (suc t)))
all_open value net log n (passes_on e (suc k) t) h = implied_or_none (value (happens e (suc t)))
all_open value net log n (taken_or_passed i e zero t) h = passed (value (happens e (suc t)))
all_open value net log n (taken_or_passed i e (suc k) t) h = passed (value (happens e (suc t)))
all_open value net log n (not_done_first i) h = refl
all_open value net log n (stays_done i t) h = refl
all_open value net log n (match_is_done i e t) h = refl
all_open value net log n (matched_once i e t) h = refl
all_open value net log n (match_is_real i e t) h = refl
all_open value net log n (done_by_match i t) h = refl
all_open value net log n (one_match i t (two a b x y)) (known, step, (few, less, at_a, at_b)) = first_fails (opened value x) (not (opened value y) || false) (none_matched value i (suc t) (matching_events net log i) a x at_a)
all_open value net log n (one_match i t (opens a x)) (known, step, (long, below, at)) = first_fails (opened value x) false (none_matched value i (suc t) (matching_events net log i) a x at)
all_open value net log n (one_match i t (goes_on a)) h = refl
all_open value net log n (one_match i t (shuts_out a x)) (known, step, (long, at)) = first_fails (opened value x) (not false || false) (none_matched value i (suc t) (matching_events net log i) (suc a) x at)
all_open value net log n (done_if_asked i) h = refl
all_open value net log n (before_if_asked i j t) h = refl

opened_differs : (value : Meaning → Bool) → DifferInLog value (opened value)
opened_differs value (in_state c q t) h = refl
opened_differs value (happens e t) h = refl
opened_differs value asked h = cc
opened_differs value (matches i e t) h = cc
opened_differs value (done i t) h = cc
opened_differs value (unmatched e k t) h = cc
opened_differs value (closed e k) h = cc
opened_differs value (dropped i) h = cc
opened_differs value (reaches i j) h = refl
opened_differs value (some_of_first (of_states c t) k) h = refl
opened_differs value (some_of_first (of_events t g) k) h = refl
opened_differs value (some_of_first (of_matches i t) k) h = cc

pub log_is_open : LogIsOpen
log_is_open value = (opened_differs value, λ net log n which h. all_open value net log n which h)
