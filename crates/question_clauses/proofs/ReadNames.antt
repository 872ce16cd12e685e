-- The names that clauses of logs and guards have.
use Rattle.std.proofs.Common.{◌≡◌, ℕ, zero, suc, Bool, true, false, List, [], ◌∷◌, length, refl, sym, ap, subst, Some, slice_get, map, cond, IsTrue, ◌||◌, ◌∙◌}
use Rattle.std.specs.List.{AllByRecursion}
use Rattle.card_counter.specs.Exclusions.{two, opens, goes_on, shuts_out}
use Rattle.des_net.specs.Network.{Net, observable_events}
use Rattle.log_order.specs.Log.{Log, is_doubtful}
use Rattle.question_clauses.specs.LogClauses.{chain, matching_events, LogClause, log_clause, IsLogClause, guard_literals, chain_closed, takes_rest, uses_up, passes_on, taken_or_passed, not_done_first, stays_done, match_is_done, matched_once, match_is_real, done_by_match, one_match, done_if_asked, before_if_asked, or_false}
use Rattle.question_clauses.specs.LogLaws.{OnlyLogMatters}
use Rattle.question_clauses.specs.LogTruth.{is_of_log, AgreeOnLog}
use Rattle.prop_core.specs.NamedClauses.{same_sign, named_true, named_clause_true}
use Rattle.prop_core.specs.VariableNames.{Meaning, NamedLiteral, yes, remaining, matches, closed, dropped}
use Rattle.question_clauses.specs.Steps.{is_event}

remaining_read : (e k t : ℕ) → is_event (remaining e k t) || is_of_log (remaining e k t) ≡ true
remaining_read e zero t = refl
remaining_read e (suc k) t = refl

each_read : (meaning : ℕ → Meaning) (xs : List ℕ) → ((x : ℕ) → is_event (meaning x) || is_of_log (meaning x) ≡ true) → AllByRecursion (λ m. is_event m.meaning || is_of_log m.meaning ≡ true) (map (λ x. yes (meaning x)) xs)
each_read meaning [] read = tt
each_read meaning (x ∷ xs) read = (read x, each_read meaning xs read)

or_false_read : (log : Log) (i : ℕ) (literals : List NamedLiteral) → AllByRecursion (λ m. is_event m.meaning || is_of_log m.meaning ≡ true) literals → AllByRecursion (λ m. is_event m.meaning || is_of_log m.meaning ≡ true) (or_false log i literals)
or_false_read log i literals read = by (is_doubtful log i)
  where
    by : (b : Bool) → AllByRecursion (λ m. is_event m.meaning || is_of_log m.meaning ≡ true) (cond b (yes (dropped i) ∷ literals) literals)
    by true = (refl, read)
    by false = read

input_read : (i t : ℕ) (es : List ℕ) (k : ℕ) (x : Meaning) → slice_get (map (λ e. matches i e t) es) k ≡ Some x → is_event x || is_of_log x ≡ true
input_read i t [] k x at = cc
input_read i t (e ∷ es) zero x at = let same : matches i e t ≡ x = cc in subst (λ y. is_event y || is_of_log y ≡ true) same refl
input_read i t (e ∷ es) (suc k) x at = input_read i t es k x at

clause_read : (net : Net) (log : Log) (n : ℕ) (which : LogClause) → IsLogClause net log n which → AllByRecursion (λ m. is_event m.meaning || is_of_log m.meaning ≡ true) (log_clause net log n which)
clause_read net log n (chain_closed e k t) h = (refl, (remaining_read e k (suc t), tt))
clause_read net log n (takes_rest i e k t) h = (refl, (remaining_read e k (suc t), tt))
clause_read net log n (uses_up i e k t) h = (refl, (refl, tt))
clause_read net log n (passes_on e k t) h = (refl, (remaining_read e k (suc t), tt))
clause_read net log n (taken_or_passed i e k t) h = (remaining_read e k (suc t), (refl, (refl, tt)))
clause_read net log n (not_done_first i) h = (refl, or_false_read log i [] tt)
clause_read net log n (stays_done i t) h = (refl, (refl, tt))
clause_read net log n (match_is_done i e t) h = (refl, (refl, tt))
clause_read net log n (matched_once i e t) h = (refl, (refl, tt))
clause_read net log n (match_is_real i e t) h = (refl, (refl, tt))
clause_read net log n (done_by_match i t) h = (refl, (refl, or_false_read log i (map (λ e. yes (matches i e (suc t))) (matching_events net log i)) (each_read (λ e. matches i e (suc t)) (matching_events net log i) (λ e. refl))))
clause_read net log n (one_match i t (two a b x y)) (known, step, (few, less, at_a, at_b)) = (input_read i (suc t) (matching_events net log i) a x at_a, (input_read i (suc t) (matching_events net log i) b y at_b, tt))
clause_read net log n (one_match i t (opens a x)) (known, step, (long, below, at)) = (input_read i (suc t) (matching_events net log i) a x at, (refl, tt))
clause_read net log n (one_match i t (goes_on a)) h = (refl, (refl, tt))
clause_read net log n (one_match i t (shuts_out a x)) (known, step, (long, at)) = (input_read i (suc t) (matching_events net log i) (suc a) x at, (refl, tt))
clause_read net log n (done_if_asked i) h = (refl, (refl, tt))
clause_read net log n (before_if_asked i j t) h = (refl, (refl, (refl, tt)))

same_clause : (value other : Meaning → Bool) → AgreeOnLog value other → (literals : List NamedLiteral) → AllByRecursion (λ m. is_event m.meaning || is_of_log m.meaning ≡ true) literals →
    named_clause_true value literals ≡ named_clause_true other literals
same_clause value other agree [] read = refl
same_clause value other agree (m ∷ literals) read =
    ap (λ b. same_sign m.positive b || named_clause_true value literals) (agree m.meaning read.0)
    ∙ ap (λ b. named_true other m || b) (same_clause value other agree literals read.1)

same_guards : (value other : Meaning → Bool) → AgreeOnLog value other → (literals : List NamedLiteral) → AllByRecursion (λ m. is_event m.meaning || is_of_log m.meaning ≡ true) literals →
    AllByRecursion (λ m. IsTrue (named_true value m)) literals → AllByRecursion (λ m. IsTrue (named_true other m)) literals
same_guards value other agree [] read all = tt
same_guards value other agree (m ∷ literals) read all =
    (sym (ap (same_sign m.positive) (agree m.meaning read.0)) ∙ all.0, same_guards value other agree literals read.1 all.1)

pub only_log_matters : OnlyLogMatters
only_log_matters net log n value other agree = (
  λ held which h. sym (same_clause value other agree (log_clause net log n which) (clause_read net log n which h)) ∙ held which h,
  same_guards value other agree (guard_literals net log) (refl, each_read (λ e. closed e (length (chain net log e))) (observable_events net) (λ e. refl)),
)
