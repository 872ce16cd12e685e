-- When meanings by their truth make the clauses of a log true, and its guards.
use Rattle.std.specs.Prelude.{◌≡◌, ℕ, Bool, true, false, not, ◌||◌, IsTrue}
use Rattle.std.specs.List.{AllByRecursion}
use Rattle.des_net.specs.Network.{Net}
use Rattle.log_order.specs.Log.{Log}
use Rattle.question_clauses.specs.LogClauses.{LogClause, log_clause, IsLogClause, guard_literals}
use Rattle.prop_core.specs.NamedClauses.{named_true, named_clause_true}
use Rattle.prop_core.specs.VariableNames.{Meaning, in_state, happens, asked, matches, done, unmatched, closed, dropped, reaches, some_of_first}
use Rattle.question_clauses.specs.Steps.{is_event, is_of_steps}

-- each clause of the log is true
abbrev pub LogClausesHold : Net → Log → ℕ → (Meaning → Bool) → Type 0
LogClausesHold net log n value = (which : LogClause) → IsLogClause net log n which → IsTrue (named_clause_true value (log_clause net log n which))

-- each guard of the log is true
abbrev pub GuardsHold : Net → Log → (Meaning → Bool) → Type 0
GuardsHold net log value = AllByRecursion (λ l. IsTrue (named_true value l)) (guard_literals net log)

-- the meaning is one that clauses of logs alone have, or a guard
abbrev pub is_of_log : Meaning → Bool
is_of_log (in_state c q t) = false
is_of_log (happens e t) = false
is_of_log asked = true
is_of_log (matches i e t) = true
is_of_log (done i t) = true
is_of_log (unmatched e k t) = true
is_of_log (closed e k) = true
is_of_log (dropped i) = true
is_of_log (reaches i j) = false
is_of_log (some_of_first family i) = not (is_of_steps family)

-- the same truth for all meanings but those of a log
abbrev pub DifferInLog : (Meaning → Bool) → (Meaning → Bool) → Type 0
DifferInLog given value = (meaning : Meaning) → is_of_log meaning ≡ false → value meaning ≡ given meaning

-- the same truth for all meanings that clauses of logs have, and guards
abbrev pub AgreeOnLog : (Meaning → Bool) → (Meaning → Bool) → Type 0
AgreeOnLog value other = (meaning : Meaning) → is_event meaning || is_of_log meaning ≡ true → value meaning ≡ other meaning
