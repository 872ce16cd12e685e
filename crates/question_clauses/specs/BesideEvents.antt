-- The code of a log on variables beside those of the events: how it begins, grows, and what it is.
use Rattle.std.specs.Prelude.{◌≡◌, ℕ, suc, ◌+◌, ◌*◌, ◌<◌, ◌≤◌, List, ◌++◌, length, Some}
use Rattle.std.specs.List.{AllByRecursion}
use Rattle.des_net.specs.Network.{Net}
use Rattle.log_order.specs.Log.{Log, no_log}
use Rattle.question_clauses.specs.Additions.{Addition, with_addition}
use Rattle.question_clauses.specs.Drafts.{added_list, first_list}
use Rattle.question_clauses.specs.LogClauses.{guard_literals}
use Rattle.question_clauses.specs.LogCodeLaws.{IsLogCode}
use Rattle.question_clauses.specs.LogCodes.{IsNamedLog}
use Rattle.question_clauses.specs.LogNames.{AreLogMeanings, with_added, added_meanings, first_meanings}
use Rattle.prop_core.specs.Clauses.{Clause}
use Rattle.prop_core.specs.Listings.{IsListed}
use Rattle.prop_core.specs.NamedClauses.{IsCode}
use Rattle.prop_core.specs.VariableNames.{Meaning, happens, meaning_of, HasEachOnce, ReadsAs}
use Rattle.prop_core.specs.declared.lit.Lit.{Lit}
use Rattle.question_clauses.specs.LaidOut.{laid_out, event_block}

-- the events of n steps on variables in a row from the first on, event by event and step by step within each, and these meanings
abbrev pub with_events : Net → ℕ → ℕ → List (ℕ × Meaning) → List (ℕ × Meaning)
with_events net n first meanings = laid_out first (event_block n (length net.events)) ++ meanings

-- the variable comes after those of the events
abbrev pub IsAfterEvents : Net → ℕ → ℕ → ℕ → Type 0
IsAfterEvents net n first var = first + length net.events * n ≤ var

-- the meanings go together with those of the events, each once, and each keeps its variable
pub record AreBesideEvents (net : Net) (n first : ℕ) (meanings : List (ℕ × Meaning)) : Type 0 where
  pub once : HasEachOnce (with_events net n first meanings)
  pub event : (e t : ℕ) → e < length net.events → t < n → meaning_of (with_events net n first meanings) (first + (e * n + t)) ≡ Some (happens e (suc t))
  pub other : (var : ℕ) (meaning : Meaning) → meaning_of meanings var ≡ Some meaning → meaning_of (with_events net n first meanings) var ≡ Some meaning

-- So the meanings of a log do on later variables.
abbrev pub MeaningsJoinEvents : Type 0
MeaningsJoinEvents = (net : Net) (log : Log) (n first vars : ℕ) (meanings : List (ℕ × Meaning)) → AreLogMeanings net log n vars meanings →
    AllByRecursion (λ entry. IsAfterEvents net n first entry.0) meanings → AreBesideEvents net n first meanings

-- the meanings of a log on variables after those of the events and below a number, and its clauses by these meanings
pub record HasLogCode (net : Net) (log : Log) (n first vars : ℕ) (meanings : List (ℕ × Meaning)) (written : List Clause) : Type 0 where
  pub named : AreLogMeanings net log n vars meanings
  pub after : AllByRecursion (λ entry. IsAfterEvents net n first entry.0) meanings
  pub code : IsCode (with_events net n first meanings) (IsNamedLog net log n) written

-- Its first clauses on the next variables are the code of the empty log,
abbrev pub LogCodeBegins : Type 0
LogCodeBegins = (net : Net) (n first vars : ℕ) (written : List Clause) → IsAfterEvents net n first vars →
    IsListed (with_events net n first (laid_out vars (first_meanings net))) (first_list net n) written →
    HasLogCode net no_log n first (vars + length (first_meanings net)) (laid_out vars (first_meanings net)) written

-- a draft on later variables makes it the code of the log with the addition,
abbrev pub LogCodeGrows : Type 0
LogCodeGrows = (net : Net) (log : Log) (n first vars next : ℕ) (addition : Addition) (meanings : List (ℕ × Meaning)) (written drafted : List Clause) →
    HasLogCode net log n first vars meanings written → vars ≤ next →
    IsListed (with_events net n first (with_added net log n addition meanings next)) (added_list net log n addition) drafted →
    HasLogCode net (with_addition log addition) n first (next + length (added_meanings net log n addition)) (with_added net log n addition meanings next) (written ++ drafted)

-- and with its guards it is a code of the log.
abbrev pub LogCodesAre : Type 0
LogCodesAre = (net : Net) (log : Log) (n first vars : ℕ) (meanings : List (ℕ × Meaning)) (written : List Clause) (assumed : List Lit) →
    HasLogCode net log n first vars meanings written → ReadsAs (with_events net n first meanings) assumed (guard_literals net log) → IsLogCode net log n (with_events net n first meanings) written assumed
