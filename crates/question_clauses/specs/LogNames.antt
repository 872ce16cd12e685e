-- The meanings of a log, and their variables, in the order in which additions bring them.
use Rattle.std.specs.Prelude.{◌≡◌, ◌≢◌, ◌↔◌, ◌⊎◌, ⊤, ℕ, suc, ◌+◌, ◌*◌, ◌<◌, ◌≤◌, Bool, true, if◌then◌else◌, List, [], ◌∷◌, ◌++◌, map, flat_map, length, Some, slice_get, is_some, Contains, IsTrue}
use Rattle.std.specs.List.{AllByRecursion, AllZip}
use Rattle.des_base.specs.ChainCount.{chain_count}
use Rattle.des_base.specs.Lists.{EachPair, numbers_below}
use Rattle.des_net.specs.Network.{Net, label_of, observable_events}
use Rattle.des_net.specs.QuestionSize.{observable_count}
use Rattle.log_order.specs.Log.{Log, Alarm, no_log, is_doubtful}
use Rattle.question_clauses.specs.Additions.{Addition, alarm_added, pair_added, with_addition}
use Rattle.question_clauses.specs.Drafts.{taken_events}
use Rattle.question_clauses.specs.LogClauses.{chain, matching_events}
use Rattle.prop_core.specs.Clauses.{Clause}
use Rattle.prop_core.specs.VariableNames.{Meaning, in_state, happens, asked, matches, done, unmatched, closed, dropped, reaches, some_of_first, of_states, of_events, of_matches, NamedLiteral, HasEachOnce, meaning_of, ReadsAs}
use Rattle.prop_core.specs.declared.lit.Lit.{Lit}
use Rattle.replay.specs.Explanation.{is_matching}
use Rattle.replay.specs.QuestionSize.{variable_bound}
use Rattle.card_counter.specs.AtMostOne.{IsNamedChain}
use Rattle.question_clauses.specs.LaidOut.{laid_out, chain_meanings}

-- t is the number of one of n steps, counted from 1
abbrev pub IsStepNumber : ℕ → ℕ → Type 0
IsStepNumber n t = (1 ≤ t) × (t ≤ n)

-- the meanings of a log, apart from those of the steps
abbrev pub IsLogMeaning : Net → Log → ℕ → Meaning → Type 0
IsLogMeaning net log n (in_state c q t) = ⊥
IsLogMeaning net log n (happens e t) = ⊥
IsLogMeaning net log n asked = ⊤
IsLogMeaning net log n (matches i e t) = IsTrue (is_matching net log e i) × IsStepNumber n t
IsLogMeaning net log n (done i t) = (i < length log.alarms) × (t ≤ n)
IsLogMeaning net log n (unmatched e k t) = (1 ≤ k) × (k ≤ length (chain net log e)) × IsStepNumber n t
IsLogMeaning net log n (closed e k) = IsTrue (is_some (label_of net e)) × (k ≤ length (chain net log e))
IsLogMeaning net log n (dropped i) = IsTrue (is_doubtful log i)
IsLogMeaning net log n (reaches i j) = ⊥
IsLogMeaning net log n (some_of_first (of_states c t) k) = ⊥
IsLogMeaning net log n (some_of_first (of_events t g) k) = ⊥
IsLogMeaning net log n (some_of_first (of_matches i t) k) = (i < length log.alarms) × IsStepNumber n t × (1 ≤ k) × (k ≤ chain_count (length (matching_events net log i)))

-- what alarm i brings for event e, whose chain had k alarms: the end of the longer chain, and then the match and what is passed on, step by step
abbrev pub link_meanings : ℕ → ℕ → ℕ → ℕ → List Meaning
link_meanings n i e k = closed e (suc k) ∷ flat_map (λ t. matches i e (suc t) ∷ unmatched e (suc k) (suc t) ∷ []) (numbers_below n)

-- a link of each event that a new alarm may stand for, and when it is done
abbrev pub alarm_meanings : Net → Log → ℕ → Alarm → List Meaning
alarm_meanings net log n new =
    flat_map (λ e. link_meanings n (length log.alarms) e (length (chain net log e))) (taken_events net log new)
    ++ map (λ t. done (length log.alarms) t) (numbers_below (suc n))

-- the chains over its matches, of which there may be m in a step, step by step
abbrev pub match_chains : ℕ → ℕ → ℕ → List Meaning
match_chains n i m = flat_map (λ t. chain_meanings (of_matches i (suc t)) m) (numbers_below n)

-- if it is doubtful, whether it is false
abbrev pub false_meanings : Bool → ℕ → List Meaning
false_meanings doubtful i = if doubtful then dropped i ∷ [] else []

-- the new meanings of an addition
abbrev pub added_meanings : Net → Log → ℕ → Addition → List Meaning
added_meanings net log n (alarm_added new) =
    alarm_meanings net log n new ++ (match_chains n (length log.alarms) (length (taken_events net log new)) ++ false_meanings new.doubtful (length log.alarms))
added_meanings net log n (pair_added i j) = []

-- the meanings of the empty log
abbrev pub first_meanings : Net → List Meaning
first_meanings net = asked ∷ map (λ e. closed e 0) (observable_events net)

-- The meanings that an addition brings are new, each one meaning, and with them a log has its meanings.
pub record BringsNewMeanings (net : Net) (log : Log) (n : ℕ) (addition : Addition) : Type 0 where
  pub once : EachPair (λ a b. a ≢ b) (added_meanings net log n addition)
  pub fresh : (meaning : Meaning) → Contains (added_meanings net log n addition) meaning → IsLogMeaning net log n meaning → ⊥
  pub all : (meaning : Meaning) → IsLogMeaning net (with_addition log addition) n meaning ↔ IsLogMeaning net log n meaning ⊎ Contains (added_meanings net log n addition) meaning

-- This holds for each addition to each log.
abbrev pub MeaningsAreNew : Type 0
MeaningsAreNew = (net : Net) (log : Log) (n : ℕ) (addition : Addition) → BringsNewMeanings net log n addition

-- They are no more than the bound on the variables of a question grows by.
abbrev pub MeaningsAreFew : Type 0
MeaningsAreFew = (net : Net) (log : Log) (n : ℕ) (addition : Addition) →
    length (added_meanings net log n addition) + variable_bound net log n ≤ variable_bound net (with_addition log addition) n

-- The first meanings are those of the empty log, each one meaning: one for each event that can be seen, and one.
pub record AreFirst (net : Net) (n : ℕ) : Type 0 where
  pub once : EachPair (λ a b. a ≢ b) (first_meanings net)
  pub all : (meaning : Meaning) → IsLogMeaning net no_log n meaning ↔ Contains (first_meanings net) meaning
  pub few : length (first_meanings net) ≡ 1 + observable_count net

-- This holds in each network, for each number of steps.
abbrev pub FirstMeaningsAreAll : Type 0
FirstMeaningsAreAll = (net : Net) (n : ℕ) → AreFirst net n

-- ---- on variables

-- exactly the meanings of the log have variables, each one, below a number
pub record AreLogMeanings (net : Net) (log : Log) (n vars : ℕ) (meanings : List (ℕ × Meaning)) : Type 0 where
  pub once : HasEachOnce meanings
  pub below : AllByRecursion (λ entry. entry.0 < vars) meanings
  pub exact : (meaning : Meaning) → IsLogMeaning net log n meaning ↔ ((var : ℕ) × Contains meanings (var, meaning))

-- the meanings of a log, and those of an addition on the variables from this one on
abbrev pub with_added : Net → Log → ℕ → Addition → List (ℕ × Meaning) → ℕ → List (ℕ × Meaning)
with_added net log n addition meanings first = meanings ++ laid_out first (added_meanings net log n addition)

-- On variables in a row the first meanings are the meanings of the empty log,
abbrev pub MeaningsBegin : Type 0
MeaningsBegin = (net : Net) (n first : ℕ) → AreLogMeanings net no_log n (first + length (first_meanings net)) (laid_out first (first_meanings net))

-- and the meanings of an addition, on the variables that come next, make those of a log the meanings of the log with the addition.
abbrev pub LogMeaningsGrow : Type 0
LogMeaningsGrow = (net : Net) (log : Log) (n first : ℕ) (addition : Addition) (meanings : List (ℕ × Meaning)) → AreLogMeanings net log n first meanings →
    AreLogMeanings net (with_addition log addition) n (first + length (added_meanings net log n addition)) (with_added net log n addition meanings first)

-- Where the meanings of a new alarm stand: a link of each event that it may stand for, one after another, then when it is done, then the chains over its matches, and at the end, if it is doubtful, whether it is false.
pub record HasAlarmPlaces (net : Net) (log : Log) (n first : ℕ) (new : Alarm) (meanings : List (ℕ × Meaning)) : Type 0 where
  pub closing : (p e : ℕ) → slice_get (taken_events net log new) p ≡ Some e →
      meaning_of meanings (first + p * (1 + n * 2)) ≡ Some (closed e (suc (length (chain net log e))))
  pub matching : (p e t : ℕ) → slice_get (taken_events net log new) p ≡ Some e → t < n →
      meaning_of meanings (first + (p * (1 + n * 2) + suc (t * 2))) ≡ Some (matches (length log.alarms) e (suc t))
  pub passing : (p e t : ℕ) → slice_get (taken_events net log new) p ≡ Some e → t < n →
      meaning_of meanings (first + (p * (1 + n * 2) + suc (t * 2 + 1))) ≡ Some (unmatched e (suc (length (chain net log e))) (suc t))
  pub being_done : (t : ℕ) → t ≤ n → meaning_of meanings (first + (length (taken_events net log new) * (1 + n * 2) + t)) ≡ Some (done (length log.alarms) t)
  pub chaining : (t : ℕ) → t < n → IsNamedChain meanings (of_matches (length log.alarms) (suc t))
      (first + (length (taken_events net log new) * (1 + n * 2) + (suc n + t * chain_count (length (taken_events net log new))))) (chain_count (length (taken_events net log new)))
  pub being_false : new.doubtful ≡ true →
      meaning_of meanings (first + (length (taken_events net log new) * (1 + n * 2) + (suc n + n * chain_count (length (taken_events net log new))))) ≡ Some (dropped (length log.alarms))

-- They stand so where they are added behind the meanings of a log.
abbrev pub PlacesOfMeanings : Type 0
PlacesOfMeanings = (net : Net) (log : Log) (n first : ℕ) (new : Alarm) (meanings : List (ℕ × Meaning)) → AreLogMeanings net log n first meanings →
    HasAlarmPlaces net log n first new (with_added net log n (alarm_added new) meanings first)

-- literal by literal the clause has these meanings and signs
abbrev pub ReadsInOrder : List (ℕ × Meaning) → Clause → List NamedLiteral → Type 0
ReadsInOrder meanings clause named = AllZip (λ (l : Lit) (m : NamedLiteral). (meaning_of meanings l.var ≡ Some m.meaning) × (l.positive ≡ m.positive)) clause named

-- What reads literal by literal as a clause reads as that.
abbrev pub OrderedReads : Type 0
OrderedReads = (meanings : List (ℕ × Meaning)) (clause : Clause) (named : List NamedLiteral) → ReadsInOrder meanings clause named → ReadsAs meanings clause named
