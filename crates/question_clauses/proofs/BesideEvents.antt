-- The names of a log beside those of the events.
use Rattle.std.proofs.Common.{◌≡◌, ◌≢◌, ◌∙◌, ℕ, suc, ◌+◌, ◌*◌, ◌<◌, ◌≤◌, List, length, Some, sym, ap, subst, arith, Contains, map, slice_get, option_map, inl, inr, ◌⊎◌}
use Rattle.std.specs.List.{AllByRecursion}
use Rattle.std.proofs.lemmas.List.{length-map}
use Rattle.std.proofs.lemmas.List.FromFn.{length-range_with_len}
use Rattle.std.proofs.lemmas.Option.{slice_get-map}
use Rattle.des_base.proofs.Elements.{all_from, flat_from, map_from, pairs_append}
use Rattle.des_base.specs.Lists.{numbers_below}
use Rattle.des_net.specs.Network.{Net}
use Rattle.question_clauses.proofs.LogCodes.{has_name, named_entry, code_begins, code_grows}
use Rattle.question_clauses.proofs.Drafts.{drafts_are_code}
use Rattle.question_clauses.proofs.Lists.{all_at}
use Rattle.question_clauses.proofs.Numbered.{laid_out_from, laid_out_has, flat_get, number_get, meanings_begin, log_meanings_grow}
use Rattle.question_clauses.specs.Additions.{with_addition}
use Rattle.question_clauses.specs.BesideEvents.{with_events, IsAfterEvents, MeaningsJoinEvents, LogCodeBegins, LogCodeGrows, LogCodesAre}
use Rattle.question_clauses.specs.LogCodes.{AreAmong}
use Rattle.question_clauses.specs.LogNames.{IsLogMeaning, AreLogMeanings, with_added, added_meanings, first_meanings}
use Rattle.prop_core.specs.VariableNames.{Meaning, happens, asked, HasEachOnce}
use Rattle.question_clauses.proofs.LaidOut.{events_size, events_once, laid_once}
use Rattle.question_clauses.specs.LaidOut.{laid_out, event_block}
use Rattle.std.proofs.lemmas.List.Elements.{Contains-append_cases, Contains-append_left, Contains-append_right}

block_from : (n k : ℕ) (meaning : Meaning) → Contains (event_block n k) meaning → (e : ℕ) × (t : ℕ) × (happens e (suc t) ≡ meaning)
block_from n k meaning in' =
    let event = flat_from (λ e. map (λ t. happens e (suc t)) (numbers_below n)) (numbers_below k) meaning in' in
    let step = map_from (λ t. happens event.0 (suc t)) (numbers_below n) meaning event.2 in
    (event.0, step.0, step.2)

block_get : (n k e t : ℕ) → e < k → t < n → slice_get (event_block n k) (e * n + t) ≡ Some (happens e (suc t))
block_get n k e t known step =
    flat_get (λ f. map (λ s. happens f (suc s)) (numbers_below n)) (numbers_below k) n e e t (λ f.
    let size = length-map (numbers_below n) (λ s. happens f (suc s)) in let range = length-range_with_len 0 n in omega (arith, size, range)) (number_get k e known) step
    ∙ slice_get-map (λ s. happens e (suc s)) (numbers_below n) t ∙ ap (option_map (λ s. happens e (suc s))) (number_get n t step)

pub meanings_join_events : MeaningsJoinEvents
meanings_join_events net log n first vars names are after = record {
  once = once;
  event = λ e t known step. has_name (with_events net n first names) (first + (e * n + t), happens e (suc t)) once
      (Contains-append_left (laid_out first (event_block n (length net.events))) names (first + (e * n + t), happens e (suc t))
      (laid_out_has first (event_block n (length net.events)) (e * n + t) (happens e (suc t)) (block_get n (length net.events) e t known step)));
  other = λ var meaning h. has_name (with_events net n first names) (var, meaning) once
      (Contains-append_right (laid_out first (event_block n (length net.events))) names (var, meaning) (named_entry names var meaning h));
}
  where
    apart : (a b : ℕ × Meaning) → Contains (laid_out first (event_block n (length net.events))) a → Contains names b → (a.0 ≢ b.0) × (a.1 ≢ b.1)
    apart a b in' in2 =
        let here = laid_out_from first (event_block n (length net.events)) a in' in
        let there = all_at (λ (entry : ℕ × Meaning). first + length net.events * n ≤ entry.0) names after b in2 in
        let size = events_size n (length net.events) in
        let high = here.2 in
        let event = block_from n (length net.events) a.1 here.0 in (
          λ same. omega (arith, there, size, high, same),
          λ same. subst (IsLogMeaning net log n) (sym (event.2 ∙ same)) ((are.exact b.1).1 (b.0, in2)),
        )

    once : HasEachOnce (with_events net n first names)
    once = pairs_append (λ a b. (a.0 ≢ b.0) × (a.1 ≢ b.1)) (laid_out first (event_block n (length net.events))) names
        (laid_once first (event_block n (length net.events)) (events_once n (length net.events))) are.once apart

-- the names in a row from a variable on are from there on
row_after : (net : Net) (n first next : ℕ) (xs : List Meaning) → IsAfterEvents net n first next → AllByRecursion (λ entry. IsAfterEvents net n first entry.0) (laid_out next xs)
row_after net n first next xs after = all_from (λ (entry : ℕ × Meaning). IsAfterEvents net n first entry.0) (laid_out next xs) (λ entry in'.
    let low = (laid_out_from next xs entry in').1 in omega (arith, low))

pub log_code_begins : LogCodeBegins
log_code_begins net n first vars written after listed = record {
  named = meanings_begin net n vars;
  after = row_after net n first vars (first_meanings net) after;
  code = code_begins net n (with_events net n first (laid_out vars (first_meanings net))) written ((drafts_are_code net n (with_events net n first (laid_out vars (first_meanings net))) written).1 listed);
}

pub log_code_grows : LogCodeGrows
log_code_grows net log n first vars next addition names written drafted before later listed = record {
  named = grown;
  after = behind;
  code = code_grows net log n addition (with_events net n first names) (with_events net n first (with_added net log n addition names next)) written drafted
      (meanings_join_events net (with_addition log addition) n first (next + length (added_meanings net log n addition)) (with_added net log n addition names next) grown behind).once
      among before.code ((drafts_are_code net n (with_events net n first (with_added net log n addition names next)) drafted).0 log addition listed);
}
  where
    -- the log is asked for by some variable
    after : IsAfterEvents net n first next
    after =
        let found = (before.named.exact asked).0 tt in
        let low = all_at (λ (e : ℕ × Meaning). IsAfterEvents net n first e.0) names before.after (found.0, asked) found.1 in
        let high = all_at (λ (e : ℕ × Meaning). e.0 < vars) names before.named.below (found.0, asked) found.1 in
        omega (arith, low, high)

    raised : AreLogMeanings net log n next names
    raised = record {
      once = before.named.once;
      below = all_from (λ (entry : ℕ × Meaning). entry.0 < next) names (λ entry in'. let low = all_at (λ (e : ℕ × Meaning). e.0 < vars) names before.named.below entry in' in omega (arith, low));
      exact = before.named.exact;
    }

    grown : AreLogMeanings net (with_addition log addition) n (next + length (added_meanings net log n addition)) (with_added net log n addition names next)
    grown = log_meanings_grow net log n next addition names raised

    behind : AllByRecursion (λ entry. IsAfterEvents net n first entry.0) (with_added net log n addition names next)
    behind = all_from (λ (entry : ℕ × Meaning). IsAfterEvents net n first entry.0) (with_added net log n addition names next) (λ entry in'.
        by entry (Contains-append_cases names (laid_out next (added_meanings net log n addition)) entry in'))
      where
        by : (entry : ℕ × Meaning) → Contains names entry ⊎ Contains (laid_out next (added_meanings net log n addition)) entry → IsAfterEvents net n first entry.0
        by entry (inl old) = all_at (λ (e : ℕ × Meaning). IsAfterEvents net n first e.0) names before.after entry old
        by entry (inr new) = all_at (λ (e : ℕ × Meaning). IsAfterEvents net n first e.0) (laid_out next (added_meanings net log n addition)) (row_after net n first next (added_meanings net log n addition) after) entry new

    among : AreAmong (with_events net n first names) (with_events net n first (with_added net log n addition names next))
    among entry in' = by (Contains-append_cases (laid_out first (event_block n (length net.events))) names entry in')
      where
        by : Contains (laid_out first (event_block n (length net.events))) entry ⊎ Contains names entry → Contains (with_events net n first (with_added net log n addition names next)) entry
        by (inl event) = Contains-append_left (laid_out first (event_block n (length net.events))) (with_added net log n addition names next) entry event
        by (inr old) = Contains-append_right (laid_out first (event_block n (length net.events))) (with_added net log n addition names next) entry (Contains-append_left names (laid_out next (added_meanings net log n addition)) entry old)

pub log_codes_are : LogCodesAre
log_codes_are net log n first vars names written assumed has guards = record {
  once = (meanings_join_events net log n first vars names has.named has.after).once;
  clauses = has.code;
  guards = guards;
}
