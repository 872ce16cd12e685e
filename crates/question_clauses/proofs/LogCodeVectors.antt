-- Worked codes over variables, where two events in one step are on 0 and 1.
use Rattle.std.proofs.Common.{◌≡◌, ℕ, Bool, true, false, List, [], ◌∷◌, ◌++◌, Some, refl, ◌==◌, arith}
use Rattle.std.specs.List.{list_all, list_any}
use Rattle.des_net.specs.Models.{apart}
use Rattle.log_order.specs.Log.{Log, no_log}
use Rattle.question_clauses.proofs.BesideEvents.{log_code_begins, log_code_grows, log_codes_are}
use Rattle.question_clauses.proofs.Numbered.{ordered_reads, ordered_names}
use Rattle.question_clauses.specs.Additions.{alarm_added, with_addition}
use Rattle.question_clauses.specs.BesideEvents.{with_events, HasLogCode}
use Rattle.question_clauses.specs.Drafts.{added_clauses, first_clauses}
use Rattle.question_clauses.specs.LogClauses.{log_clause, guard_literals}
use Rattle.question_clauses.specs.LogCodeLaws.{IsLogCode}
use Rattle.question_clauses.specs.LogNames.{first_meanings, with_added, ReadsInOrder}
use Rattle.prop_core.specs.Clauses.{Clause, clause_true, literal_true}
use Rattle.prop_core.proofs.Listed.{listed_from}
use Rattle.prop_core.specs.VariableNames.{Meaning, happens, asked, matches, done, unmatched, closed, NamedLiteral, yes, no, named_clause}
use Rattle.prop_core.specs.declared.lit.Lit.{Lit}
use Rattle.question_clauses.specs.LaidOut.{laid_out}
use Rattle.question_clauses.proofs.LogVectors.{x}

-- ---- that of the empty log, on 2 to 4

abbrev names : List (ℕ × Meaning)
names = with_events apart 1 0 (laid_out 2 (first_meanings apart))

abbrev yes_variable : ℕ → Lit
yes_variable var = record { var = var; positive = true }

abbrev no_variable : ℕ → Lit
no_variable var = record { var = var; positive = false }

abbrev written : List Clause
written = (no_variable 3 ∷ no_variable 0 ∷ []) ∷ (no_variable 4 ∷ no_variable 1 ∷ []) ∷ []

pub empty_code : HasLogCode apart no_log 1 0 5 (laid_out 2 (first_meanings apart)) written
empty_code = log_code_begins apart 1 0 2 written (omega arith) (listed_from names (log_clause apart no_log 1) written (first_clauses apart 1) (
  ordered_names names (no_variable 3 ∷ no_variable 0 ∷ []) (no (closed 0 0) ∷ no (happens 0 1) ∷ []) ((refl, refl), ((refl, refl), tt)),
  (ordered_names names (no_variable 4 ∷ no_variable 1 ∷ []) (no (closed 1 0) ∷ no (happens 1 1) ∷ []) ((refl, refl), ((refl, refl), tt)), tt),
))

-- ---- and with x on 5 to 9

abbrev with_x : Log
with_x = with_addition no_log (alarm_added x)

abbrev x_names : List (ℕ × Meaning)
x_names = with_added apart no_log 1 (alarm_added x) (laid_out 2 (first_meanings apart)) 5

abbrev all_names : List (ℕ × Meaning)
all_names = with_events apart 1 0 x_names

abbrev drafted : List Clause
drafted = (no_variable 5 ∷ no_variable 7 ∷ []) ∷ (no_variable 6 ∷ yes_variable 0 ∷ []) ∷ (no_variable 6 ∷ no_variable 7 ∷ []) ∷ (no_variable 7 ∷ yes_variable 0 ∷ [])
    ∷ (no_variable 0 ∷ yes_variable 6 ∷ yes_variable 7 ∷ []) ∷ (no_variable 6 ∷ yes_variable 9 ∷ []) ∷ (no_variable 6 ∷ no_variable 8 ∷ [])
    ∷ (no_variable 8 ∷ []) ∷ (no_variable 2 ∷ yes_variable 9 ∷ []) ∷ (no_variable 8 ∷ yes_variable 9 ∷ []) ∷ (no_variable 9 ∷ yes_variable 8 ∷ yes_variable 6 ∷ []) ∷ []

two : (a b : Lit) (l m : NamedLiteral) → ReadsInOrder all_names (a ∷ []) (l ∷ []) → ReadsInOrder all_names (b ∷ []) (m ∷ []) → named_clause all_names (a ∷ b ∷ []) ≡ Some (l ∷ m ∷ [])
two a b l m first second = ordered_names all_names (a ∷ b ∷ []) (l ∷ m ∷ []) (first.0, second)

three : (a b c : Lit) (l m n : NamedLiteral) → ReadsInOrder all_names (a ∷ []) (l ∷ []) → ReadsInOrder all_names (b ∷ []) (m ∷ []) → ReadsInOrder all_names (c ∷ []) (n ∷ []) →
    named_clause all_names (a ∷ b ∷ c ∷ []) ≡ Some (l ∷ m ∷ n ∷ [])
three a b c l m n first second third = ordered_names all_names (a ∷ b ∷ c ∷ []) (l ∷ m ∷ n ∷ []) (first.0, (second.0, third))

pub code_of_x : HasLogCode apart with_x 1 0 10 x_names (written ++ drafted)
code_of_x = log_code_grows apart no_log 1 0 5 5 (alarm_added x) (laid_out 2 (first_meanings apart)) written drafted empty_code (omega arith) (listed_from all_names (log_clause apart with_x 1) drafted (added_clauses apart no_log 1 (alarm_added x)) (
  two (no_variable 5) (no_variable 7) (no (closed 0 1)) (no (unmatched 0 1 1)) ((refl, refl), tt) ((refl, refl), tt),
  (
    two (no_variable 6) (yes_variable 0) (no (matches 0 0 1)) (yes (happens 0 1)) ((refl, refl), tt) ((refl, refl), tt),
    (
      two (no_variable 6) (no_variable 7) (no (matches 0 0 1)) (no (unmatched 0 1 1)) ((refl, refl), tt) ((refl, refl), tt),
      (
        two (no_variable 7) (yes_variable 0) (no (unmatched 0 1 1)) (yes (happens 0 1)) ((refl, refl), tt) ((refl, refl), tt),
        (
          three (no_variable 0) (yes_variable 6) (yes_variable 7) (no (happens 0 1)) (yes (matches 0 0 1)) (yes (unmatched 0 1 1)) ((refl, refl), tt) ((refl, refl), tt) ((refl, refl), tt),
          (
            two (no_variable 6) (yes_variable 9) (no (matches 0 0 1)) (yes (done 0 1)) ((refl, refl), tt) ((refl, refl), tt),
            (
              two (no_variable 6) (no_variable 8) (no (matches 0 0 1)) (no (done 0 0)) ((refl, refl), tt) ((refl, refl), tt),
              (
                ordered_names all_names (no_variable 8 ∷ []) (no (done 0 0) ∷ []) ((refl, refl), tt),
                (
                  two (no_variable 2) (yes_variable 9) (no asked) (yes (done 0 1)) ((refl, refl), tt) ((refl, refl), tt),
                  (
                    two (no_variable 8) (yes_variable 9) (no (done 0 0)) (yes (done 0 1)) ((refl, refl), tt) ((refl, refl), tt),
                    (three (no_variable 9) (yes_variable 8) (yes_variable 6) (no (done 0 1)) (yes (done 0 0)) (yes (matches 0 0 1)) ((refl, refl), tt) ((refl, refl), tt) ((refl, refl), tt), tt),
                  ),
                ),
              ),
            ),
          ),
        ),
      ),
    ),
  ),
))

-- its guards are on 2, 5 and 4, and no longer on 3, which ended the chain of ea before x
abbrev assumed : List Lit
assumed = yes_variable 2 ∷ yes_variable 5 ∷ yes_variable 4 ∷ []

pub code_with_guards : IsLogCode apart with_x 1 all_names (written ++ drafted) assumed
code_with_guards = log_codes_are apart with_x 1 0 10 x_names (written ++ drafted) assumed code_of_x
    (ordered_reads all_names assumed (guard_literals apart with_x) ((refl, refl), ((refl, refl), ((refl, refl), tt))))

-- ea happens, and x stands for it
abbrev ea_is_x : ℕ → Bool
ea_is_x var = list_any (λ v. v == var) (0 ∷ 2 ∷ 4 ∷ 5 ∷ 6 ∷ 9 ∷ [])

pub ea_is_x-true : list_all (clause_true ea_is_x) (written ++ drafted) ≡ true
ea_is_x-true = refl

pub ea_is_x-guards : list_all (literal_true ea_is_x) assumed ≡ true
ea_is_x-guards = refl

-- with the guards x needs an event
abbrev nothing_happens : ℕ → Bool
nothing_happens var = list_any (λ v. v == var) (2 ∷ 4 ∷ 5 ∷ 9 ∷ [])

pub nothing_happens-false : list_all (clause_true nothing_happens) (written ++ drafted) ≡ false
nothing_happens-false = refl
