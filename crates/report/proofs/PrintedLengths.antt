-- How long replies are.
use Rattle.std.proofs.Common.{◌≡◌, ◌≤◌, ◌+◌, ◌*◌, ◌/◌, ◌%◌, ℕ, zero, suc, Bool, true, false, List, [], ◌∷◌, ◌++◌, length, Option, Some, None, IfSome, cond, arith, length-append}
use Rattle.std.proofs.lemmas.List.Elements.{All-head, All-tail}
use Rattle.std.specs.Prelude.{◌==◌, codes, flat_map, slice_index_or}
use Rattle.std.specs.Fmt.{decimal, digits, digits_onto, digit_glyph}
use Rattle.std.specs.List.{AllByRecursion}
use Rattle.des_base.specs.Names.{IsName, is_name_text}
use Rattle.des_net.specs.Network.{Net}
use Rattle.replay.specs.Matching.{name_on}
use Rattle.replay.specs.declared.run.RunStep.{RunStep}
use Rattle.replay.specs.declared.run.RunStep.TheVariants.{Happens, Dropped}
use Rattle.answers.specs.declared.found.Found.TheVariants.{Explained, Absent, Many, Undecided}
use Rattle.report.specs.Replies.{text_of_alarm, text_of_step, text_of_run, text_of_found, told_run}
use Rattle.telling.specs.Lines.{line_with_number, line_with_two_numbers}
use Rattle.report.specs.ReadBack.{HasAlarmNames, RepliesFit}
use Rattle.report.specs.VerdictTexts.{RunsFit}
use Rattle.des_base.proofs.PrintedLines.{name_text}
use Rattle.replay.specs.declared.TheConstants.{MOST_RUN_STEPS}
use Rattle.std.specs.Option.{option_map_or}
use Rattle.des_net.specs.Building.{IsDraft}
use Rattle.answers.specs.declared.found.Found.{Found}

-- the steps of the run that an answer has, or none
abbrev pub told_steps : Found → List RunStep
told_steps found = option_map_or (λ best. best.run) (told_run found) []

-- A reply has at most 130 bytes for each step of its run, and 209 before them.
abbrev pub RepliesAreShort : Type 0
RepliesAreShort = (net : Net) (n : ℕ) (found : Found) → IsDraft net → HasAlarmNames (told_steps found) → length (text_of_found net n found) ≤ 130 * length (told_steps found) + 209

-- ---- numbers and names

either_short : (b : Bool) (xs ys : List ℕ) (most : ℕ) → length xs ≤ most → length ys ≤ most → length (cond b xs ys) ≤ most
either_short true xs ys most h k = h
either_short false xs ys most h k = k

digits_onto-length : (k n : ℕ) (behind : List ℕ) → length (digits_onto k 10 false n behind) ≤ k + length behind
digits_onto-length zero n behind = omega arith
digits_onto-length (suc k) n behind =
    let more = digit_glyph false (n % 10) ∷ behind in
    either_short (n / 10 == 0) more (digits_onto k 10 false (n / 10) more) (suc k + length behind) (omega arith)
    (let rest : length (digits_onto k 10 false (n / 10) more) ≤ k + suc (length behind) = digits_onto-length k (n / 10) more in omega arith)

-- no number has more digits
decimal-length : (n : ℕ) → length (decimal n) ≤ 64
unfolding digits
decimal-length n = let most : length (digits_onto 64 10 false n []) ≤ 64 + 0 = digits_onto-length 64 n [] in omega arith

name-length : (name : List ℕ) → is_name_text name ≡ true → length name ≤ 64
name-length name h = (name_text name h).few

name_at-length : (names : List (List ℕ)) (k : ℕ) → AllByRecursion IsName names → length (slice_index_or names k []) ≤ 64
name_at-length [] k h = omega arith
name_at-length (name ∷ names) zero h = name-length name h.0
name_at-length (name ∷ names) (suc k) h = name_at-length names k h.1

-- ---- lines

line_with_number-length : (words : List ℕ) (n : ℕ) → length (line_with_number words n) ≤ length words + 65
line_with_number-length words n = omega (arith, length-append (words ++ decimal n) (10 ∷ []), length-append words (decimal n), decimal-length n)

line_with_two_numbers-length : (words : List ℕ) (first second : ℕ) → length (line_with_two_numbers words first second) ≤ length words + 130
line_with_two_numbers-length words first second =
    omega (arith, length-append (words ++ decimal first ++ 32 ∷ decimal second) (10 ∷ []), length-append (words ++ decimal first) (32 ∷ decimal second), length-append words (decimal first), decimal-length first, decimal-length second)

alarm-length : (alarm : Option (List ℕ)) → IfSome alarm IsName → length (text_of_alarm alarm) ≤ 65
alarm-length None h = omega arith
alarm-length (Some name) h = omega (arith, name-length name h)

step-length : (net : Net) (step : RunStep) → AllByRecursion IsName net.event_names → IfSome (name_on step) IsName → length (text_of_step net step) ≤ 130
step-length net (Happens event alarm) names h =
    let name = slice_index_or net.event_names event [] in
    omega (arith, length-append (name ++ text_of_alarm alarm) (10 ∷ []), length-append name (text_of_alarm alarm), name_at-length net.event_names event names, alarm-length alarm h)
step-length net (Dropped alarm) names h = omega (arith, length-append (codes "! " ++ alarm) (10 ∷ []), length-append (codes "! ") alarm, name-length alarm h)

steps-length : (net : Net) (steps : List RunStep) → AllByRecursion IsName net.event_names → HasAlarmNames steps → length (flat_map (text_of_step net) steps) ≤ 130 * length steps
steps-length net [] names h = omega arith
steps-length net (step ∷ steps) names h =
    omega (
      arith,
      length-append (text_of_step net step) (flat_map (text_of_step net) steps),
      step-length net step names (All-head (λ (s : RunStep). IfSome (name_on s) IsName) step steps h),
      steps-length net steps names (All-tail (λ (s : RunStep). IfSome (name_on s) IsName) step steps h),
    )

run-length : (net : Net) (steps : List RunStep) → AllByRecursion IsName net.event_names → HasAlarmNames steps → length (text_of_run net steps) ≤ 130 * length steps + 69
run-length net steps names h =
    omega (arith, length-append (line_with_number (codes "run ") (length steps)) (flat_map (text_of_step net) steps), line_with_number-length (codes "run ") (length steps), steps-length net steps names h)

-- ---- replies

behind_line : (net : Net) (line : List ℕ) (steps : List RunStep) → length line ≤ 140 → AllByRecursion IsName net.event_names → HasAlarmNames steps → length (line ++ text_of_run net steps) ≤ 130 * length steps + 209
behind_line net line steps short names h = omega (arith, length-append line (text_of_run net steps), run-length net steps names h)

unknown-length : (lo : ℕ) → length (codes "UNDECIDED " ++ decimal lo ++ codes " -\n") ≤ 209
unknown-length lo = omega (arith, length-append (codes "UNDECIDED " ++ decimal lo) (codes " -\n"), length-append (codes "UNDECIDED ") (decimal lo), decimal-length lo)

pub replies_are_short : RepliesAreShort
replies_are_short net n (Explained best) whole h = behind_line net (line_with_number (codes "EXPLAINED ") best.faults) best.run (omega (arith, line_with_number-length (codes "EXPLAINED ") best.faults)) whole.event_names.each h
replies_are_short net n Absent whole h = omega (arith, line_with_number-length (codes "NONE ") n)
replies_are_short net n (Many best) whole h = behind_line net (codes "MANY 255\n") best.run (omega arith) whole.event_names.each h
replies_are_short net n (Undecided lo None) whole h = omega (arith, unknown-length lo)
replies_are_short net n (Undecided lo (Some best)) whole h = behind_line net (line_with_two_numbers (codes "UNDECIDED ") lo best.faults) best.run (omega (arith, line_with_two_numbers-length (codes "UNDECIDED ") lo best.faults)) whole.event_names.each h

short_enough : (bytes steps : ℕ) → bytes ≤ 130 * steps + 209 → steps ≤ MOST_RUN_STEPS → bytes ≤ 536870912
short_enough bytes steps short few = omega arith

pub replies_fit : RepliesFit
replies_fit net n (Explained best) whole = λ h. short_enough _ (length best.run) (replies_are_short net n (Explained best) whole h.named) h.few
replies_fit net n Absent whole = tt
replies_fit net n (Many best) whole = λ h. short_enough _ (length best.run) (replies_are_short net n (Many best) whole h.named) h.few
replies_fit net n (Undecided lo None) whole = tt
replies_fit net n (Undecided lo (Some best)) whole = λ h. short_enough _ (length best.run) (replies_are_short net n (Undecided lo (Some best)) whole h.named) h.few

pub runs_fit : RunsFit
runs_fit net steps whole h = let short = run-length net steps whole.event_names.each h.named in let few = h.few in omega (arith, short, few)
