-- The lines of a run as it is printed, and what is read of them.
use Rattle.std.proofs.Common.{◌≡◌, ◌<◌, ◌≤◌, ◌+◌, ◌-◌, ◌^◌, ℕ, suc, Bool, true, false, not, List, [], ◌∷◌, ◌++◌, length, Option, Some, None, IfSome, is_none, cond, refl, arith, ap, ◌∙◌, append_assoc, append-nil, sub-one}
use Rattle.std.proofs.lemmas.Bool.Decides.{nat_tests}
use Rattle.std.proofs.lemmas.List.Elements.{All-head, All-tail}
use Rattle.std.specs.Prelude.{◌&&◌, ◌||◌, nat_lt, nat_le, All, codes, flat_map, slice_index_or, option_map, ⊤}
use Rattle.std.specs.Fmt.{decimal}
use Rattle.std.specs.List.{list_all, cons_option}
use Rattle.std.specs.Option.{option_or}
use Rattle.des_base.proofs.BoolLemmas.{join, is_most}
use Rattle.des_base.proofs.LawLemmas.{numbers_are_decimal}
use Rattle.des_base.proofs.PrintedLines.{line_byte, IsWord, IsNameText, counted_from-line, name_text, name_word, tokens_of-word, tokens_of-last, word_in_line, word_before}
use Rattle.des_base.specs.CountedLines.{NumberedLine, numbered, counted_from, is_counted, tokens_of}
use Rattle.des_base.specs.Names.{AreNames, IsName, is_name_text, place_of}
use Rattle.des_base.specs.Numbers.{up_to}
use Rattle.des_net.specs.Network.{Net}
use Rattle.replay.specs.Matching.{name_on}
use Rattle.replay.specs.RunText.{stated_length, is_false_alarm_mark, step_words, names_in, knows_event, step_code, run_fault_at, first_fault_in, shortage, fault_of_steps, step_of, steps_of}
use Rattle.replay.specs.Traced.{word_of}
use Rattle.replay.specs.declared.run.RunStep.{RunStep}
use Rattle.replay.specs.declared.run.RunStep.TheVariants.{Happens, Dropped}
use Rattle.replay.specs.declared.run_text.RunFault.{RunFault}
use Rattle.report.specs.Replies.{text_of_alarm, text_of_step, text_of_run}
use Rattle.report.specs.ReadBack.{HasAlarmNames}
use Rattle.report.proofs.DecimalWords.{decimal_bytes, decimal_word}
use Rattle.report.proofs.NameWords.{no_mark, name_counts, name_at, own_place}
use Rattle.replay.specs.declared.TheConstants.{MOST_RUN_STEPS}

-- a line, its end, and what follows it
pub end_of_line : (line rest : List ℕ) → (line ++ 10 ∷ []) ++ rest ≡ line ++ 10 ∷ rest
end_of_line line rest = append_assoc line (10 ∷ []) rest

-- ---- the line of a step

-- the name of its event, and that of its alarm
abbrev alarm_words : Option (List ℕ) → List (List ℕ)
alarm_words None = []
alarm_words (Some name) = name ∷ []

-- what is read of a line with these words
record LineReads (line : List ℕ) (words : List (List ℕ)) : Type 0 where
  bytes : list_all line_byte line ≡ true
  counts : is_counted 35 line ≡ true
  tokens : tokens_of line ≡ words

event_alone : (event : List ℕ) → IsNameText event → LineReads (event ++ text_of_alarm None) (event ∷ [])
event_alone event h =
    let word = name_word event h in
    record {
      bytes = ap (list_all line_byte) (append-nil event) ∙ word_in_line event word.bytes;
      counts = name_counts event [] h;
      tokens = ap tokens_of (append-nil event) ∙ tokens_of-last event word;
    }

with_alarm : (event alarm : List ℕ) → IsNameText event → IsNameText alarm → LineReads (event ++ text_of_alarm (Some alarm)) (event ∷ alarm ∷ [])
with_alarm event alarm h k =
    let word = name_word event h in
    let other = name_word alarm k in
    record {
      bytes = word_before event alarm word.bytes (word_in_line alarm other.bytes);
      counts = name_counts event (32 ∷ alarm) h;
      tokens = tokens_of-word event alarm word ∙ ap (λ words. event ∷ words) (tokens_of-last alarm other);
    }

line_reads : (event : List ℕ) (alarm : Option (List ℕ)) → is_name_text event ≡ true → IfSome alarm IsName → LineReads (event ++ text_of_alarm alarm) (event ∷ alarm_words alarm)
line_reads event None h k = event_alone event (name_text event h)
line_reads event (Some alarm) h k = with_alarm event alarm (name_text event h) (name_text alarm k)

mark_word : IsWord (codes "!")
mark_word = record { some = omega arith; bytes = refl }

-- a mark and the name of a false alarm
false_reads : (alarm : List ℕ) → IsNameText alarm → LineReads (codes "! " ++ alarm) (codes "!" ∷ alarm ∷ [])
false_reads alarm k =
    let other = name_word alarm k in
    record {
      bytes = word_before (codes "!") alarm mark_word.bytes (word_in_line alarm other.bytes);
      counts = refl;
      tokens = tokens_of-word (codes "!") alarm mark_word ∙ ap (λ words. codes "!" ∷ words) (tokens_of-last alarm other);
    }

-- ---- a step's words

no_code : (a b c d : Bool) → a ≡ false → b ≡ false → c ≡ true → d ≡ true → ◌≡◌ {A = Option ℕ} (cond a (Some 4) (cond b (Some 2) (cond (not c) (Some 3) (cond (not d) (Some 5) None)))) None
no_code a b c d h1 h2 h3 h4 = rw (h1, h2, h3, h4) refl

some_left : (left : ℕ) → 0 < left → nat_le left 0 ≡ false
some_left left h = grind (arith, nat_tests)

two_words : (event : List ℕ) (alarm : Option (List ℕ)) → is_false_alarm_mark event ≡ false → is_none (step_words (event ∷ alarm_words alarm)) ≡ false
two_words event None unmarked = ap (λ b. is_none {T = List ℕ × Option (List ℕ)} (cond b None (Some (event, None)))) unmarked
two_words event (Some alarm) unmarked = refl

names_all : (event : List ℕ) (alarm : Option (List ℕ)) → is_name_text event ≡ true → IfSome alarm IsName → list_all is_name_text (event ∷ alarm_words alarm) ≡ true
names_all event None h k = join (is_name_text event) true h refl
names_all event (Some alarm) h k = join (is_name_text event) (is_name_text alarm && true) h (join (is_name_text alarm) true k refl)

step_has_no_code : (net : Net) (left at : ℕ) (event : List ℕ) (alarm : Option (List ℕ)) → 0 < left → is_name_text event ≡ true → IfSome alarm IsName → place_of event net.event_names ≡ Some at
    → step_code net left (event ∷ alarm_words alarm) ≡ None
step_has_no_code net left at event alarm some name named place =
    let words = event ∷ alarm_words alarm in
    let unmarked = no_mark event name in
    no_code (nat_le left 0) (is_none (step_words words)) (list_all is_name_text (names_in words)) (knows_event net words)
    (some_left left some) (two_words event alarm unmarked)
    (ap (λ b. list_all is_name_text (cond b (alarm_words alarm) words)) unmarked ∙ names_all event alarm name named)
    (ap (λ b. b || not (is_none (place_of event net.event_names))) unmarked ∙ ap (λ o. not (is_none o)) place)

step_said : (net : Net) (at : ℕ) (event : List ℕ) (alarm : Option (List ℕ)) → is_name_text event ≡ true → place_of event net.event_names ≡ Some at → step_of net (event ∷ alarm_words alarm) ≡ Some (Happens at alarm)
step_said net at event None name place = ap (option_map (λ e. Happens e None)) place
step_said net at event (Some alarm) name place =
    ap (λ b. cond b (Some (Dropped alarm)) (option_map (λ e. Happens e (Some alarm)) (place_of event net.event_names))) (no_mark event name) ∙ ap (option_map (λ e. Happens e (Some alarm))) place

false_has_no_code : (net : Net) (left : ℕ) (alarm : List ℕ) → 0 < left → is_name_text alarm ≡ true → step_code net left (codes "!" ∷ alarm ∷ []) ≡ None
false_has_no_code net left alarm some name = no_code (nat_le left 0) false (list_all is_name_text (alarm ∷ [])) true (some_left left some) refl (join (is_name_text alarm) true name refl) refl

-- ---- the lines of the steps

abbrev pub name_of : Net → ℕ → List ℕ
name_of net event = slice_index_or net.event_names event []

abbrev pub line_of_step : Net → RunStep → List ℕ
line_of_step net (Happens event alarm) = name_of net event ++ text_of_alarm alarm
line_of_step net (Dropped alarm) = codes "! " ++ alarm

-- the words of its line
abbrev words_of_step : Net → RunStep → List (List ℕ)
words_of_step net (Happens event alarm) = name_of net event ∷ alarm_words alarm
words_of_step net (Dropped alarm) = codes "!" ∷ alarm ∷ []

-- an event that has this name, and whose alarm has one
pub record IsNamedEvent (net : Net) (event : ℕ) (alarm : Option (List ℕ)) : Type 0 where
  pub name : is_name_text (name_of net event) ≡ true
  pub place : place_of (name_of net event) net.event_names ≡ Some event
  pub named : IfSome alarm IsName

-- such a step, or a false alarm that has a name
abbrev pub IsNamed : Net → RunStep → Type 0
IsNamed net (Happens event alarm) = IsNamedEvent net event alarm
IsNamed net (Dropped alarm) = is_name_text alarm ≡ true

abbrev pub AreNamed : Net → List RunStep → Type 0
AreNamed net [] = ⊤
AreNamed net (step ∷ steps) = IsNamed net step × AreNamed net steps

pub are_named : (net : Net) (steps : List RunStep) → AreNames net.event_names → length net.event_names ≡ length net.events → All (λ e. e < length net.events) (word_of steps) → HasAlarmNames steps
    → AreNamed net steps
are_named net [] names called known named = tt
are_named net (Happens event alarm ∷ steps) names called known named =
    let here : event < length net.event_names = let within = All-head (λ (e : ℕ). e < length net.events) event (word_of steps) known in omega (arith, called) in (
      record {
        name = name_at net.event_names event names.each here;
        place = own_place net.event_names event names.distinct here;
        named = All-head (λ (s : RunStep). IfSome (name_on s) IsName) (Happens event alarm) steps named;
      },
      are_named net steps names called (All-tail (λ (e : ℕ). e < length net.events) event (word_of steps) known) (All-tail (λ (s : RunStep). IfSome (name_on s) IsName) (Happens event alarm) steps named),
    )
are_named net (Dropped alarm ∷ steps) names called known named = (
  All-head (λ (s : RunStep). IfSome (name_on s) IsName) (Dropped alarm) steps named,
  are_named net steps names called known (All-tail (λ (s : RunStep). IfSome (name_on s) IsName) (Dropped alarm) steps named),
)

pub step_lines : Net → ℕ → List RunStep → List NumberedLine
step_lines net n [] = []
step_lines net n (step ∷ steps) = numbered n (line_of_step net step) ∷ step_lines net (n + 1) steps

named_reads : (net : Net) (step : RunStep) → IsNamed net step → LineReads (line_of_step net step) (words_of_step net step)
named_reads net (Happens event alarm) h = line_reads (name_of net event) alarm h.name h.named
named_reads net (Dropped alarm) h = false_reads alarm (name_text alarm h)

named_has_no_code : (net : Net) (left : ℕ) (step : RunStep) → 0 < left → IsNamed net step → step_code net left (words_of_step net step) ≡ None
named_has_no_code net left (Happens event alarm) some h = step_has_no_code net left event (name_of net event) alarm some h.name h.named h.place
named_has_no_code net left (Dropped alarm) some h = false_has_no_code net left alarm some h

named_said : (net : Net) (step : RunStep) → IsNamed net step → step_of net (words_of_step net step) ≡ Some step
named_said net (Happens event alarm) h = step_said net event (name_of net event) alarm h.name h.place
named_said net (Dropped alarm) h = refl

text_is_line : (net : Net) (step : RunStep) → text_of_step net step ≡ line_of_step net step ++ 10 ∷ []
text_is_line net (Happens event alarm) = refl
text_is_line net (Dropped alarm) = refl

pub counted_from-steps : (net : Net) (n : ℕ) (steps : List RunStep) → AreNamed net steps → counted_from 35 n (flat_map (text_of_step net) steps) ≡ step_lines net n steps
unfolding step_lines
counted_from-steps net n [] h = refl
counted_from-steps net n (step ∷ steps) h =
    let reads = named_reads net step h.0 in
    let rest = flat_map (text_of_step net) steps in
    ap (counted_from 35 n) (ap (λ text. text ++ rest) (text_is_line net step) ∙ end_of_line (line_of_step net step) rest)
    ∙ counted_from-line 35 n (line_of_step net step) rest reads.bytes reads.counts
    ∙ ap (λ lines. numbered n (line_of_step net step) ∷ lines) (counted_from-steps net (n + 1) steps h.1)

step_lines-length : (net : Net) (n : ℕ) (steps : List RunStep) → length (step_lines net n steps) ≡ length steps
unfolding step_lines
step_lines-length net n [] = refl
step_lines-length net n (step ∷ steps) = ap suc (step_lines-length net (n + 1) steps)

no_fault_in : (net : Net) (n : ℕ) (steps : List RunStep) → AreNamed net steps → first_fault_in net (length steps) (step_lines net n steps) ≡ None
unfolding step_lines
no_fault_in net n [] h = refl
no_fault_in net n (step ∷ steps) h =
    let reads = named_reads net step h.0 in
    let later = first_fault_in net (suc (length steps) - 1) (step_lines net (n + 1) steps) in
    ap (λ words. option_or (run_fault_at n (step_code net (suc (length steps)) words)) later) reads.tokens
    ∙ ap (λ code. option_or (run_fault_at n code) later) (named_has_no_code net (suc (length steps)) step (omega arith) h.0)
    ∙ ap (λ left. first_fault_in net left (step_lines net (n + 1) steps)) (sub-one (suc (length steps)))
    ∙ no_fault_in net (n + 1) steps h.1

nothing_short : (end stated found : ℕ) → found ≡ stated → shortage end stated found ≡ None
nothing_short end stated found h = let enough : nat_lt found stated ≡ false = grind (arith, nat_tests) in rw enough refl

pub no_fault_of_steps : (net : Net) (end number n : ℕ) (steps : List RunStep) → AreNamed net steps → fault_of_steps net end number (Some (length steps)) (step_lines net n steps) ≡ None
no_fault_of_steps net end number n steps h =
    ap (λ (fault : Option RunFault). option_or fault (shortage end (length steps) (length (step_lines net n steps)))) (no_fault_in net n steps h)
    ∙ nothing_short end (length steps) (length (step_lines net n steps)) (step_lines-length net n steps)

pub steps_of-lines : (net : Net) (n : ℕ) (steps : List RunStep) → AreNamed net steps → steps_of net (step_lines net n steps) ≡ steps
unfolding step_lines
steps_of-lines net n [] h = refl
steps_of-lines net n (step ∷ steps) h =
    let reads = named_reads net step h.0 in
    let later = steps_of net (step_lines net (n + 1) steps) in
    ap (λ words. cons_option (step_of net words) later) reads.tokens
    ∙ ap (λ said. cons_option said later) (named_said net step h.0)
    ∙ ap (λ said. step ∷ said) (steps_of-lines net (n + 1) steps h.1)

-- ---- the header

abbrev pub run_line : ℕ → List ℕ
run_line count = codes "run " ++ decimal count

run_word : IsWord (codes "run")
run_word = record { some = omega arith; bytes = refl }

small : (count : ℕ) → count ≤ MOST_RUN_STEPS → count < 2 ^ 64
small count few = omega arith

pub run_line-tokens : (count : ℕ) → count ≤ MOST_RUN_STEPS → tokens_of (run_line count) ≡ codes "run" ∷ decimal count ∷ []
run_line-tokens count few = tokens_of-word (codes "run") (decimal count) run_word ∙ ap (λ words. codes "run" ∷ words) (tokens_of-last (decimal count) (decimal_word count (small count few)))

number_in_limits : (b : Bool) (count : ℕ) → b ≡ true → cond b (Some count) None ≡ Some count
number_in_limits true count h = refl
number_in_limits false count h = cc

pub run_line-length : (count : ℕ) → count ≤ MOST_RUN_STEPS → stated_length (tokens_of (run_line count)) ≡ Some count
run_line-length count few =
    ap stated_length (run_line-tokens count few)
    ∙ ap (up_to MOST_RUN_STEPS) ((numbers_are_decimal count (decimal count) (small count few)).1 refl)
    ∙ number_in_limits (nat_le count MOST_RUN_STEPS) count (is_most count MOST_RUN_STEPS few)

-- the lines of the text of a run
pub counted_from-run : (net : Net) (n : ℕ) (steps : List RunStep) → AreNamed net steps → counted_from 35 n (text_of_run net steps) ≡ numbered n (run_line (length steps)) ∷ step_lines net (n + 1) steps
counted_from-run net n steps h =
    let rest = flat_map (text_of_step net) steps in
    ap (counted_from 35 n) (end_of_line (run_line (length steps)) rest)
    ∙ counted_from-line 35 n (run_line (length steps)) rest (word_before (codes "run") (decimal (length steps)) run_word.bytes (word_in_line (decimal (length steps)) (decimal_bytes (length steps)))) refl
    ∙ ap (λ lines. numbered n (run_line (length steps)) ∷ lines) (counted_from-steps net (n + 1) steps h)
