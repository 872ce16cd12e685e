-- A printed line is cut into its tokens again, and says what it was printed for.
use Rattle.std.proofs.Common.{◌≡◌, ◌<◌, ◌+◌, ℕ, Bool, true, false, List, [], ◌∷◌, ◌++◌, length, map, Option, None, Some, refl, arith, ap, sym, ◌∙◌, subst, append_assoc}
use Rattle.std.proofs.lemmas.Bool.Decides.{nat_tests}
use Rattle.std.proofs.lemmas.List.Elements.{All-nil, All-cons}
use Rattle.std.proofs.lemmas.List.Splits.{slice_split_at, slice_split_none}
use Rattle.std.proofs.lemmas.List.Folds.{list_all-append}
use Rattle.std.specs.Prelude.{◌&&◌, ◌==◌, nat_lt, All, codes, option_and_then, option_map}
use Rattle.std.specs.List.{join_with_byte, list_all}
use Rattle.std.specs.Option.{option_to_list}
use Rattle.des_base.proofs.BoolLemmas.{both, join}
use Rattle.des_base.proofs.PrintedLines.{word_byte, line_byte, IsWord, AreWords, AreWords-append, tokens_of-word, tokens_of-last, word_in_line, counted_from-line, name_text, name_word}
use Rattle.des_base.specs.CountedLines.{NumberedLine, numbered, counted_from, is_counted, tokens_of}
use Rattle.des_base.specs.Names.{is_name_byte, is_name_text}
use Rattle.model_text.specs.ModelLines.{ModelLine, component, state, transition, event, NamedPart, after_flags, event_line, model_line, part_of_pieces, part_of_token, parts_of_tokens}
use Rattle.model_text.specs.ModelFaults.{names_of_line}
use Rattle.model_text.specs.PrintedModel.{fault_tokens, label_tokens, line_text, mark_tokens, part_token, tokens_of_line}
use Rattle.model_text.proofs.DraftSteps.{HasParts}

-- ---- words

-- words with single spaces between them are cut into the words
tokens_of-joined : (words : List (List ℕ)) → AreWords words → tokens_of (join_with_byte 32 words) ≡ words
tokens_of-joined [] h = refl
tokens_of-joined (word ∷ []) h = tokens_of-last word h.0
tokens_of-joined (word ∷ next ∷ words) h = tokens_of-word word (join_with_byte 32 (next ∷ words)) h.0 ∙ ap (λ ts. word ∷ ts) (tokens_of-joined (next ∷ words) h.1)

-- ---- lines

joined_bytes : (words : List (List ℕ)) → AreWords words → list_all line_byte (join_with_byte 32 words) ≡ true
joined_bytes [] h = refl
joined_bytes (word ∷ []) h = word_in_line word h.0.bytes
joined_bytes (word ∷ next ∷ words) h =
    list_all-append line_byte word (32 ∷ join_with_byte 32 (next ∷ words))
    ∙ join (list_all line_byte word) (list_all line_byte (32 ∷ join_with_byte 32 (next ∷ words))) (word_in_line word h.0.bytes) (joined_bytes (next ∷ words) h.1)

-- ---- names

named_word : (text : List ℕ) → is_name_text text ≡ true → IsWord text
named_word text h = name_word text (name_text text h)

no_dot_byte : (c : ℕ) → is_name_byte c ≡ true → (c == 46) ≡ false
unfolding is_name_byte
no_dot_byte c h = grind (arith, nat_tests)

no_dot : (text : List ℕ) → list_all is_name_byte text ≡ true → All (λ byte. (byte == 46) ≡ false) text
no_dot [] h = All-nil (λ byte. (byte == 46) ≡ false)
no_dot (c ∷ cs) h = let parts = both (is_name_byte c) (list_all is_name_byte cs) h in All-cons (λ byte. (byte == 46) ≡ false) c cs (no_dot_byte c parts.0) (no_dot cs parts.1)

-- ---- parts

part_said : (p : NamedPart) → is_name_text p.component ≡ true → is_name_text p.action ≡ true → part_of_token (part_token p) ≡ Some p
part_said p h k =
    ap part_of_token (append_assoc p.component (46 ∷ []) p.action)
    ∙ ap part_of_pieces (slice_split_at (λ byte. byte == 46) p.component 46 p.action (no_dot p.component (name_text p.component h).bytes) refl
    ∙ ap (λ ps. p.component ∷ ps) (slice_split_none (λ byte. byte == 46) p.action (no_dot p.action (name_text p.action k).bytes)))

part_word : (p : NamedPart) → is_name_text p.component ≡ true → is_name_text p.action ≡ true → IsWord (part_token p)
part_word p h k =
    let c = named_word p.component h in
    let a = named_word p.action k in
    let bytes : list_all word_byte (p.component ++ (46 ∷ p.action)) ≡ true = list_all-append word_byte p.component (46 ∷ p.action) ∙ join (list_all word_byte p.component) (list_all word_byte (46 ∷ p.action)) c.bytes a.bytes in
    subst IsWord (sym (append_assoc p.component (46 ∷ []) p.action)) (record { some = longer p.component (46 ∷ p.action) c.some; bytes = bytes })
  where
    longer : (xs ys : List ℕ) → 0 < length xs → 0 < length (xs ++ ys)
    longer [] ys h = absurd (omega arith)
    longer (x ∷ xs) ys h = omega arith

abbrev components_of : List NamedPart → List (List ℕ)
components_of parts = map (λ p. p.component) parts

abbrev actions_of : List NamedPart → List (List ℕ)
actions_of parts = map (λ p. p.action) parts

all_join : (o : Option NamedPart) (r : Option (List NamedPart)) (p : NamedPart) (ps : List NamedPart) → o ≡ Some p → r ≡ Some ps → option_and_then (λ y. option_map (λ ys. y ∷ ys) r) o ≡ Some (p ∷ ps)
all_join o r p ps h k = rw (h, k) refl

parts_said : (parts : List NamedPart) → list_all is_name_text (components_of parts) ≡ true → list_all is_name_text (actions_of parts) ≡ true → parts_of_tokens (map part_token parts) ≡ Some parts
parts_said [] h k = refl
parts_said (p ∷ ps) h k =
    let c = both (is_name_text p.component) (list_all is_name_text (components_of ps)) h in
    let a = both (is_name_text p.action) (list_all is_name_text (actions_of ps)) k in
    all_join (part_of_token (part_token p)) (parts_of_tokens (map part_token ps)) p ps (part_said p c.0 a.0) (parts_said ps c.1 a.1)

part_words : (parts : List NamedPart) → list_all is_name_text (components_of parts) ≡ true → list_all is_name_text (actions_of parts) ≡ true → AreWords (map part_token parts)
part_words [] h k = tt
part_words (p ∷ ps) h k =
    let c = both (is_name_text p.component) (list_all is_name_text (components_of ps)) h in
    let a = both (is_name_text p.action) (list_all is_name_text (actions_of ps)) k in
    (part_word p c.0 a.0, part_words ps c.1 a.1)

-- ---- what a line says

record EventNames (text : List ℕ) (shown : Option (List ℕ)) (parts : List NamedPart) : Type 0 where
  name : is_name_text text ≡ true
  label : list_all is_name_text (option_to_list shown) ≡ true
  components : list_all is_name_text (components_of parts) ≡ true
  actions : list_all is_name_text (actions_of parts) ≡ true

event_names : (name : List ℕ) (label : Option (List ℕ)) (fault : Bool) (parts : List NamedPart) → list_all is_name_text (names_of_line (event name label fault parts)) ≡ true → EventNames name label parts
event_names name label fault parts h =
    let front = name ∷ option_to_list label in
    let a = both (list_all is_name_text (front ++ components_of parts)) (list_all is_name_text (actions_of parts)) (sym (list_all-append is_name_text (front ++ components_of parts) (actions_of parts)) ∙ h) in
    let b = both (list_all is_name_text front) (list_all is_name_text (components_of parts)) (sym (list_all-append is_name_text front (components_of parts)) ∙ a.0) in
    let c = both (is_name_text name) (list_all is_name_text (option_to_list label)) b.0 in
    record { name = c.0; label = c.1; components = b.1; actions = a.1 }

one_name : (text : List ℕ) → (is_name_text text && true) ≡ true → is_name_text text ≡ true
one_name text h = (both (is_name_text text) true h).0

keyword_word : (word : List ℕ) → nat_lt 0 (length word) ≡ true → list_all word_byte word ≡ true → IsWord word
keyword_word word h k = record { some = grind (arith, nat_tests); bytes = k }

mark_words : (initial : Bool) → AreWords (mark_tokens initial)
mark_words false = tt
mark_words true = (keyword_word (codes "init") refl refl, tt)

label_words : (label : Option (List ℕ)) → list_all is_name_text (option_to_list label) ≡ true → AreWords (label_tokens label)
label_words None h = tt
label_words (Some label) h = (keyword_word (codes "alarm") refl refl, (named_word label (one_name label h), tt))

fault_words : (fault : Bool) → AreWords (fault_tokens fault)
fault_words false = tt
fault_words true = (keyword_word (codes "fault") refl refl, tt)

line_words : (line : ModelLine) → list_all is_name_text (names_of_line line) ≡ true → AreWords (tokens_of_line line)
line_words (component name) h = (keyword_word (codes "component") refl refl, (named_word name (one_name name h), tt))
line_words (state name initial) h = (keyword_word (codes "state") refl refl, (named_word name (one_name name h), mark_words initial))
line_words (transition from action to) h =
    let a = both (is_name_text from) (is_name_text action && (is_name_text to && true)) h in
    let b = both (is_name_text action) (is_name_text to && true) a.1 in
    (keyword_word (codes "trans") refl refl, (named_word from a.0, (named_word action b.0, (named_word to (one_name to b.1), tt))))
line_words (event name label fault parts) h =
    let n = event_names name label fault parts h in (
      keyword_word (codes "event") refl refl,
      (
        named_word name n.name,
        AreWords-append (label_tokens label) (fault_tokens fault ++ codes ":" ∷ map part_token parts) (label_words label n.label)
            (AreWords-append (fault_tokens fault) (codes ":" ∷ map part_token parts) (fault_words fault) (keyword_word (codes ":") refl refl, part_words parts n.components n.actions)),
      ),
    )

-- the colon and some parts
flags_said : (name : List ℕ) (label : Option (List ℕ)) (fault : Bool) (parts : List NamedPart) → 0 < length parts → parts_of_tokens (map part_token parts) ≡ Some parts
    → after_flags name label fault (codes ":" ∷ map part_token parts) ≡ Some (event name label fault parts)
flags_said name label fault [] some h = absurd (omega arith)
flags_said name label fault (p ∷ ps) some h = ap (option_map (λ named. event name label fault named)) h

event_said : (name : List ℕ) (label : Option (List ℕ)) (fault : Bool) (parts : List NamedPart) → 0 < length parts → parts_of_tokens (map part_token parts) ≡ Some parts
    → event_line (name ∷ label_tokens label ++ (fault_tokens fault ++ codes ":" ∷ map part_token parts)) ≡ Some (event name label fault parts)
event_said name None false [] some h = absurd (omega arith)
event_said name None false (p ∷ ps) some h = flags_said name None false (p ∷ ps) some h
event_said name None true parts some h = flags_said name None true parts some h
event_said name (Some label) false parts some h = flags_said name (Some label) false parts some h
event_said name (Some label) true parts some h = flags_said name (Some label) true parts some h

line_said : (line : ModelLine) → HasParts line → list_all is_name_text (names_of_line line) ≡ true → model_line (tokens_of_line line) ≡ Some line
line_said (component name) some h = refl
line_said (state name true) some h = refl
line_said (state name false) some h = refl
line_said (transition from action to) some h = refl
line_said (event name label fault parts) some h = let n = event_names name label fault parts h in event_said name label fault parts some (parts_said parts n.components n.actions)

more_counts : (first : List ℕ) (words : List (List ℕ)) → ((rest : List ℕ) → is_counted 35 (first ++ rest) ≡ true) → is_counted 35 first ≡ true → is_counted 35 (join_with_byte 32 (first ∷ words)) ≡ true
more_counts first [] h k = k
more_counts first (word ∷ words) h k = h (32 ∷ join_with_byte 32 (word ∷ words))

line_counts : (line : ModelLine) → is_counted 35 (join_with_byte 32 (tokens_of_line line)) ≡ true
line_counts (component name) = more_counts (codes "component") (name ∷ []) (λ rest. refl) refl
line_counts (state name initial) = more_counts (codes "state") (name ∷ mark_tokens initial) (λ rest. refl) refl
line_counts (transition from action to) = more_counts (codes "trans") (from ∷ action ∷ to ∷ []) (λ rest. refl) refl
line_counts (event name label fault parts) = more_counts (codes "event") (name ∷ label_tokens label ++ (fault_tokens fault ++ codes ":" ∷ map part_token parts)) (λ rest. refl) refl

-- what a line of a text says
abbrev pub Says : NumberedLine → ModelLine → Type 0
Says line said = model_line (tokens_of line.text) ≡ Some said

-- the first line of a text is the one that is printed first, and it says what it was printed for
pub printed_line : (n : ℕ) (line : ModelLine) (rest : List ℕ) → HasParts line → list_all is_name_text (names_of_line line) ≡ true
    → (counted_from 35 n (line_text line ++ rest) ≡ numbered n (join_with_byte 32 (tokens_of_line line)) ∷ counted_from 35 (n + 1) rest) × Says (numbered n (join_with_byte 32 (tokens_of_line line))) line
unfolding line_text
printed_line n line rest some h =
    let words = line_words line h in (
      ap (counted_from 35 n) (append_assoc (join_with_byte 32 (tokens_of_line line)) (10 ∷ []) rest)
          ∙ counted_from-line 35 n (join_with_byte 32 (tokens_of_line line)) rest (joined_bytes (tokens_of_line line) words) (line_counts line),
      ap model_line (tokens_of-joined (tokens_of_line line) words) ∙ line_said line some h,
    )
