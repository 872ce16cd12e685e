-- What is printed of a network that was read from a text reads back as that network.
use Rattle.std.proofs.Common.{◌≡◌, ◌<◌, ◌+◌, ℕ, Bool, true, false, cond, List, [], ◌∷◌, ◌++◌, length, Option, None, Some, refl, ap, sym, ◌∙◌, subst, append_assoc, append-nil, arith}
use Rattle.std.specs.Prelude.{⊤, codes, IsSome, bytes_eq, option_and_then, option_map, slice_index}
use Rattle.std.specs.List.{AllZip, cons_option, flat_map, list_all}
use Rattle.std.proofs.lemmas.Option.{same_Some}
use Rattle.std.specs.Option.{option_or}
use Rattle.des_base.proofs.PrintedLines.{counted_from-line}
use Rattle.des_base.specs.CountedLines.{NumberedLine, counted_from, counted_lines, numbered, tokens_of}
use Rattle.des_base.specs.Names.{is_name_text, place_by}
use Rattle.des_net.specs.Network.{Net, IsNetwork}
use Rattle.des_net.specs.Building.{IsDraft, lacks_init}
use Rattle.des_net.proofs.DraftLemmas.{IsDraft-none}
use Rattle.des_net.proofs.NetworkLemmas.{IsNetwork-from_draft}
use Rattle.model_text.specs.declared.fault.ModelFault.{ModelFault}
use Rattle.model_text.specs.declared.keyword.LineKeyword.{LineKeyword}
use Rattle.model_text.specs.declared.keyword.LineKeyword.TheVariants.{Component, State, Trans, Event}
use Rattle.model_text.specs.ModelLines.{ModelLine, component, state, transition, event, NamedPart, after_flags, after_label, after_name, component_line, event_line, is_model_header, keyword_line, line_keyword, model_line, parts_of_tokens, part_of_token, state_line, transition_line}
use Rattle.model_text.specs.ModelNetwork.{components_of, model_lines, network_of_lines}
use Rattle.model_text.specs.ModelFaults.{model_body, component_numbers, model_fault_of_lines, model_fault_or, first_model_code, first_model_fault, model_line_code, network_of, model_shape_code, start_fault, with_shape, names_of_line, is_homeless, is_double_line, has_unknown_word, is_line_past_limit}
use Rattle.model_text.specs.Growth.{grown}
use Rattle.model_text.specs.GrowthLaw.{Grows, HasNames}
use Rattle.model_text.specs.PrintedModel.{line_text, lines_of_network}
use Rattle.model_text.specs.ReadBack.{IsAsRead, ModelsReadBack, ReadsBack}
use Rattle.model_text.proofs.CodeLemmas.{outcome}
use Rattle.model_text.proofs.DraftSteps.{HasParts, IsDraft-grown}
use Rattle.model_text.proofs.HasNamesLemmas.{HasNames-grown, HasNames-none}
use Rattle.model_text.proofs.LawLemmas.{lines_grow}
use Rattle.model_text.proofs.PrintedGrowth.{AllGrow, network_grows}
use Rattle.model_text.proofs.PrintedWords.{Says, printed_line}
use Rattle.model_text.proofs.ReadOrder.{IsAsRead-grown, IsAsRead-none}

-- ---- the printed lines have no code

abbrev AreWell : (earlier lines : List ModelLine) → Type 0
AreWell earlier [] = ⊤
AreWell earlier (line ∷ lines) = (model_line_code earlier line ≡ None) × HasParts line × AreWell (earlier ++ line ∷ []) lines

record Adds (earlier lines : List ModelLine) (last : Net) : Type 0 where
  well : AreWell earlier lines
  network : network_of_lines (earlier ++ lines) ≡ last

all_well : (earlier lines : List ModelLine) (last : Net) → IsDraft (network_of_lines earlier) → HasNames (network_of_lines earlier) → AllGrow (network_of_lines earlier) lines last → Adds earlier lines last
all_well earlier [] last d n g = record { well = tt; network = ap network_of_lines (append-nil earlier) ∙ g }
all_well earlier (line ∷ lines) last d n g =
    let law : Grows earlier line g.0 = lines_grow.grows earlier line g.0 d n g.1 in
    let same = sym law.network in
    let rest = all_well (earlier ++ line ∷ []) lines last (subst IsDraft same (IsDraft-grown (network_of_lines earlier) line g.0 d g.2 g.1))
    (subst HasNames same (HasNames-grown (network_of_lines earlier) line g.0 n g.1)) (subst (λ (m : Net). AllGrow m lines last) same g.3) in
    record { well = (law.well, g.2, rest.well); network = ap network_of_lines (sym (append_assoc earlier (line ∷ []) lines)) ∙ rest.network }

named_step : (homeless named double unknown past : Bool) → outcome homeless named double unknown past ≡ None → named ≡ true
named_step true named double unknown past h = cc
named_step false true double unknown past h = refl
named_step false false double unknown past h = cc

named : (earlier : List ModelLine) (line : ModelLine) → model_line_code earlier line ≡ None → list_all is_name_text (names_of_line line) ≡ true
named earlier line h = named_step (is_homeless earlier line) (list_all is_name_text (names_of_line line)) (is_double_line earlier line) (has_unknown_word earlier line) (is_line_past_limit earlier line) h

-- ---- the printed lines are read again

lines_said : (n : ℕ) (earlier lines : List ModelLine) → AreWell earlier lines → AllZip Says (counted_from 35 n (flat_map line_text lines)) lines
lines_said n earlier [] w = tt
lines_said n earlier (line ∷ lines) w =
    let first = printed_line n line (flat_map line_text lines) w.1 (named earlier line w.0) in
    subst (λ ls. AllZip Says ls (line ∷ lines)) (sym first.0) (first.1, lines_said (n + 1) (earlier ++ line ∷ []) lines w.2)

fault_step : (number : ℕ) (code : Option ℕ) (later : Option ModelFault) → code ≡ None → later ≡ None → model_fault_or number code later ≡ None
fault_step number code later h k = rw (h, k) refl

said_well : (earlier : List ModelLine) (lines : List NumberedLine) (said : List ModelLine) → AllZip Says lines said → AreWell earlier said → first_model_code earlier lines ≡ None
said_well earlier [] [] s w = refl
said_well earlier [] (l ∷ ls) s w = absurd s
said_well earlier (line ∷ lines) [] s w = absurd s
said_well earlier (line ∷ lines) (l ∷ ls) s w =
    ap (λ o. model_fault_or line.number (model_shape_code earlier o) (first_model_code (with_shape earlier o) lines)) s.0
    ∙ fault_step line.number (model_line_code earlier l) (first_model_code (earlier ++ l ∷ []) lines) w.0 (said_well (earlier ++ l ∷ []) lines ls s.1 w.2)

said_lines : (lines : List NumberedLine) (said : List ModelLine) → AllZip Says lines said → model_lines lines ≡ said
said_lines [] [] s = refl
said_lines [] (l ∷ ls) s = absurd s
said_lines (line ∷ lines) [] s = absurd s
said_lines (line ∷ lines) (l ∷ ls) s = ap (λ o. cons_option o (model_lines lines)) s.0 ∙ ap (λ rest. l ∷ rest) (said_lines lines ls s.1)

printed_counted : (lines : List ℕ) → counted_lines 35 (codes "des 1\n" ++ lines) ≡ numbered 1 (codes "des 1") ∷ counted_from 35 2 lines
printed_counted lines = counted_from-line 35 1 (codes "des 1") lines refl refl

no_start : (net : Net) (lines : List NumberedLine) → components_of (model_lines lines) ≡ net.components → place_by lacks_init net.components ≡ None → start_fault lines ≡ None
no_start net lines same h = ap (λ cs. option_map (λ place. record { line = slice_index (component_numbers lines) place; code = 6 }) (place_by lacks_init cs)) same ∙ ap (option_map (λ place. record { line = slice_index (component_numbers lines) place; code = 6 })) h

neither_fault : (a b : Option ModelFault) → a ≡ None → b ≡ None → option_or a b ≡ None
neither_fault a b h k = rw (h, k) refl

-- a network that was read is printed as a text that says it
pub reads_back : (net : Net) → IsDraft net → IsNetwork net → place_by lacks_init net.components ≡ None → IsAsRead net → ReadsBack net
reads_back net d whole started r =
    let lines = lines_of_network net in
    let text = flat_map line_text lines in
    let counted = counted_from 35 2 text in
    let adds = all_well [] lines net IsDraft-none HasNames-none (network_grows net d whole r) in
    let said : AllZip Says counted lines = lines_said 2 [] lines adds.well in
    let same : model_lines counted ≡ lines = said_lines counted lines said in
    let network : network_of_lines (model_lines counted) ≡ net = ap network_of_lines same ∙ adds.network in
    record {
      well = ap model_fault_of_lines (printed_counted text)
          ∙ neither_fault (first_model_code [] counted) (start_fault counted) (said_well [] counted lines said adds.well) (no_start net counted (ap (λ (n : Net). n.components) network) started);
      network = ap (λ ls. network_of_lines (model_lines (model_body ls))) (printed_counted text) ∙ network;
    }

-- ---- a line that was read names a part where it is an event

some_more : (o : Option NamedPart) (r : Option (List NamedPart)) (parts : List NamedPart) → option_and_then (λ y. option_map (λ ys. y ∷ ys) r) o ≡ Some parts → 0 < length parts
some_more None r parts h = cc
some_more (Some p) None parts h = cc
some_more (Some p) (Some ps) parts h = subst (λ (l : List NamedPart). 0 < length l) (same_Some (p ∷ ps) parts h) (omega arith)

flags_step : (name : List ℕ) (label : Option (List ℕ)) (fault b : Bool) (o : Option (List NamedPart)) (line : ModelLine) → ((parts : List NamedPart) → o ≡ Some parts → 0 < length parts)
    → cond b (option_map (λ named. event name label fault named) o) None ≡ Some line → HasParts line
flags_step name label fault true None line some h = cc
flags_step name label fault true (Some parts) line some h = subst HasParts (same_Some (event name label fault parts) line h) (some parts refl)
flags_step name label fault false o line some h = cc

flags_have : (name : List ℕ) (label : Option (List ℕ)) (fault : Bool) (tokens : List (List ℕ)) (line : ModelLine) → after_flags name label fault tokens ≡ Some line → HasParts line
flags_have name label fault [] line h = cc
flags_have name label fault (token ∷ []) line h = cc
flags_have name label fault (token ∷ part ∷ parts) line h =
    flags_step name label fault (bytes_eq token (codes ":")) (parts_of_tokens (part ∷ parts)) line (λ ps e. some_more (part_of_token part) (parts_of_tokens parts) ps e) h

one_of : (b : Bool) (x y : Option ModelLine) (line : ModelLine) → (x ≡ Some line → HasParts line) → (y ≡ Some line → HasParts line) → cond b x y ≡ Some line → HasParts line
one_of true x y line f g h = f h
one_of false x y line f g h = g h

label_has : (name : List ℕ) (label : Option (List ℕ)) (tokens : List (List ℕ)) (line : ModelLine) → after_label name label tokens ≡ Some line → HasParts line
label_has name label [] line h = cc
label_has name label (token ∷ tokens) line h =
    one_of (bytes_eq token (codes "fault")) (after_flags name label true tokens) (after_flags name label false (token ∷ tokens)) line
    (λ e. flags_have name label true tokens line e) (λ e. flags_have name label false (token ∷ tokens) line e) h

name_has : (name : List ℕ) (tokens : List (List ℕ)) (line : ModelLine) → after_name name tokens ≡ Some line → HasParts line
name_has name [] line h = cc
name_has name (token ∷ []) line h = cc
name_has name (token ∷ next ∷ tokens) line h =
    one_of (bytes_eq token (codes "alarm")) (after_label name (Some next) tokens) (after_label name None (token ∷ next ∷ tokens)) line
    (λ e. label_has name (Some next) tokens line e) (λ e. label_has name None (token ∷ next ∷ tokens) line e) h

event_has : (tokens : List (List ℕ)) (line : ModelLine) → event_line tokens ≡ Some line → HasParts line
event_has [] line h = cc
event_has (name ∷ tokens) line h = name_has name tokens line h

component_has : (tokens : List (List ℕ)) (line : ModelLine) → component_line tokens ≡ Some line → HasParts line
component_has [] line h = cc
component_has (name ∷ []) line h = subst HasParts (same_Some (component name) line h) tt
component_has (name ∷ more ∷ tokens) line h = cc

marked_has : (name : List ℕ) (b : Bool) (line : ModelLine) → cond b (Some (state name true)) None ≡ Some line → HasParts line
marked_has name true line h = subst HasParts (same_Some (state name true) line h) tt
marked_has name false line h = cc

state_has : (tokens : List (List ℕ)) (line : ModelLine) → state_line tokens ≡ Some line → HasParts line
state_has [] line h = cc
state_has (name ∷ []) line h = subst HasParts (same_Some (state name false) line h) tt
state_has (name ∷ word ∷ []) line h = marked_has name (bytes_eq word (codes "init")) line h
state_has (name ∷ word ∷ more ∷ tokens) line h = cc

transition_has : (tokens : List (List ℕ)) (line : ModelLine) → transition_line tokens ≡ Some line → HasParts line
transition_has [] line h = cc
transition_has (from ∷ []) line h = cc
transition_has (from ∷ action ∷ []) line h = cc
transition_has (from ∷ action ∷ to ∷ []) line h = subst HasParts (same_Some (transition from action to) line h) tt
transition_has (from ∷ action ∷ to ∷ more ∷ tokens) line h = cc

keyword_has : (tokens : List (List ℕ)) (o : Option LineKeyword) (line : ModelLine) → option_and_then (keyword_line tokens) o ≡ Some line → HasParts line
keyword_has tokens None line h = cc
keyword_has tokens (Some Component) line h = component_has tokens line h
keyword_has tokens (Some State) line h = state_has tokens line h
keyword_has tokens (Some Trans) line h = transition_has tokens line h
keyword_has tokens (Some Event) line h = event_has tokens line h

line_has : (tokens : List (List ℕ)) (line : ModelLine) → model_line tokens ≡ Some line → HasParts line
line_has [] line h = cc
line_has (word ∷ tokens) line h = keyword_has tokens (line_keyword word) line h

-- ---- what is true of a network that was read

record WasRead (net : Net) : Type 0 where
  draft : IsDraft net
  names : HasNames net
  order : IsAsRead net

no_fault : (number : ℕ) (code : Option ℕ) (later : Option ModelFault) → model_fault_or number code later ≡ None → (code ≡ None) × (later ≡ None)
no_fault number None later h = (refl, h)
no_fault number (Some code) later h = cc

coded : (o : Option ℕ) → o ≡ None → IsSome o → ⊥
coded None h s = cc
coded (Some code) h s = cc

WasRead-more : (earlier : List ModelLine) (line : ModelLine) → WasRead (network_of_lines earlier) → HasParts line → model_line_code earlier line ≡ None → WasRead (network_of_lines (earlier ++ line ∷ []))
WasRead-more earlier line r some well = step (grown (network_of_lines earlier) line) refl
  where
    step : (o : Option Net) → grown (network_of_lines earlier) line ≡ o → WasRead (network_of_lines (earlier ++ line ∷ []))
    step None h = absurd (coded (model_line_code earlier line) well (lines_grow.refused earlier line r.draft r.names h))
    step (Some now) h =
        let law : Grows earlier line now = lines_grow.grows earlier line now r.draft r.names h in
        subst WasRead (sym law.network) (record {
          draft = IsDraft-grown (network_of_lines earlier) line now r.draft some h;
          names = HasNames-grown (network_of_lines earlier) line now r.names h;
          order = IsAsRead-grown (network_of_lines earlier) line now r.draft r.order h;
        })

-- the first line is read, and then the others by this
through_step : (earlier : List ModelLine) (line : NumberedLine) (lines : List NumberedLine) (said : Option ModelLine) → model_line (tokens_of line.text) ≡ said → WasRead (network_of_lines earlier) → first_model_code earlier (line ∷ lines) ≡ None
    → ((next : List ModelLine) → WasRead (network_of_lines next) → first_model_code next lines ≡ None → WasRead (network_of_lines (next ++ model_lines lines))) → WasRead (network_of_lines (earlier ++ model_lines (line ∷ lines)))
through_step earlier line lines None is r h others =
    let e : model_fault_or line.number (Some 2) (first_model_code earlier lines) ≡ None = ap (λ o. model_fault_or line.number (model_shape_code earlier o) (first_model_code (with_shape earlier o) lines)) (sym is) ∙ h in cc
through_step earlier line lines (Some l) is r h others =
    let e : model_fault_or line.number (model_line_code earlier l) (first_model_code (earlier ++ l ∷ []) lines) ≡ None = ap (λ o. model_fault_or line.number (model_shape_code earlier o) (first_model_code (with_shape earlier o) lines)) (sym is) ∙ h in
    let parts = no_fault line.number (model_line_code earlier l) (first_model_code (earlier ++ l ∷ []) lines) e in
    subst (λ ls. WasRead (network_of_lines ls)) (append_assoc earlier (l ∷ []) (model_lines lines) ∙ ap (λ ls. earlier ++ ls) (ap (λ o. cons_option o (model_lines lines)) (sym is)))
    (others (earlier ++ l ∷ []) (WasRead-more earlier l r (line_has (tokens_of line.text) l is) parts.0) parts.1)

read_through : (earlier : List ModelLine) (lines : List NumberedLine) → WasRead (network_of_lines earlier) → first_model_code earlier lines ≡ None → WasRead (network_of_lines (earlier ++ model_lines lines))
read_through earlier [] r h = subst (λ ls. WasRead (network_of_lines ls)) (sym (append-nil earlier)) r
read_through earlier (line ∷ lines) r h = through_step earlier line lines (model_line (tokens_of line.text)) refl r h (λ next s k. read_through next lines s k)

-- the network of lines without a code
pub lines_were_read : (lines : List NumberedLine) (built net : Net) → first_model_code [] lines ≡ None → built ≡ network_of_lines (model_lines lines) → net ≡ built → IsAsRead net
lines_were_read lines built net h same e =
    subst IsAsRead (sym (e ∙ same)) (read_through [] lines (record { draft = IsDraft-none; names = HasNames-none; order = IsAsRead-none }) h).order

record IsNetworkRead (net : Net) : Type 0 where
  read : WasRead net
  started : place_by lacks_init net.components ≡ None

both_none : (a b : Option ModelFault) → option_or a b ≡ None → (a ≡ None) × (b ≡ None)
both_none None b h = (refl, h)
both_none (Some f) b h = cc

header_none : (b : Bool) (x : Option ModelFault) (f : ModelFault) → cond b x (Some f) ≡ None → x ≡ None
header_none true x f h = h
header_none false x f h = cc

started_none : (f : ℕ → ModelFault) (o : Option ℕ) → option_map f o ≡ None → o ≡ None
started_none f None h = refl
started_none f (Some k) h = cc

counted_read : (lines : List NumberedLine) → model_fault_of_lines lines ≡ None → IsNetworkRead (network_of_lines (model_lines (model_body lines)))
counted_read [] h = cc
counted_read (header ∷ lines) h =
    let parts = both_none (first_model_code [] lines) (start_fault lines) (header_none (is_model_header (tokens_of header.text)) (option_or (first_model_code [] lines) (start_fault lines)) (record { line = header.number; code = 1 }) h) in
    record {
      read = read_through [] lines (record { draft = IsDraft-none; names = HasNames-none; order = IsAsRead-none }) parts.0;
      started = started_none (λ place. record { line = slice_index (component_numbers lines) place; code = 6 }) (place_by lacks_init (components_of (model_lines lines))) parts.1;
    }

pub was_read : (text : List ℕ) → first_model_fault text ≡ None → IsAsRead (network_of text)
was_read text h = (counted_read (counted_lines 35 text) h).read.order

pub read_and_printed : (text : List ℕ) → first_model_fault text ≡ None → ReadsBack (network_of text)
read_and_printed text h =
    let r = counted_read (counted_lines 35 text) h in
    reads_back (network_of text) r.read.draft (IsNetwork-from_draft (network_of text) r.read.draft r.started) r.started r.read.order

pub models_read_back : ModelsReadBack
models_read_back = record { order = was_read; back = read_and_printed }
