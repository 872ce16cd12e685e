-- Worked texts, computed.
use Rattle.std.proofs.Common.{◌≡◌, [], ◌∷◌, None, refl}
use Rattle.std.specs.Prelude.{ℕ, List, ◌++◌, codes, flat_map, map}
use Rattle.des_base.specs.Names.{is_name_text, is_name_byte}
use Rattle.model_text.specs.ModelFaults.{first_model_fault, network_of}
use Rattle.des_net.specs.Network.{no_net}
use Rattle.model_text.specs.PrintedModel.{line_text, model_text}
use Rattle.model_text.specs.Samples.{text_of, wide_text_of, sample_fault, valve_lines, valve, pair_lines, pair}

-- seventeen letters
abbrev seventeen : List (List ℕ)
seventeen = map (λ letter. letter ∷ []) (codes "abcdefghijklmnopq")

pub valve_is_read : network_of (text_of valve_lines) ≡ valve
valve_is_read = refl

pub valve_is_well : first_model_fault (text_of valve_lines) ≡ None
unfolding is_name_text is_name_byte
valve_is_well = refl

pub pair_is_read : network_of (text_of pair_lines) ≡ pair
pair_is_read = refl

pub pair_is_well : first_model_fault (text_of pair_lines) ≡ None
unfolding is_name_text is_name_byte
pair_is_well = refl

pub wide_is_read : network_of (wide_text_of valve_lines) ≡ valve
wide_is_read = refl

pub wide_is_well : first_model_fault (wide_text_of valve_lines) ≡ None
unfolding is_name_text is_name_byte
wide_is_well = refl

pub wide_fault : first_model_fault (wide_text_of (codes "des 1" ∷ codes "component" ∷ [])) ≡ sample_fault 2 2
unfolding is_name_text is_name_byte
wide_fault = refl

pub no_bytes : first_model_fault [] ≡ sample_fault 1 1
unfolding is_name_text is_name_byte
no_bytes = refl

pub other_version : first_model_fault (text_of (codes "des 2" ∷ [])) ≡ sample_fault 1 1
unfolding is_name_text is_name_byte
other_version = refl

pub unnamed_component : first_model_fault (text_of (codes "des 1" ∷ codes "component" ∷ [])) ≡ sample_fault 2 2
unfolding is_name_text is_name_byte
unnamed_component = refl

pub no_name : first_model_fault (text_of (codes "des 1" ∷ codes "component a.b" ∷ [])) ≡ sample_fault 2 3
unfolding is_name_text is_name_byte
no_name = refl

pub double_component : first_model_fault (text_of (codes "des 1" ∷ codes "component p" ∷ codes "component p" ∷ [])) ≡ sample_fault 3 4
unfolding is_name_text is_name_byte
double_component = refl

pub unknown_action : first_model_fault (text_of (codes "des 1" ∷ codes "component p" ∷ codes "state ok init" ∷ codes "event e : p.go" ∷ [])) ≡ sample_fault 4 5
unfolding is_name_text is_name_byte
unknown_action = refl

pub no_initial_state : first_model_fault (text_of (codes "des 1" ∷ codes "component p" ∷ codes "state ok" ∷ [])) ≡ sample_fault 2 6
unfolding is_name_text is_name_byte
no_initial_state = refl

pub homeless_state : first_model_fault (text_of (codes "des 1" ∷ codes "state ok init" ∷ [])) ≡ sample_fault 2 7
unfolding is_name_text is_name_byte
homeless_state = refl

pub homeless_transition : first_model_fault (text_of (codes "des 1" ∷ codes "trans a b c" ∷ [])) ≡ sample_fault 2 7
unfolding is_name_text is_name_byte
homeless_transition = refl

pub double_state : first_model_fault (text_of (codes "des 1" ∷ codes "component p" ∷ codes "state ok init" ∷ codes "state ok" ∷ [])) ≡ sample_fault 4 4
unfolding is_name_text is_name_byte
double_state = refl

pub double_transition : first_model_fault (text_of (codes "des 1" ∷ codes "component p" ∷ codes "state ok init" ∷ codes "trans ok a ok" ∷ codes "trans ok a ok" ∷ [])) ≡ sample_fault 5 4
unfolding is_name_text is_name_byte
double_transition = refl

pub unknown_state : first_model_fault (text_of (codes "des 1" ∷ codes "component p" ∷ codes "state ok init" ∷ codes "trans ok a off" ∷ [])) ≡ sample_fault 4 5
unfolding is_name_text is_name_byte
unknown_state = refl

pub double_event : first_model_fault (text_of (codes "des 1" ∷ codes "component p" ∷ codes "state ok init" ∷ codes "trans ok a ok" ∷ codes "event e : p.a" ∷ codes "event e : p.a" ∷ [])) ≡ sample_fault 6 4
unfolding is_name_text is_name_byte
double_event = refl

pub twice_one_component : first_model_fault (text_of (codes "des 1" ∷ codes "component p" ∷ codes "state ok init" ∷ codes "event e : q.a q.b" ∷ [])) ≡ sample_fault 4 4
unfolding is_name_text is_name_byte
twice_one_component = refl

pub two_dots : first_model_fault (text_of (codes "des 1" ∷ codes "component p" ∷ codes "state ok init" ∷ codes "event e : p.a.b" ∷ [])) ≡ sample_fault 4 2
unfolding is_name_text is_name_byte
two_dots = refl

pub no_parts : first_model_fault (text_of (codes "des 1" ∷ codes "component p" ∷ codes "state ok init" ∷ codes "event e :" ∷ [])) ≡ sample_fault 4 2
unfolding is_name_text is_name_byte
no_parts = refl

pub second_without_initial_state : first_model_fault (text_of (codes "des 1" ∷ codes "component p" ∷ codes "state ok init" ∷ codes "component q" ∷ codes "state ok" ∷ [])) ≡ sample_fault 4 6
unfolding is_name_text is_name_byte
second_without_initial_state = refl

pub after_comment_and_blank : first_model_fault (text_of (codes "des 1" ∷ codes "# note" ∷ [] ∷ codes "component a.b" ∷ [])) ≡ sample_fault 4 3
unfolding is_name_text is_name_byte
after_comment_and_blank = refl

-- ---- a line at fault by two codes: the order is 2, 7, 3, 4, 5, 8

pub no_shape_before_no_component : first_model_fault (text_of (codes "des 1" ∷ codes "state" ∷ [])) ≡ sample_fault 2 2
unfolding is_name_text is_name_byte
no_shape_before_no_component = refl

pub no_component_before_no_name : first_model_fault (text_of (codes "des 1" ∷ codes "state a.b" ∷ [])) ≡ sample_fault 2 7
unfolding is_name_text is_name_byte
no_component_before_no_name = refl

pub no_shape_before_no_name : first_model_fault (text_of (codes "des 1" ∷ codes "component p" ∷ codes "state s init" ∷ codes "trans s a s" ∷ codes "event a.b : p.a p" ∷ [])) ≡ sample_fault 5 2
unfolding is_name_text is_name_byte
no_shape_before_no_name = refl

pub no_name_before_double : first_model_fault (text_of (codes "des 1" ∷ codes "component p" ∷ codes "state s init" ∷ codes "trans s a s" ∷ codes "event a.b : p.a p.b" ∷ [])) ≡ sample_fault 5 3
unfolding is_name_text is_name_byte
no_name_before_double = refl

pub double_before_unknown : first_model_fault (text_of (codes "des 1" ∷ codes "component p" ∷ codes "state s init" ∷ codes "trans s a s" ∷ codes "event e : q.a q.b" ∷ [])) ≡ sample_fault 5 4
unfolding is_name_text is_name_byte
double_before_unknown = refl

pub known_event_before_unknown : first_model_fault (text_of (codes "des 1" ∷ codes "component p" ∷ codes "state s init" ∷ codes "trans s a s" ∷ codes "event e : p.a" ∷ codes "event e : q.a" ∷ [])) ≡ sample_fault 6 4
unfolding is_name_text is_name_byte
known_event_before_unknown = refl

pub unknown_before_limit : first_model_fault (text_of (codes "des 1" ∷ codes "component p" ∷ codes "state s init" ∷ codes "trans s a s" ∷ codes "event e : b.a c.a d.a e.a f.a g.a h.a i.a j.a k.a l.a m.a n.a o.a p.a q.a r.a" ∷ [])) ≡ sample_fault 5 5
unfolding is_name_text is_name_byte
unknown_before_limit = refl

-- ---- lines

pub least_line : first_model_fault (text_of (codes "des 1" ∷ codes "component p" ∷ codes "state s init" ∷ codes "trans s a s" ∷ codes "trans s a t" ∷ codes "state" ∷ [])) ≡ sample_fault 5 5
unfolding is_name_text is_name_byte
least_line = refl

pub lines_before_initial_states : first_model_fault (text_of (codes "des 1" ∷ codes "component p" ∷ codes "state s" ∷ codes "component q" ∷ codes "state" ∷ [])) ≡ sample_fault 5 2
unfolding is_name_text is_name_byte
lines_before_initial_states = refl

-- more parts than there may be, all of them known
pub too_many_parts : first_model_fault (text_of (codes "des 1" ∷ flat_map (λ name. (codes "component " ++ name) ∷ codes "state s init" ∷ codes "trans s a s" ∷ []) seventeen ++ (codes "event e :" ++ flat_map (λ name. 32 ∷ name ++ codes ".a") seventeen) ∷ [])) ≡ sample_fault 53 8
unfolding is_name_text is_name_byte
too_many_parts = refl

-- ---- what is printed

pub valve_is_printed : model_text valve ≡ text_of valve_lines
unfolding line_text
valve_is_printed = refl

-- components before events, one space between tokens, nothing else
pub pair_is_printed : model_text pair ≡ text_of (codes "des 1" ∷ codes "component pump" ∷ codes "state on init" ∷ codes "trans on run on" ∷ codes "component tank" ∷ codes "state low init" ∷ codes "state full init"
    ∷ codes "trans low fill full" ∷ codes "event run : pump.run" ∷ codes "event fill alarm A fault : tank.fill pump.run" ∷ [])
unfolding line_text
pair_is_printed = refl

pub nothing_is_printed : model_text no_net ≡ codes "des 1\n"
nothing_is_printed = refl
