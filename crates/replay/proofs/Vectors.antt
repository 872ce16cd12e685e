-- Worked values of the first fault of a run text, and of what it says.
use Rattle.std.proofs.Common.{◌≡◌, ℕ, List, [], ◌∷◌, ◌++◌, Option, Some, None, refl}
use Rattle.std.specs.Prelude.{codes, flat_map}
use Rattle.des_net.specs.Network.{Net, no_net}
use Rattle.des_base.specs.Names.{is_name_text, is_name_byte}
use Rattle.replay.specs.declared.run.RunStep.{RunStep}
use Rattle.replay.specs.declared.run.RunStep.TheVariants.{Happens, Dropped}
use Rattle.replay.specs.declared.run_text.RunFault.{RunFault}
use Rattle.replay.specs.RunText.{first_run_fault, run_of}

-- only the names of a network's events matter
abbrev net : Net
net = record no_net { event_names = codes "g" ∷ codes "ea" ∷ codes "eb" ∷ [] }

abbrev text_of : List (List ℕ) → List ℕ
text_of lines = flat_map (λ line. line ++ 10 ∷ []) lines

abbrev fault : ℕ → ℕ → Option RunFault
fault line code = Some (record { line = line; code = code })

abbrev step : ℕ → Option (List ℕ) → RunStep
step event alarm = Happens event alarm

-- ---- texts without a fault

pub no_steps : first_run_fault net (codes "run 0") ≡ None
no_steps = refl

pub one_step : first_run_fault net (text_of (codes "run 1" ∷ codes "g" ∷ [])) ≡ None
unfolding is_name_text is_name_byte
one_step = refl

pub one_step-run : run_of net (text_of (codes "run 1" ∷ codes "g" ∷ [])) ≡ step 0 None ∷ []
one_step-run = refl

-- a printed reply is a run text
pub reply : first_run_fault net (text_of (codes "EXPLAINED 1" ∷ codes "run 2" ∷ codes "g" ∷ codes "ea x1" ∷ [])) ≡ None
unfolding is_name_text is_name_byte
reply = refl

pub reply-run : run_of net (text_of (codes "EXPLAINED 1" ∷ codes "run 2" ∷ codes "g" ∷ codes "ea x1" ∷ [])) ≡ step 0 None ∷ step 1 (Some (codes "x1")) ∷ []
reply-run = refl

-- a false alarm
pub false_alarm : first_run_fault net (text_of (codes "run 2" ∷ codes "! z" ∷ codes "eb" ∷ [])) ≡ None
unfolding is_name_text is_name_byte
false_alarm = refl

pub false_alarm-run : run_of net (text_of (codes "run 2" ∷ codes "! z" ∷ codes "eb" ∷ [])) ≡ Dropped (codes "z") ∷ step 2 None ∷ []
false_alarm-run = refl

pub mark_alone : first_run_fault net (text_of (codes "run 1" ∷ codes "!" ∷ [])) ≡ fault 2 2
mark_alone = refl

pub false_no_name : first_run_fault net (text_of (codes "run 1" ∷ codes "! !" ∷ [])) ≡ fault 2 3
unfolding is_name_text is_name_byte
false_no_name = refl

pub false_three_words : first_run_fault net (text_of (codes "run 1" ∷ codes "! x y" ∷ [])) ≡ fault 2 2
false_three_words = refl

-- ---- no header

pub no_bytes : first_run_fault net [] ≡ fault 1 1
no_bytes = refl

pub no_count : first_run_fault net (text_of (codes "run" ∷ [])) ≡ fault 1 1
no_count = refl

pub leading_zero : first_run_fault net (text_of (codes "run 01" ∷ [])) ≡ fault 1 1
leading_zero = refl

pub too_long : first_run_fault net (text_of (codes "run 4000001" ∷ [])) ≡ fault 1 1
too_long = refl

pub other_word : first_run_fault net (text_of (codes "jog 0" ∷ [])) ≡ fault 1 1
other_word = refl

-- ---- too few or too many steps

pub none_of_one : first_run_fault net (text_of (codes "run 1" ∷ [])) ≡ fault 1 4
none_of_one = refl

pub one_of_two : first_run_fault net (text_of (codes "run 2" ∷ codes "g" ∷ [])) ≡ fault 2 4
unfolding is_name_text is_name_byte
one_of_two = refl

pub one_of_none : first_run_fault net (text_of (codes "run 0" ∷ codes "g" ∷ [])) ≡ fault 2 4
one_of_none = refl

-- ---- a step's line

pub unknown_event : first_run_fault net (text_of (codes "run 1" ∷ codes "zz" ∷ [])) ≡ fault 2 5
unfolding is_name_text is_name_byte
unknown_event = refl

pub three_words : first_run_fault net (text_of (codes "run 1" ∷ codes "g x y" ∷ [])) ≡ fault 2 2
three_words = refl

pub no_name : first_run_fault net (text_of (codes "run 1" ∷ codes "g x.y" ∷ [])) ≡ fault 2 3
unfolding is_name_text is_name_byte
no_name = refl

-- lines that are skipped are counted too
pub after_comment : first_run_fault net (text_of (codes "# a run" ∷ codes "run 1" ∷ [] ∷ codes "zz" ∷ [])) ≡ fault 4 5
unfolding is_name_text is_name_byte
after_comment = refl

-- a line's fault comes before a shortage
pub fault_before_shortage : first_run_fault net (text_of (codes "run 3" ∷ codes "zz" ∷ [])) ≡ fault 2 5
unfolding is_name_text is_name_byte
fault_before_shortage = refl
