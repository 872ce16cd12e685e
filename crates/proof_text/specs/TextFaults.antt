-- Faults of CNF and LRAT texts.
use Rattle.std.specs.Prelude.{◌≡◌, ⊤, ℕ, Option, None, Some}
use Rattle.proof_text.specs.declared.fault.TextFault.{TextFault}
use Rattle.proof_text.specs.declared.fault.TextRefusal.{TextRefusal}
use Rattle.proof_text.specs.declared.fault.TextRefusal.TheVariants.{Fault, Memory}

-- the header is missing or has another shape
abbrev pub no_header : ℕ
no_header = 1

-- a token isn't a number, or is zero or negative where that can't stand
abbrev pub not_a_number : ℕ
not_a_number = 2

-- a literal's variable is greater than the number of variables
abbrev pub unknown_variable : ℕ
unknown_variable = 3

-- there are more clauses than the header says, or fewer
abbrev pub other_count : ℕ
other_count = 4

-- the last `0` of a clause or a line is missing, or something follows it on the line of a proof
abbrev pub not_ended : ℕ
not_ended = 5

-- the number of an addition isn't greater than those before it
abbrev pub not_ascending : ℕ
not_ascending = 6

-- a hint is negative, as in steps that are not propagation alone
abbrev pub negative_hint : ℕ
negative_hint = 7

-- a number is over its limit
abbrev pub over_limit : ℕ
over_limit = 8

-- a fault on this line, with this code
abbrev pub fault_on_line : ℕ → ℕ → Option TextFault
fault_on_line line code = Some (record { line = line; code = code })

-- the fault with this code, where there is one, and else a later one
abbrev pub text_fault_or : ℕ → Option ℕ → Option TextFault → Option TextFault
text_fault_or line None later = later
text_fault_or line (Some code) later = fault_on_line line code

-- A refusal for a fault has the first fault of the text. `Memory` says nothing.
abbrev pub IsTextDue : Option TextFault → TextRefusal → Type 0
IsTextDue fault (Fault told) = fault ≡ Some told
IsTextDue fault Memory = ⊤
