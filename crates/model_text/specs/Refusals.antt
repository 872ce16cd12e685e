-- What the refusals of names, of the builder and of a line become.
use Rattle.std.specs.Prelude.{ℕ}
use Rattle.des_base.specs.declared.name.NameFault.{NameFault}
use Rattle.des_base.specs.declared.name.NameFault.TheVariants as text
use Rattle.des_net.specs.declared.refusal.BuildRefusal.{BuildRefusal}
use Rattle.des_net.specs.declared.refusal.BuildRefusal.TheVariants as builder
use Rattle.model_text.specs.declared.fault.ModelRefusal.{ModelRefusal}
use Rattle.model_text.specs.declared.fault.ModelRefusal.TheVariants as model
use Rattle.model_text.specs.declared.refusal.LineRefusal.{LineRefusal}
use Rattle.model_text.specs.declared.refusal.LineRefusal.TheVariants.{Shape, Homeless, Name, Double, Unknown, Limit, Memory}

-- a text that is no name is a fault of its line; `Memory` stays what it is
abbrev pub line_refusal_of_name : NameFault → LineRefusal
line_refusal_of_name text.Shape = Name
line_refusal_of_name text.Memory = Memory

-- what the builder refuses, as the refusal of the line that asked for it
abbrev pub refusal_of_build : BuildRefusal → LineRefusal
refusal_of_build builder.Double = Double
refusal_of_build builder.Unknown = Unknown
refusal_of_build builder.Limit = Limit
refusal_of_build builder.Memory = Memory

-- a fault of this code on the line of this number
abbrev pub faulty : ℕ → ℕ → ModelRefusal
faulty line code = model.Fault (record { line = line; code = code })

-- the refusal of a text for the line of this number
abbrev pub line_refusal_at : ℕ → LineRefusal → ModelRefusal
line_refusal_at line Shape = faulty line 2
line_refusal_at line Homeless = faulty line 7
line_refusal_at line Name = faulty line 3
line_refusal_at line Double = faulty line 4
line_refusal_at line Unknown = faulty line 5
line_refusal_at line Limit = faulty line 8
line_refusal_at line Memory = model.Memory
