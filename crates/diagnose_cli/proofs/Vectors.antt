-- What worked command lines spell, call and ask.
use Rattle.std.proofs.Common.{◌≡◌, List, ℕ, [], ◌∷◌, None, Some, refl, codes}
use Rattle.diagnose_cli.specs.Commands.{asking, command_of, session, show}
use Rattle.diagnose_cli.specs.Questions.{cnf_question, diagnose_question, proof_question}
use Rattle.diagnose_cli.specs.Tasks.{Calls, NoCommand, told_once}

-- `NAME MODEL LOG N LAST`
abbrev words : List ℕ → List ℕ → List ℕ → List (List ℕ)
words name steps last = name ∷ codes "valve.des" ∷ codes "tripped.csv" ∷ steps ∷ last ∷ []

pub diagnose-called : command_of (words (codes "diagnose") (codes "2") (codes "1000")) ≡ Calls (told_once ((asking diagnose_question).task (2, 1000)))
diagnose-called = refl

pub proof-called : command_of (words (codes "proof") (codes "2") (codes "0")) ≡ Calls (told_once ((asking proof_question).task (2, 0)))
proof-called = refl

pub cnf-called : command_of (words (codes "cnf") (codes "2") (codes "255")) ≡ Calls (told_once ((asking cnf_question).task (2, Some 255)))
cnf-called = refl

pub cnf-of-any-called : command_of (words (codes "cnf") (codes "2") (codes "any")) ≡ Calls (told_once ((asking cnf_question).task (2, None)))
cnf-of-any-called = refl

-- a bound that is too high
pub high-called : command_of (words (codes "cnf") (codes "2") (codes "256")) ≡ NoCommand
high-called = refl

-- another name
pub other-called : command_of (words (codes "diagnos") (codes "2") (codes "1000")) ≡ NoCommand
other-called = refl

-- too many steps
pub many-called : command_of (words (codes "diagnose") (codes "1001") (codes "1000")) ≡ NoCommand
many-called = refl

-- another command of five words
pub session-called : command_of (words (codes "session") (codes "2") (codes "1000")) ≡ Calls (session.task (record { steps = 2; budget = 1000 }))
session-called = refl

pub show-called : command_of (codes "show" ∷ codes "valve.des" ∷ []) ≡ Calls (told_once (show.task tt))
show-called = refl
