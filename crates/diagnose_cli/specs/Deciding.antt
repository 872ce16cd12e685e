-- A budget that decides each question.
use Rattle.std.specs.Prelude.{◌≡◌, ◌≢◌, ℕ, List, length}
use Rattle.endings.specs.Transcripts.{Transcript}
use Rattle.diagnose_cli.specs.Commands.{command_of}
use Rattle.diagnose_cli.specs.Outcomes.{Outcome}
use Rattle.diagnose_cli.specs.Rows.{AreTold}
use Rattle.diagnose_cli.specs.Tasks.{IfCalled, Task}

-- over as many texts as the command has files its budget is large enough
abbrev pub Suffices : Task Transcript → List (List ℕ) → List (List ℕ) → Type 0
Suffices t words texts = (length texts ≡ length t.files) × t.enough words texts

-- over whatever bytes the shelf tells, such a budget decides: the status isn't that of a question left open
abbrev pub DecidedRow : Outcome → Type 0
DecidedRow o = IfCalled (command_of o.words) (λ t. (texts : List (List ℕ)) → AreTold o.loads.held o.words 1 texts → Suffices t o.words texts → o.status ≢ 11)
