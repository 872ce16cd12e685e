-- Another first word is the name of no command.
use Rattle.std.proofs.Common.{List, ℕ, subst}
use Rattle.std.specs.Prelude.{⊤}
use Rattle.diagnose_cli.specs.Commands.{named_commands}
use Rattle.diagnose_cli.specs.Tasks.{MatchCalled, called_among}
use Rattle.diagnose_cli.proofs.Called.{none_among}
use Rattle.diagnose_cli.proofs.run.respond.Goals as goal

pub put_usage-requires-in_default-clause-none : goal.put_usage-requires-in_default-clause-none
put_usage-requires-in_default-clause-none g c =
    subst (λ (name : List ℕ). MatchCalled (called_among named_commands name c.args.words.now) ⊤ (λ t. ⊥)) c.word.ensures
    (none_among c.word.result.now c.args.words.now named_commands (c.in_default.not-trace, (c.in_default.not-show, (c.in_default.not-replay, (c.in_default.not-check, (c.in_default.not-generate, (c.in_default.not-bench, (c.in_default.not-twin, (c.in_default.not-cheapest, (c.in_default.not-session, (c.in_default.not-verdicts, (c.in_default.not-diagnose, (c.in_default.not-cnf, (c.in_default.not-proof, tt))))))))))))))
