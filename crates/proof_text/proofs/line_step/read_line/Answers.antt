use Rattle.std.proofs.Common.{sym, subst, ap, ◌∙◌, option_map}
use Rattle.std.specs.Prelude.{IsSome}
use Rattle.des_base.specs.CountedLines.{tokens_of}
use Rattle.proof_text.specs.StepParts.{step_with}
use Rattle.proof_text.proofs.WellLines.{kind_is_said, line_has_a_code}
use Rattle.proof_text.proofs.line_step.read_line.Goals as goal

pub unwrap-requires : goal.unwrap-requires
unwrap-requires c = subst IsSome (sym c.lrat_line_code.ensures) (line_has_a_code c.args.line.number c.args.vars c.args.last (tokens_of c.args.line.text.now)
    (sym (ap (option_map (step_with c.args.line.number c.read_step.new.parts.clause.items c.read_step.new.parts.ids.items)) c.in-None.is) ∙ c.in_ok-kind.ensures))

pub returns-in-Some-clause-kind : goal.returns-in-Some-clause-kind
returns-in-Some-clause-kind c = (kind_is_said c.args.line.number c.args.vars c.args.last (tokens_of c.args.line.text.now) _ _ _ _ c.in-Some.is c.in_ok-kind.ensures).0

pub returns-in-Some-clause-well : goal.returns-in-Some-clause-well
returns-in-Some-clause-well c = (kind_is_said c.args.line.number c.args.vars c.args.last (tokens_of c.args.line.text.now) _ _ _ _ c.in-Some.is c.in_ok-kind.ensures).1
