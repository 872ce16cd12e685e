-- By the session, or out of memory before it begins.
use Rattle.diagnose_cli.proofs.Speeches.{broke_before}
use Rattle.diagnose_cli.proofs.session_command.carry_out_by_order.Goals as goal

pub returns-in-Err-clause-speaks : goal.returns-in-Err-clause-speaks
returns-in-Err-clause-speaks g c = broke_before _ _ (let new = c.new.ensures in cc) _ _
