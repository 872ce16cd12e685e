use Rattle.std.proofs.Common.{subst, Contains, IfSome}
use Rattle.fault_verdicts.proofs.Witnesses.{shown_by}
use Rattle.fault_verdicts.proofs.others.shown.Goals as goal
use Rattle.fault_verdicts.specs.Judges.{DiffersIn}

pub returns-in_ok-copy_of-in-Some : goal.returns-in_ok-copy_of-in-Some
returns-in_ok-copy_of-in-Some g c =
    let about = c.args.about in
    let both = subst (λ shown. IfSome shown (λ other. Contains c.as_slice.result.now other.now × DiffersIn c.args.event about.best.now.run other.now)) c.in-Some.is c.other_than.ensures in
    shown_by about.net.now about.log.now about.best.now c.args.kept.now c.as_slice.result.now c.args.event _ _ c.requires c.as_slice.ensures.value both.0 both.1 c.in_ok-copy_of-in-Some.ensures
