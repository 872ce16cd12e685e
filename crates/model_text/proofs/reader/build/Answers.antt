use Rattle.std.proofs.Common.{Err, List, subst, sym}
use Rattle.des_base.specs.CountedLines.{NumberedLine}
use Rattle.model_text.specs.declared.fault.ModelRefusal.{ModelRefusal}
use Rattle.model_text.specs.LineAdditions.{BuildsLines}
use Rattle.model_text.proofs.ReadLemmas.{IsReadTo, IsReadTo-more, stopped}
use Rattle.model_text.proofs.reader.build.Goals as goal

pub loop-line-preserved : goal.loop-line-preserved
loop-line-preserved c =
    IsReadTo-more _ _ _ _ (subst (λ (ls : List NumberedLine). IsReadTo c.args.lines ls c.loop-line.builder) c.in-Some.ensures.line c.loop-line.invariant)
    c.in-Ok.ensures.whole _ c.in-Ok.ensures.added

pub returns-in-Err : goal.returns-in-Err
returns-in-Err c =
    subst (λ (e : ModelRefusal). BuildsLines c.args.lines (Err e)) (sym c.at.ensures)
    (stopped _ _ _ _ (subst (λ (ls : List NumberedLine). IsReadTo c.args.lines ls c.loop-line.builder) c.in-Some.ensures.line c.loop-line.invariant) c.in-Err.ensures.whole c.in-Err.refusal c.in-Err.ensures.added)
