use Rattle.std.proofs.Common.{◌∙◌, ap, sym, ◌++◌, List, ℕ}
use Rattle.std.proofs.lemmas.Result.{on_ok_weaker}
use Rattle.std.specs.Prelude.{codes}
use Rattle.log_order.specs.Adding.{names_of}
use Rattle.replay.specs.declared.replaying.Replayed.{Replayed}
use Rattle.report.specs.Replies.{named, text_of_replayed}
use Rattle.report.proofs.replayed.push_replayed.Goals as goal

pub returns-in-Missing-clause-ok : goal.returns-in-Missing-clause-ok
returns-in-Missing-clause-ok c =
    let old = c.args.out.now.items in
    on_ok_weaker c.push_named.result
    (λ h. h ∙ ap (λ (name : List ℕ). old ++ named (codes "REJECTED MISSING ") name) c.name_of.ensures
    ∙ ap (λ (r : Replayed). old ++ text_of_replayed (names_of c.args.log.now.alarms) r) (sym c.in-Missing.is))
    c.push_named.ensures.ok
