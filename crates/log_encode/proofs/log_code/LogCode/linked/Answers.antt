-- The links of an alarm are of the events that it may stand for.
use Rattle.std.proofs.Common.{◌∙◌}
use Rattle.log_encode.proofs.CallLemmas.{found_alarm, linked_is, linked_known}
use Rattle.log_encode.proofs.log_code.LogCode.linked.Goals as goal

pub returns-clause-event : goal.returns-clause-event
returns-clause-event c =
    let found = found_alarm c.self.inside c.args.self.now c.args.alarm c.index.result.now c.self.view_is c.self.invariant c.requires c.index.ensures in
    c.event_of.ensures ∙ linked_is c.args.self.now.coded c.args.alarm c.index.result.now c.args.link found.0

pub returns-clause-known : goal.returns-clause-known
returns-clause-known c =
    let found = found_alarm c.self.inside c.args.self.now c.args.alarm c.index.result.now c.self.view_is c.self.invariant c.requires c.index.ensures in
    linked_known c.args.self.now.coded.net c.args.self.now.coded.log c.args.alarm c.args.link c.event_of.result (c.event_of.ensures ∙ linked_is c.args.self.now.coded c.args.alarm c.index.result.now c.args.link found.0)
