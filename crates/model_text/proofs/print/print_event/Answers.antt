use Rattle.model_text.proofs.PrintLemmas.{event-whole}
use Rattle.model_text.proofs.print.print_event.Goals as goal

pub returns : goal.returns
returns c = event-whole c.args.net.now c.args.event _ _ _ _ _ _ _ c.event_name.ensures c.label.ensures c.is_fault.ensures c.in_ok-print_event_head.ensures c.in_ok-print_parts_of.ensures c.in_ok-extend_from_slice.ensures.items
