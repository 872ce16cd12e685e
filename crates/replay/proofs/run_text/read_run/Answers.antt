-- The text's first fault is that of its steps, where its header is well.
use Rattle.std.proofs.Common.{◌≡◌, sym, subst, Option, None}
use Rattle.std.specs.Prelude.{OnOk, IfErr}
use Rattle.replay.specs.declared.run_text.RunFault.{RunFault}
use Rattle.replay.specs.RunText.{TellsFault}
use Rattle.replay.proofs.TextLemmas.{first_run_fault-steps}
use Rattle.replay.proofs.run_text.read_run.Goals as goal

pub returns-clause-well : goal.returns-clause-well
returns-clause-well c =
    let number = c.in-Some.header.number in
    let same = first_run_fault-steps c.args.net.now c.args.bytes.now c.new-lines.result number c.in-Some.header.text.now c.in-Some-stated_length.stated c.next_header.new.lines c.new-lines.ensures c.in-Some.ensures c.in-Some-stated_length.ensures.length in
    subst (λ (fault : Option RunFault). OnOk c.read_steps.result (fault ≡ None)) (sym same) (c.read_steps.ensures.well number)

pub returns-clause-refused : goal.returns-clause-refused
returns-clause-refused c =
    let number = c.in-Some.header.number in
    let same = first_run_fault-steps c.args.net.now c.args.bytes.now c.new-lines.result number c.in-Some.header.text.now c.in-Some-stated_length.stated c.next_header.new.lines c.new-lines.ensures c.in-Some.ensures c.in-Some-stated_length.ensures.length in
    subst (λ (fault : Option RunFault). IfErr c.read_steps.result (TellsFault fault)) (sym same) (c.read_steps.ensures.refused number)
