-- The new entry stands last, and its key is the name's bytes.
use Rattle.std.proofs.Common.{◌∙◌}
use Rattle.des_base.proofs.TableLemmas.{added, Added}
use Rattle.des_base.proofs.name_table.NameTable.add.Goals as goal

the_new : (c : goal.Joined-branch-3) → Added c.args.self.now c.insert.new.self.entries c.args.name
the_new c = added _ _ c.in_ok-key.key _ _ c.self.invariant c.self.view_is c.in_ok-insert.ensures.entries
    (c.in_ok-key.ensures.items ∙ c.as_bytes.ensures.value ∙ c.as_str.ensures.text) c.as_str.ensures.name c.requires.new c.requires.room

pub invariant_of-self-2 : goal.invariant_of-self-2
invariant_of-self-2 c = (the_new c).kept

pub returns-clause-ok : goal.returns-clause-ok
returns-clause-ok c = (the_new c).grown
