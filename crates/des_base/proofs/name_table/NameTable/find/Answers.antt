-- The keys and the names are searched alike.
use Rattle.std.proofs.Common.{◌≡◌, ◌∙◌, sym, Some}
use Rattle.des_base.specs.Names.{place_of}
use Rattle.des_base.proofs.TableLemmas.{found, place_of-within}
use Rattle.des_base.proofs.name_table.NameTable.find.Goals as goal

there : (c : goal.In-Some) → Some c.in-Some.place ≡ place_of c.args.text.now c.args.self.now
there c = found c.args.text.now c.self.inside.table.entries _ _ c.self.invariant (sym c.in-Some.is ∙ c.get_index_of.ensures.index) c.self.view_is

pub returns-in-Some-clause-place : goal.returns-in-Some-clause-place
returns-in-Some-clause-place c = there c

pub returns-in-Some-clause-within : goal.returns-in-Some-clause-within
returns-in-Some-clause-within c = place_of-within _ _ _ (there c)

pub returns-in-None-clause-place : goal.returns-in-None-clause-place
returns-in-None-clause-place c = found c.args.text.now c.self.inside.table.entries _ _ c.self.invariant (sym c.in-None.is ∙ c.get_index_of.ensures.index) c.self.view_is
