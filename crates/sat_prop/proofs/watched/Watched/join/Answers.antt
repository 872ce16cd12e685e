use Rattle.std.proofs.Common.{List, sym, subst}
use Rattle.prop_core.specs.Clauses.{Clause}
use Rattle.sat_prop.specs.Changes.{IsFront}
use Rattle.des_base.proofs.Elements.{take_whole}
use Rattle.sat_prop.proofs.watched.Watched.join.Goals as goal

pub drop_each_subsumed-requires-clause-grown : goal.drop_each_subsumed-requires-clause-grown
drop_each_subsumed-requires-clause-grown c = subst (λ (cs : List Clause). IsFront cs c.args.db.now.clauses) (sym c.add_learnt.ensures.grown.clauses) (take_whole c.args.db.now.clauses)
