use Rattle.std.proofs.lemmas.Result.{on_err_weaker}
use Rattle.cost_least.proofs.Answering.{can_search, solved}
use Rattle.sat_solve.proofs.Leaving.{learnt_alone}
use Rattle.cost_least.proofs.Weighed.{goes_by_search}
use Rattle.cost_least.proofs.asking.solve.Goals as goal

pub solve-requires : goal.solve-requires
solve-requires g c =
    let can = can_search _ _ c.requires.weighed.0 c.args.parts.now c.args.question.scale c.args.book.now.entries _ _ c.args.within _ _ c.requires.weighed.1 c.requires.belong c.is_built.ensures.network c.is_whole.ensures.whole.valid c.has_guards.ensures.guards c.requires.bound c.as_slice.ensures.value c.in_ok-assumed.ensures in
    record { adopted = c.requires.weighed.1.adopted_all; known = can.known; compatible = can.compatible }

pub returns-clause-goes_on : goal.returns-clause-goes_on
returns-clause-goes_on g c = goes_by_search _ _ c.args.parts.now c.args.question.scale c.solve.new.self _ _ _ _ c.requires.weighed.1.known c.solve.ensures.searched c.solve.ensures.adopted c.solve.ensures.kept

pub returns-clause-solved : goal.returns-clause-solved
returns-clause-solved g c = solved _ _ _ _ _ _ _ _ c.solve.result c.as_slice.ensures.value c.in_ok-assumed.ensures c.requires.weighed.1.known c.solve.ensures.searched c.solve.ensures.put c.solve.ensures.answer

pub returns-clause-quit : goal.returns-clause-quit
returns-clause-quit g c = on_err_weaker c.solve.result (learnt_alone c.args.book.now.entries c.solve.new.book.entries) c.solve.ensures.quit
