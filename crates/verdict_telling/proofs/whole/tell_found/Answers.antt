-- By what was found, and the reply that tells it.
use Rattle.std.proofs.Common.{ℕ, subst}
use Rattle.inquiries.specs.Diagnosed.{IsDiagnosed}
use Rattle.telling.proofs.Taking.{nothing_taken}
use Rattle.verdict_telling.proofs.Both.{built_still, puts_found, stays_ready}
use Rattle.verdict_telling.proofs.Runs.{found_known}
use Rattle.verdict_telling.proofs.whole.tell_found.Goals as goal

pub put_found-requires : goal.put_found-requires
put_found-requires g c = found_known c.args.case.now.net c.args.case.now.log c.args.parts.now.step.steps c.args.budget c.find_least.new.book.entries c.in-Ok.found c.in-Ok.ensures.diagnosed

pub returns-in-Ok-clause-tells : goal.returns-in-Ok-clause-tells
returns-in-Ok-clause-tells g c =
    let net = c.args.case.now.net in
    let log = c.args.case.now.log in
    let book = c.find_least.new.book.entries in
    let found = c.in-Ok.found in
    puts_found net log c.args.steps c.args.budget book _ _ _ found c.put_found.result (subst (λ (n : ℕ). IsDiagnosed net log n c.args.budget book found) c.requires.time c.in-Ok.ensures.diagnosed) c.put_found.ensures.puts

pub returns-in-Err-clause-tells : goal.returns-in-Err-clause-tells
returns-in-Err-clause-tells g c = nothing_taken _

pub returns-in-Ok-clause-stays : goal.returns-in-Ok-clause-stays
returns-in-Ok-clause-stays g c =
    stays_ready (goal.R-pre g) (goal.R-post g) c.args.case.now.net c.args.case.now.log c.args.steps c.args.parts.now c.find_least.new.parts c.find_least.new.book.entries c.requires.time c.find_least.ensures.kept.step c.find_least.ensures.kept.code c.requires.begun.parts_of.belong c.requires.size
    (built_still c.args.case.now.net c.args.case.now.log c.args.parts.now c.find_least.new.parts c.args.book.now.entries c.find_least.new.book.entries c.find_least.ensures.kept c.requires.begun.parts_of.built) c.find_least.ensures.ready

pub returns-in-Err-clause-stays : goal.returns-in-Err-clause-stays
returns-in-Err-clause-stays g c =
    stays_ready (goal.R-pre g) (goal.R-post g) c.args.case.now.net c.args.case.now.log c.args.steps c.args.parts.now c.find_least.new.parts c.find_least.new.book.entries c.requires.time c.find_least.ensures.kept.step c.find_least.ensures.kept.code c.requires.begun.parts_of.belong c.requires.size
    (built_still c.args.case.now.net c.args.case.now.log c.args.parts.now c.find_least.new.parts c.args.book.now.entries c.find_least.new.book.entries c.find_least.ensures.kept c.requires.begun.parts_of.built) c.find_least.ensures.ready
