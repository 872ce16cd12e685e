use Rattle.des_base.proofs.Results.{on_err}
use Rattle.fault_verdicts.proofs.Witnesses.{judge_after, unkept_of}
use Rattle.fault_verdicts.proofs.others.ask_kept.Goals as goal

pub returns-in_err-keep-clause-ready : goal.returns-in_err-keep-clause-ready
returns-in_err-keep-clause-ready g c =
    let about = c.args.about in
    record {
      is_of = judge_after about.net.now about.log.now about.best.now c.args.event about.budget c.args.kept.now (record { parts = c.verdict.new.parts; book = c.verdict.new.book; others = c.keep.new.others }) c.args.kept.now.book.entries c.verdict.new.book.entries c.in_ok-found.found
          c.verdict.ensures.goes_on c.requires.ready.is_of c.keep.ensures c.in_ok-found.ensures.judged;
      ready = c.verdict.ensures.ready;
    }

pub returns-clause-ready : goal.returns-clause-ready
returns-clause-ready g c =
    let about = c.args.about in
    record {
      is_of = judge_after about.net.now about.log.now about.best.now c.args.event about.budget c.args.kept.now (record { parts = c.verdict.new.parts; book = c.verdict.new.book; others = c.keep.new.others }) c.args.kept.now.book.entries c.verdict.new.book.entries c.in_ok-found.found
          c.verdict.ensures.goes_on c.requires.ready.is_of c.keep.ensures c.in_ok-found.ensures.judged;
      ready = c.verdict.ensures.ready;
    }

pub returns-in_err-keep-clause-unjudged : goal.returns-in_err-keep-clause-unjudged
returns-in_err-keep-clause-unjudged g c =
    let about = c.args.about in
    on_err _ _ (unkept_of about.net.now about.log.now about.best.now c.args.event about.budget c.args.kept.now (record { parts = c.verdict.new.parts; book = c.verdict.new.book; others = c.keep.new.others }) c.args.kept.now.book.entries c.verdict.new.book.entries c.in_ok-found.found
    c.verdict.ensures.goes_on c.in_ok-found.ensures.judged
    )
