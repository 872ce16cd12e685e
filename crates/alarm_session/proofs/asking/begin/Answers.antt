use Rattle.std.proofs.Common.{◌∙◌, None, ap, arith, refl}
use Rattle.alarm_session.proofs.Refusing.{accepted}
use Rattle.alarm_session.proofs.Stages.{stage_begun}
use Rattle.alarm_session.proofs.asking.begin.Goals as goal
use Rattle.least_faults.proofs.AxiomLists.{front_adds}
use Rattle.log_order.specs.Log.{no_log}
use Rattle.replay.specs.QuestionSize.{question_size}
use Rattle.run_decode.specs.QuestionAxioms.{question_axioms}
use Rattle.sat_solve.specs.Solving.{SolverState}

pub returns-in-Ok-clause-refused : goal.returns-in-Ok-clause-refused
returns-in-Ok-clause-refused g c =
    let log = ap (λ l. question_size c.args.setting.net.now l c.args.setting.steps) c.new-log.ensures in
    accepted None (question_size c.args.setting.net.now no_log c.args.setting.steps) refl (omega (arith, c.question_size-size.ensures.size, log, c.if-size-gt-MOST_SIZE.false))

pub returns-in-Ok-clause-kept : goal.returns-in-Ok-clause-kept
returns-in-Ok-clause-kept g c =
    let built = c.in-Ok.ensures.built in
    record {
      of_log = record {
        limits = record {
          steps = c.requires.steps;
          size = omega (arith, c.question_size-size.ensures.size, c.if-size-gt-MOST_SIZE.false);
        };
        size = c.question_size-size.ensures.size;
        belong = built.belong;
        time = built.steps;
      };
      ready = built.ready;
    }

pub returns-in-Ok-clause-begun : goal.returns-in-Ok-clause-begun
returns-in-Ok-clause-begun g c =
    let built = c.in-Ok.ensures.built in
    let adds = front_adds (question_axioms c.args.setting.net.now c.new-log.result c.args.setting.steps 0) c.args.book.entries c.build.new.book.entries c.requires.empty c.build.ensures.front in
    record {
      stage = stage_begun c.args.setting.net.now c.args.setting.steps (record { log = c.new-log.result; size = c.question_size-size.result; parts = c.in-Ok.parts; book = c.build.new.book }) c.args.book.entries
          c.new-log.ensures c.requires.empty adds built.columns built.built;
      rank_is = built.rank ∙ ap (λ (s : SolverState _). s.order.rank) c.for_passing_assumptions-solver.ensures;
    }
