use Rattle.alarm_session.proofs.Rowing.{addition_told, addition_undone}
use Rattle.alarm_session.proofs.rows.carry_out_kept.Goals as goal
use Rattle.alarm_session.specs.Session.{stage_of}

pub returns-in_default : goal.returns-in_default
returns-in_default g c =
    let net = c.args.setting.net.now in
    let n = c.args.setting.steps in
    let old = stage_of c.args.kept.now in
    let new = stage_of c.put_row-answer.new.kept in
    record {
      kept = c.put_row-answer.ensures.kept;
      rank = c.put_row-answer.ensures.rank;
      told = addition_told net n c.args.budget old c.args.row.now new c.put_row-answer.result c.told_by.result c.told_by.ensures c.in_default.not-Ask c.put_row-answer.ensures.refused
          c.put_row-answer.ensures.added c.put_row-answer.ensures.again c.put_row-answer.ensures.same c.is_session_book-in_default.ensures;
      undone = addition_undone net n c.args.budget old c.args.row.now new c.put_row-answer.result c.told_by.result c.told_by.ensures c.put_row-answer.ensures.same c.is_session_book-in_default.ensures;
    }
