use Rattle.std.proofs.Common.{refl}
use Rattle.alarm_session.proofs.Telling.{book_lean, book_poses}
use Rattle.alarm_session.proofs.whole.is_session_book.Goals as goal

pub returns : goal.returns
returns g c = record {
  axioms = refl;
  poses = book_poses c.args.setting.net.now c.args.setting.steps c.args.kept.now c.requires c.is_built.ensures.network c.is_whole.ensures.whole.valid _ c.has_guards.ensures.guards;
  lean = book_lean c.args.setting.net.now c.args.setting.steps c.args.kept.now c.requires;
  valid = c.is_valid.ensures;
}
