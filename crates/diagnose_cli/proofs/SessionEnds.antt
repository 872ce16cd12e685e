-- How a session ends that has carried out some rows: finished, or cut off or broken off at a row that it came to.
use Rattle.std.proofs.Common.{◌≡◌, ℕ, List, [], Result, Ok, Err, refl, subst}
use Rattle.alarm_session.specs.Session.{IsSessionBook, Stage, first_stage}
use Rattle.des_base.specs.Outside.{Output}
use Rattle.log_csv.specs.declared.row.Row.{Row}
use Rattle.telling.specs.Telling.{BreaksOff, ComesTo as TellsTo, EachGoes, IsCutShort, TellsEach}
use Rattle.telling.specs.declared.each.Broken.{Broken}
use Rattle.telling.specs.declared.each.Broken.TheVariants.{Memory, Put}
use Rattle.endings.specs.declared.ending.Kind.TheVariants.{Done}
use Rattle.diagnose_cli.specs.declared.session_rows.Plan.{Plan}
use Rattle.endings.specs.Puts.{Speaks}
use Rattle.diagnose_cli.specs.SessionReplies.{SessionComesTo, EndsSession, HasReplies, IsRowReplied, IsUntold}
use Rattle.diagnose_cli.specs.Sessions.{MaySay, RowIsUntold, RowTells, status_of_session}
use Rattle.endings.specs.Transcripts.{Ending, said, cut, broken}
use Rattle.diagnose_cli.proofs.SessionFronts.{nothing_replied, row_replied, rows_told}
use Rattle.endings.proofs.Speaking.{speaks_broken, speaks_cut, speaks_said}

module _ {S : Type 0} (plan : S → Plan) (stage : S → Stage) (s : S) (rows : List Row) (t : S) (begins : stage s ≡ first_stage (plan s).net (plan s).limits.steps) (asks : IsSessionBook (plan s).net (plan s).limits.steps (stage s)) where
  -- the rows so far, from the beginning on
  so_far : (front : List Row) (left : S) (texts : List (List ℕ)) → TellsEach (RowTells plan stage) s front left texts → (plan left ≡ plan s) × HasReplies (plan s).net (plan s).limits.steps (plan s).limits.budget front (stage left) texts
  so_far front left texts told = rows_told plan stage s [] front left [] texts (nothing_replied (plan s).net (plan s).limits.steps (plan s).limits.budget (stage s) begins asks) told

  -- it came to a row
  comes_to : (row : Row) (left : S) (texts : List (List ℕ)) → TellsTo (RowTells plan stage) s rows row left texts → SessionComesTo (plan s).net (plan s).limits.steps (plan s).limits.budget rows row (stage left) texts
  comes_to row left texts comes = record { front = comes.front; others = comes.others; split = comes.split; replied = (so_far comes.front left texts comes.told).1 }

  -- what is said is what a session says, by the way that it ends
  finished : (texts : List (List ℕ)) → TellsEach (RowTells plan stage) s rows t texts → EndsSession (plan s).net (plan s).limits.steps (plan s).limits.budget rows (stage t).book texts (said Done)
  finished texts told = (refl, record { left = stage t; replied = (so_far rows t texts told).1; book_is = refl })

  broken_off : (texts : List (List ℕ)) → BreaksOff (RowTells plan stage) (RowIsUntold plan stage) s rows t texts → EndsSession (plan s).net (plan s).limits.steps (plan s).limits.budget rows (stage t).book texts broken
  broken_off texts h =
      let same = (so_far h.comes.front h.mid texts h.comes.told).0 in
      record {
        row = h.item;
        left = stage h.mid;
        end = stage t;
        comes = comes_to h.item h.mid texts h.comes;
        untold = subst (λ (p : Plan). IsUntold p.net p.limits.steps p.limits.budget h.item (stage h.mid) (stage t)) same h.untold.untold;
        book_is = refl;
      }

  cut_off : (texts : List (List ℕ)) → IsCutShort (RowTells plan stage) s rows t texts → EndsSession (plan s).net (plan s).limits.steps (plan s).limits.budget rows (stage t).book texts cut
  cut_off texts h =
      let same = (so_far h.comes.front h.mid h.earlier h.comes.told).0 in
      let replied : IsRowReplied (plan h.mid).net (plan h.mid).limits.steps (plan h.mid).limits.budget (stage h.mid) h.item (stage t) h.last =
      row_replied (plan h.mid).net (plan h.mid).limits.steps (plan h.mid).limits.budget (stage h.mid) h.item (stage t) h.told.told h.last h.told.carried h.told.is in
      record {
        row = h.item;
        left = stage h.mid;
        end = stage t;
        earlier = h.earlier;
        last = h.last;
        comes = comes_to h.item h.mid h.earlier h.comes;
        replied = subst (λ (p : Plan). IsRowReplied p.net p.limits.steps p.limits.budget (stage h.mid) h.item (stage t) h.last) same replied;
        book_is = refl;
        are = h.are;
      }

  abbrev may : Ending → Type 0
  may = MaySay (plan s).net (plan s).limits.steps (plan s).limits.budget rows (stage t).book

  -- so it speaks as a session may
  pub rows_speak : (before now : Output) (rose : Type 0) (r : Result (Unit {0}) Broken) → EachGoes (RowTells plan stage) (RowIsUntold plan stage) s rows t before now rose r → Speaks may ((stage t).book ≡ []) before now rose (status_of_session r)
  rows_speak before now rose (Ok done) goes = speaks_said may ((stage t).book ≡ []) before now rose goes.texts Done (finished goes.texts goes.says) goes.put
  rows_speak before now rose (Err Memory) goes = speaks_broken may ((stage t).book ≡ []) before now rose goes.texts (broken_off goes.texts goes.says) goes.put
  rows_speak before now rose (Err Put) goes = speaks_cut may ((stage t).book ≡ []) before now rose goes.texts (cut_off goes.texts goes.says) goes.put.0 goes.put.1
