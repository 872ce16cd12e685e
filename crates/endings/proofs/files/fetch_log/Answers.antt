-- The log is that of the bytes, which have no fault.
use Rattle.std.proofs.Common.{ℕ, List, sym, subst}
use Rattle.des_base.specs.CommandWords.{word_at}
use Rattle.endings.proofs.Reading.{log_read}
use Rattle.endings.proofs.files.fetch_log.Goals as goal
use Rattle.endings.specs.Files.{Holds}
use Rattle.endings.specs.declared.files.TheConstants.{LOG_LIMIT}

pub returns-clause-log : goal.returns-clause-log
returns-clause-log g c =
    let held = g.F.Shelf.held c.args.shelf.now in
    let bytes = subst (λ (text : List ℕ). Holds held c.word.result.now LOG_LIMIT text) (sym c.as_slice.ensures.value) c.in_ok-text.ensures.fetches in
    log_read held (word_at c.args.words.now c.args.place) LOG_LIMIT c.as_slice.result.now c.in_ok-read_log.field-0 (subst (λ (name : List ℕ). Holds held name LOG_LIMIT c.as_slice.result.now) c.word.ensures bytes) c.in_ok-read_log.ensures.well c.in_ok-read_log.ensures.log
