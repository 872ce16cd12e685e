-- How a command with several replies speaks: by its files, by the size of its question, and by how it tells its replies.
use Rattle.std.proofs.Common.{◌≡◌, ◌≢◌, ◌≤◌, ◌<◌, ℕ, List, [], Option, Some, Result, Ok, Err, IsErrOf, IsOkAnd, MatchOption, false, option_and_then, refl, sym, ap, subst, arith}
use Rattle.des_base.specs.Outside.{Output}
use Rattle.least_faults.specs.declared.TheConstants.{MOST_SIZE}
use Rattle.proof_ledger.specs.Book.{BookEntry}
use Rattle.telling.specs.declared.each.Broken.{Broken}
use Rattle.telling.specs.declared.each.Broken.TheVariants.{Memory, Put}
use Rattle.endings.specs.declared.ending.Kind.{Kind}
use Rattle.endings.specs.declared.stop.Stop.{Stop}
use Rattle.endings.specs.declared.stop.Stop.TheVariants.{Large, Memory as NoMemory}
use Rattle.endings.specs.Files.{Loads}
use Rattle.endings.specs.Puts.{Puts, Speaks}
use Rattle.endings.specs.Texts.{FileKind}
use Rattle.endings.specs.Transcripts.{Ending, Transcript, UnlessMemory, once}
use Rattle.diagnose_cli.specs.Commands.{command_of}
use Rattle.diagnose_cli.specs.Due.{Closes, Due, EndsBySize, HasNotBegun, InOrder, Says, StopsEmpty, above_limit, stop_by}
use Rattle.diagnose_cli.specs.FilesRead.{AreBytes, StopsAmong}
use Rattle.diagnose_cli.specs.Outcomes.{status_of_telling}
use Rattle.diagnose_cli.specs.Run.{SaysStop}
use Rattle.diagnose_cli.specs.Tasks.{Calls, Speech, Task, speaking}
use Rattle.telling.specs.Telling.{RisesExactlyIf}
use Rattle.telling.proofs.Failing.{fails_alike}
use Rattle.telling.proofs.Taking.{nothing_taken}
use Rattle.endings.proofs.Once.{speaks_once, wants_memory}
use Rattle.endings.proofs.Speaking.{put_speaks}
use Rattle.diagnose_cli.proofs.Called.{for_called}
use Rattle.diagnose_cli.proofs.FilesInOrder.{all_read, stops_among}
use Rattle.diagnose_cli.proofs.Limits.{ends_large, ends_within}
use Rattle.diagnose_cli.proofs.StopStatus.{between, is_stop, low_stop, reply_status}

-- ---- by its status

-- memory ran out before anything was said
pub broke_before : (due : Ending → Type 0) (lost : Type 0) → lost → (taken : Output) (rose : Type 0) → Speaks due lost taken taken rose 9
broke_before due lost q taken rose = put_speaks due lost taken taken rose 9 (λ four. omega (arith, four)) (wants_memory due lost q taken taken 9 refl (nothing_taken taken))

module _ {T : Type 0} (kind : T → Kind) where
  -- no stop has the status of telling,
  pub tells_no_stop : (r : Result T Broken) (status : ℕ) → status ≡ status_of_telling kind r → SaysStop status → ⊥
  tells_no_stop (Ok told) status is stop = reply_status status (kind told) is (is_stop status stop)
  tells_no_stop (Err Memory) status is stop = between status stop (omega (arith, is)) (omega (arith, is))
  tells_no_stop (Err Put) status is stop = stop.put is

  -- and a put failed where it is 4
  pub fails_by : (r : Result T Broken) (status : ℕ) (before now : Option ℕ) → status ≡ status_of_telling kind r → RisesExactlyIf (IsErrOf r Put) before now → RisesExactlyIf (status ≡ 4) before now
  fails_by (Ok told) status before now is h = fails_alike _ _ before now (λ put. cc) (λ four. absurd (reply_status status (kind told) is (low_stop status (omega (arith, four)) (omega (arith, four))))) h
  fails_by (Err Memory) status before now is h = fails_alike _ _ before now (λ put. cc) (λ four. absurd (omega (arith, is, four))) h
  fails_by (Err Put) status before now is h = fails_alike _ _ before now (λ put. is) (λ four. refl) h

-- what holds of each ending that may come holds of it
module _ (may due : Ending → Type 0) (weaker : (e : Ending) → may e → due e) (P Q : Type 0) (lost : P → Q) (before now : Output) where
  speaks_weaker : (rose : Type 0) (status : ℕ) → Speaks may P before now rose status → Speaks due Q before now rose status
  speaks_weaker rose status h = record {
    ends = λ four.
        let e = h.ends four in
        record { ending = e.ending; due = record { says = λ never. weaker e.ending (e.due.says never); wanting = λ is. lost (e.due.wanting is) }; shown = e.shown; put = e.put };
    put_failed = h.put_failed;
    cut_off = λ four. let c = h.cut_off four in record { ending = c.ending; due = weaker c.ending c.due; told_cut = c.told_cut; stops = c.stops; put = c.put };
  }

-- where nothing was asked the book is empty, and a stop leaves it so
pub stop_speaks : (may : Ending → Type 0) (lost : Type 0) (book : List BookEntry) (stop : Stop) → lost → book ≡ [] → UnlessMemory {T = Kind × List ℕ} (Err stop) (may (once (Err stop))) → (before now : Output) (rose : Type 0) (status : ℕ) → Puts (once (Err stop)) before now rose status
    → Speaks (StopsEmpty may book) lost before now rose status
stop_speaks may lost book stop q empty due before now rose status puts = speaks_once (StopsEmpty may book) lost q (Err stop) before now rose status (λ never. record { comes = due never; empty = empty }) puts tt

-- ---- by the size of its question

module _ (kinds : List FileKind) (speech : Speech) (words : List (List ℕ)) (book : List BookEntry) (texts : List (List ℕ)) (k : ℕ) (size : speech.size texts ≡ Some k) where
  abbrev Said : Transcript → Type 0
  Said = Says (speaking kinds speech) words book texts

  abbrev MayClose : Ending → Type 0
  MayClose = Closes (speaking kinds speech) words book texts

  closes_by : (e : Ending) → EndsBySize k Said e → MayClose e
  closes_by e h = subst (λ (o : Option ℕ). MatchOption (stop_by false (option_and_then above_limit o)) (IsOkAnd e Said) (λ stop. e ≡ Err stop)) (sym size) h

  pub large_speaks : MOST_SIZE < k → speech.lost book → book ≡ [] → (before now : Output) (rose : Type 0) (status : ℕ) → Puts (once (Err (Large k))) before now rose status → Speaks (StopsEmpty MayClose book) (speech.lost book) before now rose status
  large_speaks above lost empty = stop_speaks MayClose (speech.lost book) book (Large k) lost empty (λ never. closes_by (Err (Large k)) (ends_large k k Said refl above))

  in_book : k ≤ MOST_SIZE → (e : Ending) → IsOkAnd e (speech.says book texts) → StopsEmpty MayClose book e
  in_book small (Ok told) h = record { comes = closes_by (Ok told) (ends_within k k Said told refl small (record { says = h; decided = λ enough. absurd enough })); empty = tt }
  in_book small (Err stop) h = absurd h

  pub sized_speaks : k ≤ MOST_SIZE → (before now : Output) (rose : Type 0) (status other : ℕ) → status ≡ other → Speaks (λ e. IsOkAnd e (speech.says book texts)) (speech.lost book) before now rose other → Speaks (StopsEmpty MayClose book) (speech.lost book) before now rose status
  sized_speaks small before now rose status other shown speaks =
      subst (Speaks (StopsEmpty MayClose book) (speech.lost book) before now rose) (sym shown)
      (speaks_weaker (λ e. IsOkAnd e (speech.says book texts)) (StopsEmpty MayClose book) (in_book small) (speech.lost book) (speech.lost book) (λ q. q) before now rose other speaks)

-- ---- for the words that call it

-- it reads its files, and speaks over them, or stops at one of them
module _ (l : Loads) (words : List (List ℕ)) (t : Task Transcript) (book : List BookEntry) (called : command_of words ≡ Calls t) (kinds : List FileKind) (has : t.files ≡ kinds) where
  due : (e : Ending) → InOrder l words 1 kinds [] (Closes t words book) e → Due l words book e
  due e h = for_called words _ _ called (subst (λ (ks : List FileKind). InOrder l words 1 ks [] (Closes t words book) e) (sym has) h)

  pub files_speak : (texts : List (List ℕ)) → AreBytes l.held words 1 kinds [] texts → (before now : Output) (rose : Type 0) (status : ℕ) → Speaks (StopsEmpty (Closes t words book texts) book) (t.lost book) before now rose status
      → Speaks (StopsEmpty (Due l words book) book) (HasNotBegun words book) before now rose status
  files_speak texts read before now rose status speaks =
      speaks_weaker (StopsEmpty (Closes t words book texts) book) (StopsEmpty (Due l words book) book)
      (λ e h. record { comes = due e (all_read l words (Closes t words book) 1 kinds [] texts e read h.comes); empty = h.empty }) (t.lost book) (HasNotBegun words book) (λ q. for_called words _ _ called q) before now rose status speaks

  pub files_stop : (stop : Stop) → t.lost book → book ≡ [] → (stop ≢ NoMemory → StopsAmong l words 1 kinds [] stop) → (before now : Output) (rose : Type 0) (status : ℕ) → Puts (once (Err stop)) before now rose status
      → Speaks (StopsEmpty (Due l words book) book) (HasNotBegun words book) before now rose status
  files_stop stop lost empty at =
      stop_speaks (Due l words book) (HasNotBegun words book) book stop (for_called words _ _ called lost) empty
      (λ never. due (Err stop) (stops_among l words (Closes t words book) 1 kinds [] stop (at (λ is. never (ap (λ s. Err s) is)))))
