-- What is due for the words of a command, or for words that call none, and what is left in the book.
use Rattle.std.proofs.Common.{◌≡◌, ℕ, List, Option, Some, None, Result, Ok, Err, IsOkAnd, MatchOption, refl, ◌≢◌, ◌∙◌, inl, [], length, Bool, true, false, IfOk, IsErrAnd, ap, sym, subst}
use Rattle.proof_ledger.specs.Book.{BookEntry}
use Rattle.endings.specs.declared.ending.Kind.{Kind}
use Rattle.endings.specs.declared.ending.Kind.TheVariants.{Undecided}
use Rattle.endings.specs.declared.stop.Stop.{Stop}
use Rattle.diagnose_cli.specs.Tasks.{Reply, Task, told_once, AreWords, Called, Calls, MatchCalled, NamedCommand, NoCommand, one}
use Rattle.diagnose_cli.specs.Due.{MayReply, Says, Closes, ClosesOnce, Due, InOrder, IsDue, halts}
use Rattle.endings.specs.Transcripts.{End, said, Ending, Transcript, cut_short, once, whole, UnlessMemory}
use Rattle.std.specs.Prelude.{⊤, cond}
use Rattle.endings.specs.Files.{Loads}
use Rattle.endings.specs.Texts.{FileKind}
use Rattle.endings.specs.declared.stop.Stop.TheVariants.{Memory}
use Rattle.inquiries.specs.Begun.{IsEmptyOr}
use Rattle.diagnose_cli.specs.Commands.{IsInList, command_of}
use Rattle.diagnose_cli.specs.FilesRead.{AreBytes, StopsAmong}
use Rattle.diagnose_cli.specs.Rows.{AreTold, Leaves, LeftBy}
use Rattle.diagnose_cli.specs.Run.{AsksNone, CallsNone, LoadsNone}
use Rattle.diagnose_cli.proofs.Called.{called_so, for_called, of_called}
use Rattle.diagnose_cli.proofs.FilesInOrder.{all_read, bytes_told, stops_among}

module _ (t : Task Reply) (words : List (List ℕ)) (book : List BookEntry) (texts : List (List ℕ)) (reply : Reply) (may : MayReply t words book texts reply) where
  says_whole : Says (told_once t) words book texts (whole reply)
  says_whole = record { says = record { reply = reply; says = may.says; alone = refl; ends = refl }; decided = λ enough is. may.decided enough (same reply.0 is) }
    where
      same : (kind : Kind) → ◌≡◌ {A = End} (said kind) (said Undecided) → kind ≡ Undecided
      same kind is = cc

  says_cut : Says (told_once t) words book texts (cut_short reply)
  says_cut = record { says = record { reply = reply; says = may.says; alone = refl; ends = tt }; decided = λ enough is. cc }

-- after its files it stops so, or this is put of its reply
abbrev Puts : Task Reply → List (List ℕ) → List BookEntry → List (List ℕ) → Option Stop → Ending → Type 0
Puts t words book texts stop e = MatchOption stop (IsOkAnd e (Says (told_once t) words book texts)) (λ s. e ≡ Err s)

module _ (t : Task Reply) (words : List (List ℕ)) (book : List BookEntry) (texts : List (List ℕ)) where
  pub put_once : (stop : Option Stop) (r : Result Reply Stop) → MatchOption stop (IsOkAnd r (MayReply t words book texts)) (λ s. r ≡ Err s) → Puts t words book texts stop (once r)
  put_once None (Ok reply) h = says_whole t words book texts reply h
  put_once None (Err why) h = absurd h
  put_once (Some stop) (Ok reply) h = cc
  put_once (Some stop) (Err why) h = cc

  pub put_cut : (stop : Option Stop) (reply : Reply) → MatchOption stop (MayReply t words book texts reply) (λ s. ◌≡◌ {A = Result Reply Stop} (Ok reply) (Err s)) → Puts t words book texts stop (Ok (cut_short reply))
  put_cut None reply h = says_cut t words book texts reply h
  put_cut (Some stop) reply h = cc

-- ---- words that call nothing

pub nothing_called : (words : List (List ℕ)) → CallsNone words → command_of words ≡ NoCommand
nothing_called words none = by (command_of words) none
  where
    by : (k : Called) → MatchCalled k ⊤ (λ t. ⊥) → k ≡ NoCommand
    by NoCommand none = refl
    by (Calls t) none = absurd none

-- ---- what is left in the book by words that call a command

module _ (held : List ℕ → Option (List ℕ)) (words : List (List ℕ)) (t : Task Transcript) (book : List BookEntry) (called : command_of words ≡ Calls t) where
  -- each may leave an empty book,
  pub nothing_left : book ≡ [] → LeftBy held words book
  nothing_left empty = for_called words _ _ called (λ texts told. by texts t.asks)
    where
      by : (texts : List (List ℕ)) (asks : Bool) → cond asks (length texts ≡ length t.files → IsEmptyOr (t.leaves words texts) book) ⊤
      by texts true = λ long. inl empty
      by texts false = tt

  -- or what it leaves over the bytes of its files, which are those that are told
  pub left_over : (texts : List (List ℕ)) → AreBytes held words 1 t.files [] texts → Leaves t words texts book → LeftBy held words book
  left_over texts read left = for_called words _ _ called (λ others told. by others told t.asks left)
    where
      by : (others : List (List ℕ)) → AreTold held words 1 others → (asks : Bool) → cond asks (length texts ≡ length t.files → IsEmptyOr (t.leaves words texts) book) ⊤ → cond asks (length others ≡ length t.files → IsEmptyOr (t.leaves words others) book) ⊤
      by others told true left = λ long.
          let same = bytes_told held words 1 t.files [] texts others read told long in
          subst (λ (ts : List (List ℕ)). IsEmptyOr (t.leaves words ts) book) same (left (ap length same ∙ long))
      by others told false left = tt

-- ---- a command with one reply, by the kinds of its files

module _ (c : NamedCommand Reply) (words : List (List ℕ)) (listed : IsInList (one c) words) (word : c.Word) (are : AreWords (one c) word words) (kinds : List FileKind) (has : (w : c.Word) → (c.task w).files ≡ kinds) where
  abbrev task : Task Transcript
  task = told_once (c.task word)

  pub known : command_of words ≡ Calls task
  known = called_so (one c) words listed word are

  pub no_kinds : LoadsNone words → kinds ≡ []
  no_kinds none = sym (has word) ∙ of_called words _ _ known none

  pub unasked : AsksNone words → task.asks ≡ false
  unasked none = of_called words _ _ known none

  module _ (l : Loads) (book : List BookEntry) where
    due : (e : Ending) → InOrder l words 1 kinds [] (Closes task words book) e → Due l words book e
    due e h = for_called words _ _ known (subst (λ (ks : List FileKind). InOrder l words 1 ks [] (Closes task words book) e) (sym (has word)) h)

    -- it stops at one of them, and nothing is asked
    pub stop_due : (r : Result Reply Stop) (stop : Stop) → IsErrAnd r (λ e. e ≡ stop) → (stop ≢ Memory → StopsAmong l words 1 kinds [] stop) → IsDue l words book r
    stop_due (Ok reply) stop is at = absurd is
    stop_due (Err e) stop is at = record {
      due = λ never. due (Err e) (stops_among l words (Closes task words book) 1 kinds [] e (subst (StopsAmong l words 1 kinds []) (sym is) (at (λ m. never (ap (λ (s : Stop). Err s) (is ∙ m))))));
      cut = tt;
      begun = for_called words _ _ known tt;
    }

    -- or it answers over their bytes
    pub answer_due : (texts : List (List ℕ)) → AreBytes l.held words 1 kinds [] texts → (r : Result Reply Stop) → UnlessMemory r (ClosesOnce (c.task word) words book texts r) → IsDue l words book r
    answer_due texts read r closes = record { due = λ never. put (once r) (put_once (c.task word) words book texts (halts task words texts) r (closes never)); cut = by r closes; begun = for_called words _ _ known tt }
      where
        put : (e : Ending) → Closes task words book texts e → Due l words book e
        put e h = due e (all_read l words (Closes task words book) 1 kinds [] texts e read h)

        by : (r : Result Reply Stop) → UnlessMemory r (ClosesOnce (c.task word) words book texts r) → IfOk r (λ reply. Due l words book (Ok (cut_short reply)))
        by (Ok reply) closes = put (Ok (cut_short reply)) (put_cut (c.task word) words book texts (halts task words texts) reply (closes (λ never. cc)))
        by (Err stop) closes = tt

  -- so it is with what is left
  pub answer_left : (held : List ℕ → Option (List ℕ)) (book : List BookEntry) (texts : List (List ℕ)) → AreBytes held words 1 kinds [] texts → Leaves task words texts book → LeftBy held words book
  answer_left held book texts read left = left_over held words task book known texts (subst (λ (ks : List FileKind). AreBytes held words 1 ks [] texts) (sym (has word)) read) left
