-- What a command answers over the bytes of its files.
use Rattle.std.proofs.Common.{◌≡◌, ◌≢◌, ◌∙◌, ◌≤◌, ◌<◌, inl, inr, ℕ, ◌+◌, List, [], ◌∷◌, ◌++◌, length, Option, Some, None, Ok, Err, IsOkAnd, IsErrAnd, IfSome, MatchOption, refl, sym, subst, append-nil, append_assoc, arith}
use Rattle.std.proofs.lemmas.Option.{MatchOption-at_none}
use Rattle.des_base.specs.CommandWords.{word_at}
use Rattle.des_base.specs.Outside.{Took}
use Rattle.endings.specs.declared.ending.Kind.{Kind}
use Rattle.endings.specs.declared.stop.Stop.{Stop}
use Rattle.endings.specs.declared.stop.Stop.TheVariants.{Load, Faulty, Long, Memory}
use Rattle.endings.specs.Transcripts.{End, said, cut, broken, Ending, EndsOne, Transcript}
use Rattle.endings.specs.Endings.{HasStatus, status_of_end, status_of_kind, ending_texts}
use Rattle.endings.specs.Files.{Loads, StopsAt, WithFile}
use Rattle.endings.specs.Texts.{FileKind, limit_of, fault_of_text}
use Rattle.diagnose_cli.specs.Commands.{IsInList, command_of}
use Rattle.diagnose_cli.specs.Tasks.{Called, Calls, NamedCommand, Reply, Task, one, told_once, IfCalled, NoCommand}
use Rattle.diagnose_cli.specs.Due.{halts, Says, Closes, InOrder, MayAnswer}
use Rattle.diagnose_cli.specs.FilesRead.{AreBytes}
use Rattle.diagnose_cli.specs.Outcomes.{IsUnbroken, Outcome, ShowsReply}
use Rattle.diagnose_cli.specs.Rows.{AreRead, AreTold, CallsWith, Row}
use Rattle.diagnose_cli.specs.Run.{Ends}
use Rattle.diagnose_cli.proofs.Called.{called_so, of_called}
use Rattle.diagnose_cli.proofs.FilesInOrder.{bytes_told, in_order}
use Rattle.diagnose_cli.proofs.StopStatus.{HasAnswer, IsStopStatus, has_answer, not_low, of_stop, reply_status}
use Rattle.endings.specs.declared.ending.Kind.TheVariants.{Undecided}
use Rattle.diagnose_cli.specs.Deciding.{DecidedRow, Suffices}

-- ---- what is said over these texts

-- by the status and what was put
pub record SaidOver (o : Outcome) (t : Task Transcript) (texts : List (List ℕ)) : Type 0 where
  pub told : Transcript
  pub says : Says t o.words o.book texts told
  pub shown : o.status ≡ status_of_end told.end
  pub put : Took o.before o.now told.texts

-- the status of a reply is that of its kind, but where the output can't be written
status_one : (kind : Kind) (end : End) (status : ℕ) → status ≢ 4 → EndsOne kind end → status ≡ status_of_end end → status ≡ status_of_kind kind
status_one kind (said other) status four is shown = subst (λ (k : Kind). status ≡ status_of_kind k) is shown
status_one kind cut status four is shown = absurd (four shown)
status_one kind broken status four is shown = absurd is

pub reply_said : (o : Outcome) (t : Task Reply) (texts : List (List ℕ)) → o.status ≢ 4 → SaidOver o (told_once t) texts → ShowsReply o (t.says o.words o.book texts)
reply_said o t texts four over =
    let one = over.says.says in
    record {
      reply = one.reply;
      says = one.says;
      shown = status_one one.reply.0 over.told.end o.status four one.ends over.shown;
      put = subst (Took o.before o.now) one.alone over.put;
    }

-- ---- over files that are told, not too long and well

-- a file that is told and isn't too long doesn't stop the command
never_stops : (l : Loads) (i : ℕ) (name : List ℕ) (limit : ℕ) (bytes : List ℕ) (e : Ending) → HasAnswer e → l.held name ≡ Some bytes → length bytes ≤ limit → IsErrAnd e (StopsAt l i name limit) → ⊥
never_stops l i name limit bytes (Err (Load j)) answer held fits h = answer.load j refl
never_stops l i name limit bytes (Err (Long j)) answer held fits h =
    let long : limit < length bytes = subst (λ (o : Option (List ℕ)). IfSome o (λ held. limit < length held)) held h.1 in omega arith
never_stops l i name limit bytes (Err Memory) answer held fits h = answer.memory refl
never_stops l i name limit bytes _ answer held fits h = absurd h

-- so it goes on with these bytes
goes_on : (l : Loads) (i : ℕ) (name : List ℕ) (limit : ℕ) (bytes : List ℕ) (next : List ℕ → Ending → Type 0) (e : Ending) → HasAnswer e → l.held name ≡ Some bytes → length bytes ≤ limit → WithFile l i name limit next e → next bytes e
goes_on l i name limit bytes next e answer held fits h =
    elim h [
      | inl s ↦ absurd (never_stops l i name limit bytes e answer held fits s)
      | inr b ↦ subst (λ (read : List ℕ). next read e) (sym (subst (λ (o : Option (List ℕ)). IfSome o (λ told. told ≡ b.0)) held b.1.told)) b.2
    ]

-- in the end it closes over them
closed : (l : Loads) (words : List (List ℕ)) (i : ℕ) (kinds : List FileKind) (files texts : List (List ℕ)) (closes : List (List ℕ) → Ending → Type 0) (e : Ending)
    → HasAnswer e → AreRead l.held words i kinds files texts → InOrder l words i kinds files closes e → closes (files ++ texts) e
closed l words i [] files [] closes e answer read h = subst (λ (fs : List (List ℕ)). closes fs e) (sym (append-nil files)) h
closed l words i (kind ∷ kinds) files (text ∷ texts) closes e answer read h =
    let next : List ℕ → Ending → Type 0 = λ bytes x. MatchOption (fault_of_text kind files bytes) (InOrder l words (i + 1) kinds (files ++ bytes ∷ []) closes x) (λ t. x ≡ Err (Faulty t)) in
    let rest = MatchOption-at_none _ _ read.0.well (goes_on l i (word_at words i) (limit_of kind) text next e answer read.0.told read.0.fits h) in
    subst (λ (fs : List (List ℕ)). closes fs e) (append_assoc files (text ∷ []) texts)
    (closed l words (i + 1) kinds (files ++ text ∷ []) texts closes e answer read.1 rest)
closed l words i _ files _ closes e answer read h = absurd read

-- ---- what a command says that the words call

-- over some texts, whatever they are
pub record ToldOver (o : Outcome) (t : Task Transcript) : Type 0 where
  pub texts : List (List ℕ)
  pub bytes : AreBytes o.loads.held o.words 1 t.files [] texts
  pub said : SaidOver o t texts

-- what is said isn't a stop after the files
within : (o : Option Stop) (told : Transcript) (says : Transcript → Type 0) → MatchOption o (says told) (λ stop. ◌≡◌ {A = Ending} (Ok told) (Err stop)) → says told
within None told says h = h
within (Some stop) told says h = cc

module _ (o : Outcome) (t : Task Transcript) where
  said_by : (texts : List (List ℕ)) (e : Ending) → IsOkAnd e (Says t o.words o.book texts) → HasStatus e o.status → Took o.before o.now (ending_texts e) → SaidOver o t texts
  said_by texts (Ok told) says shown put = record { told = told; says = says; shown = shown; put = put }
  said_by texts (Err stop) says shown put = absurd says

  told_by : (e : Ending) → (IsStopStatus o.status → ⊥) → MayAnswer o.loads o.words t o.book e → HasStatus e o.status → Took o.before o.now (ending_texts e) → ToldOver o t
  told_by (Ok told) answers h shown put =
      elim (in_order o.loads o.words (Closes t o.words o.book) (Ok told) 1 t.files [] h) [
        | inl at ↦ absurd at
        | inr over ↦ record { texts = over.texts; bytes = over.bytes; said = record { told = told; says = within (halts t o.words over.texts) told (Says t o.words o.book over.texts) over.closed; shown = shown; put = put } }
      ]
  told_by (Err stop) answers h shown put = absurd (answers (subst IsStopStatus (sym shown) (of_stop stop)))

  module _ (ends : o.status ≢ 4 → Ends o) (command : command_of o.words ≡ Calls t) where
    due : (four : o.status ≢ 4) → o.status ≢ 9 → MayAnswer o.loads o.words t o.book (ends four).ending
    due four nine =
        let e = ends four in
        of_called o.words _ _ command (e.due.says (λ p. nine (subst (λ (x : Ending). HasStatus x o.status) p e.shown))).comes

    -- over its files, if they can be read
    pub said_in_all : (texts : List (List ℕ)) → AreRead o.loads.held o.words 1 t.files [] texts → halts t o.words texts ≡ None → IsUnbroken o.status → SaidOver o t texts
    said_in_all texts files small whole =
        let four = whole.put.written in
        let e = ends four in
        said_by texts e.ending (MatchOption-at_none _ _ small (closed o.loads o.words 1 t.files [] texts (Closes t o.words o.book) e.ending (has_answer e.ending o.status e.shown whole.loaded whole.put.memory) files (due four whole.put.memory))) e.shown e.put

    pub told_over : (IsStopStatus o.status → ⊥) → ToldOver o t
    told_over answers =
        let four = not_low o.status 4 (omega arith) (omega arith) answers in
        let e = ends four in
        told_by e.ending answers (due four (not_low o.status 9 (omega arith) (omega arith) answers)) e.shown e.put

    -- over whatever bytes are told, as many as it has files
    pub said_over : (texts : List (List ℕ)) → AreTold o.loads.held o.words 1 texts → length texts ≡ length t.files → (IsStopStatus o.status → ⊥) → SaidOver o t texts
    said_over texts told many answers =
        let over = told_over answers in
        subst (SaidOver o t) (bytes_told o.loads.held o.words 1 t.files [] over.texts texts over.bytes told many) over.said

-- ---- with one reply

module _ (o : Outcome) (ends : o.status ≢ 4 → Ends o) (c : NamedCommand Reply) (listed : IsInList (one c) o.words) (word : c.Word) (texts : List (List ℕ)) where
  abbrev task : Task Transcript
  task = told_once (c.task word)

  pub row : Row o c word texts
  row reads whole = reply_said o (c.task word) texts whole.put.written (said_in_all o task ends (called_so (one c) o.words listed word reads.called) texts reads.files reads.small whole)

  -- by the status, whatever is told of the files
  pub reply_over : CallsWith o (one c) word texts → length texts ≡ length (c.task word).files → (kind : Kind) → o.status ≡ status_of_kind kind → ShowsReply o ((c.task word).says o.words o.book texts)
  reply_over asks many kind is =
      let answers = reply_status o.status kind is in
      reply_said o (c.task word) texts (not_low o.status 4 (omega arith) (omega arith) answers) (said_over o task ends (called_so (one c) o.words listed word asks.called) texts asks.told many answers)

-- The status is that of a kind, and the reply tells an answer of which P holds: what follows of each answer whose kind has that status follows.
pub shown_by : (o : Outcome) {A : Type 0} (of : A → Kind) (text : A → List ℕ) (P : A → Type 0) (kind : Kind) → o.status ≡ status_of_kind kind → {Q : Reply → Type 0} → (tells : ShowsReply o Q) (answer : A) → P answer → tells.reply ≡ (of answer, text answer)
    → {R : Type 0} → ((answer : A) → status_of_kind kind ≡ status_of_kind (of answer) → P answer → Took o.before o.now (text answer ∷ []) → R) → R
shown_by o of text P kind is tells answer holds told follows =
    follows answer (sym is ∙ subst (λ (r : Reply). o.status ≡ status_of_kind r.0) told tells.shown) holds (subst (λ (r : Reply). Took o.before o.now (r.1 ∷ [])) told tells.put)

-- ---- a budget that is large enough decides

open_end : (end : End) → 11 ≡ status_of_end end → end ≡ said Undecided
open_end (said Undecided) is = refl
open_end _ is = absurd (omega (arith, is))

pub decided : (o : Outcome) (t : Task Transcript) → (o.status ≢ 4 → Ends o) → command_of o.words ≡ Calls t → (texts : List (List ℕ)) → AreTold o.loads.held o.words 1 texts → Suffices t o.words texts → o.status ≢ 11
decided o t ends command texts told enough is =
    let over = said_over o t ends command texts told enough.0 (reply_status o.status Undecided is) in
    over.says.decided enough.1 (open_end over.told.end (sym is ∙ over.shown))

pub decided_row : (o : Outcome) → (o.status ≢ 4 → Ends o) → DecidedRow o
decided_row o ends = by (command_of o.words) refl
  where
    by : (k : Called) → command_of o.words ≡ k → IfCalled k (λ t. (texts : List (List ℕ)) → AreTold o.loads.held o.words 1 texts → Suffices t o.words texts → o.status ≢ 11)
    by NoCommand called = tt
    by (Calls t) called = decided o t ends called
