-- Each file that is too long and each fault of a text has its status.
use Rattle.std.proofs.Common.{◌≡◌, ◌≢◌, inl, inr, ℕ, ◌+◌, ◌<◌, ◌≤◌, List, [], ◌∷◌, ◌++◌, length, Bool, nat_lt, Option, Some, None, Err, IfSome, IsOkAnd, MatchOption, IsErrAnd, refl, sym, ap, subst, if◌then◌else◌, option_and_then}
use Rattle.des_base.specs.Outside.{Took}
use Rattle.des_base.specs.CommandWords.{word_at}
use Rattle.proof_ledger.specs.Book.{BookEntry}
use Rattle.endings.specs.declared.stop.Stop.{Stop}
use Rattle.endings.specs.declared.stop.Stop.TheVariants.{Usage, Load, Faulty, Long, Memory}
use Rattle.endings.specs.declared.stop.FaultyText.{FaultyText}
use Rattle.endings.specs.Transcripts.{Ending, Transcript}
use Rattle.endings.specs.Files.{Loads, StopsAt}
use Rattle.endings.specs.Endings.{HasStatus, status_of_stop, texts_of_stop, ending_texts}
use Rattle.endings.specs.Texts.{FileKind, limit_of, fault_of_text}
use Rattle.diagnose_cli.specs.Commands.{command_of}
use Rattle.diagnose_cli.specs.Tasks.{Called, Calls, MatchCalled, NoCommand}
use Rattle.diagnose_cli.specs.Due.{halts, Closes, InOrder, MayAnswer}
use Rattle.diagnose_cli.specs.Exact.{past, first_stop, stop_of_command, StopRow}
use Rattle.diagnose_cli.specs.Outcomes.{Outcome}
use Rattle.diagnose_cli.specs.Run.{Ends}
use Rattle.des_base.proofs.BoolLemmas.{is_less, not_less}
use Rattle.diagnose_cli.proofs.StopStatus.{HasAnswer, has_answer}

-- e is the stop that is stated, if one is
abbrev Is : Ending → Option Stop → Type 0
Is e o = IfSome o (λ stop. e ≡ Err stop)

long_here : (o : Option (List ℕ)) (e : Ending) (i limit : ℕ) (rest : List ℕ → Option Stop) → e ≡ Err (Long i) → IfSome o (λ held. limit < length held)
    → Is e (option_and_then (λ bytes. if nat_lt limit (length bytes) then Some (Long i) else rest bytes) o)
long_here None e i limit rest p h = tt
long_here (Some bytes) e i limit rest p h = subst (λ (b : Bool). Is e (if b then Some (Long i) else rest bytes)) (sym (is_less limit (length bytes) h)) p

holds_here : (o : Option (List ℕ)) (e : Ending) (i limit : ℕ) (bytes : List ℕ) (rest : List ℕ → Option Stop) → IfSome o (λ held. held ≡ bytes) → length bytes ≤ limit → Is e (rest bytes)
    → Is e (option_and_then (λ bytes. if nat_lt limit (length bytes) then Some (Long i) else rest bytes) o)
holds_here None e i limit bytes rest p h q = tt
holds_here (Some held) e i limit bytes rest p h q =
    subst (λ (ns : List ℕ). Is e (if nat_lt limit (length ns) then Some (Long i) else rest ns)) (sym p)
    (subst (λ (b : Bool). Is e (if b then Some (Long i) else rest bytes)) (sym (not_less limit (length bytes) h)) q)

past_here : (o : Option FaultyText) (e : Ending) (rest : Option Stop) (P : Type 0) → MatchOption o P (λ text. e ≡ Err (Faulty text)) → (P → Is e rest) → Is e (past o rest)
past_here None e rest P h f = f h
past_here (Some text) e rest P h f = h

-- it stopped at a file, neither by its load nor since memory ran out
stopped_here : (l : Loads) (i : ℕ) (name : List ℕ) (limit : ℕ) (e : Ending) (rest : List ℕ → Option Stop) → HasAnswer e → IsErrAnd e (StopsAt l i name limit)
    → Is e (option_and_then (λ bytes. if nat_lt limit (length bytes) then Some (Long i) else rest bytes) (l.held name))
stopped_here l i name limit (Err (Load j)) rest answer h = absurd (answer.load j refl)
stopped_here l i name limit (Err (Long j)) rest answer h = long_here (l.held name) (Err (Long j)) i limit rest (ap (λ k. Err (Long k)) h.0) h.1
stopped_here l i name limit (Err Memory) rest answer h = absurd (answer.memory refl)
stopped_here l i name limit _ rest answer h = absurd h

-- nor by a file: then by what stops it after them, if something does
closes_here : (o : Option Stop) (e : Ending) (says : Transcript → Type 0) → MatchOption o (IsOkAnd e says) (λ stop. e ≡ Err stop) → Is e o
closes_here None e says h = tt
closes_here (Some stop) e says h = h

in_order_exact : (l : Loads) (words : List (List ℕ)) (i : ℕ) (kinds : List FileKind) (files : List (List ℕ)) (closes : List (List ℕ) → Ending → Type 0) (halting : List (List ℕ) → Option Stop) (e : Ending)
    → ((texts : List (List ℕ)) → closes texts e → Is e (halting texts)) → HasAnswer e → InOrder l words i kinds files closes e → Is e (first_stop l.held words i kinds files halting)
in_order_exact l words i [] files closes halting e f answer h = f files h
in_order_exact l words i (kind ∷ kinds) files closes halting e f answer h =
    let rest : List ℕ → Option Stop = λ bytes. past (fault_of_text kind files bytes) (first_stop l.held words (i + 1) kinds (files ++ bytes ∷ []) halting) in
    elim h [
      | inl s ↦ stopped_here l i (word_at words i) (limit_of kind) e rest answer s
      | inr b ↦
          holds_here (l.held (word_at words i)) e i (limit_of kind) b.0 rest b.1.told b.1.fits
          (past_here (fault_of_text kind files b.0) e _ _ b.2 (in_order_exact l words (i + 1) kinds (files ++ b.0 ∷ []) closes halting e f answer))
    ]

due_exact : (l : Loads) (words : List (List ℕ)) (book : List BookEntry) (k : Called) (e : Ending) → HasAnswer e → MatchCalled k (e ≡ Err Usage) (λ t. MayAnswer l words t book e) → Is e (stop_of_command l.held words k)
due_exact l words book NoCommand e answer h = h
due_exact l words book (Calls t) e answer h = in_order_exact l words 1 t.files [] (Closes t words book) (halts t words) e (λ texts. closes_here (halts t words texts) e _) answer h

row_here : (stop : Option Stop) (o : Outcome) (e : Ending) → Is e stop → HasStatus e o.status → Took o.before o.now (ending_texts e) → IfSome stop (λ stop. (o.status ≡ status_of_stop stop) × Took o.before o.now (texts_of_stop stop))
row_here None o e h p t = tt
row_here (Some stop) o e h p t =
    (subst (λ (x : Ending). HasStatus x o.status) h p, subst (λ (x : Ending). Took o.before o.now (ending_texts x)) h t)

pub stop_row : (o : Outcome) → Ends o → o.status ≢ 3 → o.status ≢ 9 → StopRow o
stop_row o ends three nine =
    let e = ends.ending in
    let answer = has_answer e o.status ends.shown three nine in
    row_here (stop_of_command o.loads.held o.words (command_of o.words)) o e (due_exact o.loads o.words o.book (command_of o.words) e answer (ends.due.says answer.memory).comes) ends.shown ends.put
