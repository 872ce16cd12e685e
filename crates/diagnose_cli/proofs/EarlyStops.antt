-- What the status of `USAGE` and that of `LOAD` tell, whichever command the words call.
use Rattle.std.proofs.Common.{◌≡◌, ◌≢◌, ◌∙◌, ◌≤◌, inl, inr, ℕ, List, [], length, Bool, true, false, Option, Some, None, Ok, Err, IsOkAnd, MatchOption, refl, sym, ap, subst, arith}
use Rattle.std.specs.Prelude.{⊤}
use Rattle.des_base.specs.Outside.{Took}
use Rattle.proof_ledger.specs.Book.{BookEntry}
use Rattle.endings.specs.declared.stop.Stop.{Stop}
use Rattle.endings.specs.declared.stop.Stop.TheVariants.{Usage, Load, Faulty, NoFault, Large, Memory}
use Rattle.endings.specs.Endings.{HasStatus, ending_texts, status_of_end, status_of_stop}
use Rattle.endings.specs.Files.{Loads}
use Rattle.endings.specs.Transcripts.{End, Ending, Transcript, said}
use Rattle.diagnose_cli.specs.Commands.{command_of}
use Rattle.diagnose_cli.specs.Due.{Closes, Due, MayAnswer, Says, stop_by, too_large}
use Rattle.diagnose_cli.specs.Outcomes.{Outcome}
use Rattle.diagnose_cli.specs.Run.{CallsNone, Ends, LoadRow, RoseFor}
use Rattle.diagnose_cli.specs.Tasks.{Called, Calls, MatchCalled, NoCommand, Task}
use Rattle.diagnose_cli.proofs.Called.{of_called}
use Rattle.diagnose_cli.proofs.FilesInOrder.{StopsAtFile, in_order}
use Rattle.diagnose_cli.proofs.StopStatus.{faulty_high, low_stop, reply_status}

-- ---- which ending it is

no_end : (end : End) (status : ℕ) → status ≡ status_of_end end → 2 ≤ status → status ≤ 3 → ⊥
no_end (said kind) status is low high = reply_status status kind is (low_stop status low (omega (arith, high)))
no_end _ status is low high = omega (arith, is, high)

is_usage : (e : Ending) → HasStatus e 2 → e ≡ Err Usage
is_usage (Ok told) is = absurd (no_end told.end 2 is (omega arith) (omega arith))
is_usage (Err Usage) is = refl
is_usage (Err (Faulty text)) is = absurd (omega (arith, is, faulty_high text))
is_usage (Err _) is = absurd (omega (arith, is))

is_load : (e : Ending) → HasStatus e 3 → (file : ℕ) × (e ≡ Err (Load file))
is_load (Ok told) is = absurd (no_end told.end 3 is (omega arith) (omega arith))
is_load (Err (Load file)) is = (file, refl)
is_load (Err (Faulty text)) is = absurd (omega (arith, is, faulty_high text))
is_load (Err _) is = absurd (omega (arith, is))

-- ---- a stop of a low status is by the words or at a file

same_stop : (stop other : Stop) → ◌≡◌ {A = Ending} (Err stop) (Err other) → stop ≡ other
same_stop stop other is = cc

-- after the files the statuses are higher
never_after : (stop : Stop) (lacks : Bool) (size : Option ℕ) (says : Transcript → Type 0) → MatchOption (stop_by lacks size) (IsOkAnd (Err stop) says) (λ s. ◌≡◌ {A = Ending} (Err stop) (Err s)) → 8 ≤ status_of_stop stop
never_after stop true size says h = subst (λ (s : Stop). 8 ≤ status_of_stop s) (sym (same_stop stop NoFault h)) (omega arith)
never_after stop false None says h = absurd h
never_after stop false (Some n) says h = subst (λ (s : Stop). 8 ≤ status_of_stop s) (sym (same_stop stop (Large n) h)) (omega arith)

module _ (l : Loads) (words : List (List ℕ)) (book : List BookEntry) where
  at_file : (stop : Stop) (t : Task Transcript) → status_of_stop stop ≤ 3 → MayAnswer l words t book (Err stop) → StopsAtFile l words 1 t.files stop
  at_file stop t low h =
      elim (in_order l words (Closes t words book) (Err stop) 1 t.files [] h) [
        | inl at ↦ at
        | inr c ↦ absurd (omega (arith, low, never_after stop (t.lacks_fault words c.texts) (too_large t c.texts) (Says t words book c.texts) c.closed))
      ]

  no_command : (k : Called) → MatchCalled k (◌≡◌ {A = Ending} (Err Usage) (Err Usage)) (λ t. MayAnswer l words t book (Err Usage)) → MatchCalled k ⊤ (λ t. ⊥)
  no_command NoCommand h = tt
  no_command (Calls t) h = elim (at_file Usage t (omega arith) h).stops [ inl at ↦ absurd at | inr b ↦ let never = b.told in cc ]

module _ (o : Outcome) (file : ℕ) where
  load_of : (k : Called) → MatchCalled k (◌≡◌ {A = Ending} (Err (Load file)) (Err Usage)) (λ t. MayAnswer o.loads o.words t o.book (Err (Load file))) → MatchCalled k ⊥ (λ t. (1 ≤ file) × (file ≤ length t.files)) × RoseFor o file
  load_of NoCommand h = cc
  load_of (Calls t) h =
      let stopped = at_file o.loads o.words o.book (Load file) t (omega arith) h in
      elim stopped.stops [
        | inl at ↦ ((omega (arith, at.0, stopped.first), omega (arith, at.0, stopped.within)), subst (RoseFor o) (sym at.0) at.1)
        | inr b ↦ let never = b.told in cc
      ]

module _ (o : Outcome) (ends : o.status ≢ 4 → Ends o) where
  -- what ends with this stop is due
  due_at : (four : o.status ≢ 4) (stop : Stop) → (ends four).ending ≡ Err stop → stop ≢ Memory → Due o.loads o.words o.book (Err stop)
  due_at four stop is other = subst (Due o.loads o.words o.book) is ((ends four).due.says (λ never. other (same_stop stop Memory (sym is ∙ never)))).comes

  pub usage_row : o.status ≡ 2 → CallsNone o.words
  usage_row two =
      let four : o.status ≢ 4 = λ four. omega (arith, two, four) in
      no_command o.loads o.words o.book (command_of o.words) (due_at four Usage (is_usage (ends four).ending (subst (HasStatus (ends four).ending) two (ends four).shown)) (λ m. cc))

  pub load_row : o.status ≡ 3 → LoadRow o
  load_row three =
      let four : o.status ≢ 4 = λ four. omega (arith, three, four) in
      let load = is_load (ends four).ending (subst (HasStatus (ends four).ending) three (ends four).shown) in
      let row = load_of o load.0 (command_of o.words) (due_at four (Load load.0) load.1 (λ m. cc)) in
      record { file = load.0; known = row.0; rose = row.1; put = subst (λ (e : Ending). Took o.before o.now (ending_texts e)) load.1 (ends four).put }

  -- a command without files has none that fails
  pub no_load_failed : (t : Task Transcript) → command_of o.words ≡ Calls t → t.files ≡ [] → o.status ≢ 3
  no_load_failed t command none three =
      let row = load_row three in
      let known = of_called o.words _ _ command row.known in
      let count : length t.files ≡ 0 = ap length none in
      omega (arith, known.0, known.1, count)
