-- The run of a command, which has one reply or several.
use Rattle.std.proofs.Common.{◌≡◌, ◌≢◌, arith, ℕ, IfErr, List, [], ◌∷◌, Result, Ok, Err, refl, ap, subst}
use Rattle.des_base.specs.Outside.{Output}
use Rattle.proof_ledger.specs.Book.{BookEntry}
use Rattle.endings.specs.declared.ending.Kind.{Kind}
use Rattle.endings.specs.declared.stop.Stop.{Stop}
use Rattle.endings.specs.declared.stop.Stop.TheVariants.{Memory}
use Rattle.endings.specs.Transcripts.{Ending, once}
use Rattle.endings.specs.Endings.{HasStatus, status_of_stop}
use Rattle.endings.specs.Files.{Loads}
use Rattle.endings.specs.Puts.{Puts, Speaks}
use Rattle.diagnose_cli.specs.declared.generate_command.PlantText.TheVariants.{Model, Log}
use Rattle.diagnose_cli.specs.Commands.{IsInList, asking, bench, generate, replay, show, trace}
use Rattle.diagnose_cli.specs.Due.{Due, HasNotBegun, StopsEmpty}
use Rattle.diagnose_cli.specs.Outcomes.{Outcome, outcome}
use Rattle.diagnose_cli.specs.Questions.{NamedQuestion, cnf_question, diagnose_question, proof_question}
use Rattle.diagnose_cli.specs.Rows.{Row, RowAlone}
use Rattle.diagnose_cli.specs.Run.{Does, Ran, SaysStop}
use Rattle.diagnose_cli.specs.Tasks.{NamedCommand, Reply, one, told_once}
use Rattle.diagnose_cli.proofs.Answered.{decided_row, row}
use Rattle.diagnose_cli.proofs.Called.{called_so}
use Rattle.diagnose_cli.proofs.CheapStatus.{cheap_rows}
use Rattle.diagnose_cli.proofs.EarlyStops.{load_row, no_load_failed, usage_row}
use Rattle.diagnose_cli.proofs.Exact.{stop_row}
use Rattle.diagnose_cli.proofs.SpokenRows.{session_row, verdict_rows}
use Rattle.diagnose_cli.proofs.StatusRows.{check_rows, diagnose_rows}
use Rattle.diagnose_cli.proofs.StopStatus.{IsStopStatus, between, is_stop, no_stop_kind}
use Rattle.diagnose_cli.proofs.TwinStatus.{twin_rows}

-- ---- what the run of a command does that says what is due

module _ (o : Outcome) (rose : Type 0) (speaks : Speaks (StopsEmpty (Due o.loads o.words o.book) o.book) (HasNotBegun o.words o.book) o.before o.now rose o.status) where
  ran : Ran o rose
  ran = record {
    stops = λ whole. stop_row o (speaks.ends whole.put.written) whole.loaded whole.put.memory;
    usage = usage_row o speaks.ends;
    ends = speaks.ends;
    load_failed = load_row o speaks.ends;
    put_failed = speaks.put_failed;
    cut_off = speaks.cut_off;
    decided = decided_row o speaks.ends;
  }

  asked : (question : NamedQuestion) → IsInList (one (asking question)) o.words → (steps : ℕ) (last : question.Word) (text alarms : List ℕ) → Row o (asking question) (steps, last) (text ∷ alarms ∷ [])
  asked question listed steps last text alarms = row o speaks.ends (asking question) listed (steps, last) (text ∷ alarms ∷ [])

  -- without files
  row_alone : (c : NamedCommand Reply) → IsInList (one c) o.words → (word : c.Word) → (c.task word).files ≡ [] → RowAlone o c word
  row_alone c listed word none reads put =
      let loaded = no_load_failed o speaks.ends (told_once (c.task word)) (called_so (one c) o.words listed word reads.called) none in
      row o speaks.ends c listed word [] reads (record { loaded = loaded; put = put })

  does : Does o rose
  does = record {
    asked = (asked diagnose_question refl, (asked cnf_question refl, (asked proof_question refl, tt)));
    diagnosed = diagnose_rows o speaks.ends;
    replayed = λ steps text alarms events. row o speaks.ends replay refl steps (text ∷ alarms ∷ events ∷ []);
    checked = check_rows o speaks.ends;
    traced = λ text steps. row o speaks.ends trace refl tt (text ∷ steps ∷ []);
    shown = λ text. row o speaks.ends show refl tt (text ∷ []);
    generated = record { model = λ units start. row_alone generate refl (record { text = Model; units = units; start = start }) refl; log = λ units start. row_alone generate refl (record { text = Log; units = units; start = start }) refl };
    benched = λ units start limits. row_alone bench refl (record { units = units; start = start; limits = limits }) refl;
    carried_out = session_row o speaks.ends;
    twinned = twin_rows o speaks.ends;
    judged = verdict_rows o speaks.ends;
    priced = cheap_rows o speaks.ends;
    ran = ran;
  }

pub done : (l : Loads) (words : List (List ℕ)) (before now : Output) (book : List BookEntry) (status : ℕ) (rose : Type 0)
    → Speaks (StopsEmpty (Due l words book) book) (HasNotBegun words book) before now rose status → Does (outcome l words before now book status) rose
done l words before now book status rose speaks = does (outcome l words before now book status) rose speaks

-- ---- what a command leaves that stops

-- so what an ending leaves that has none is left
stop_told : (r : Result (Kind × List ℕ) Stop) (P : Type 0) (status : ℕ) → IfErr r (λ stop. stop ≢ Memory → P) → HasStatus (once r) status → SaysStop status → P
stop_told (Ok reply) P status left shown stop = absurd (no_stop_kind reply.0 (subst IsStopStatus shown (is_stop status stop)))
stop_told (Err why) P status left shown stop = left (λ is. let nine : status_of_stop why ≡ 9 = ap status_of_stop is in between status stop (omega (arith, shown, nine)) (omega (arith, shown, nine)))

pub stop_left : (r : Result (Kind × List ℕ) Stop) (P : Type 0) (before now : Output) (rose : Type 0) (status : ℕ) → Puts (once r) before now rose status → IfErr r (λ stop. stop ≢ Memory → P) → SaysStop status → P
stop_left r P before now rose status puts left stop = stop_told r P status left (puts.shown stop.put (λ nine. between status stop (omega (arith, nine)) (omega (arith, nine)))) stop

-- a stop of its one reply leaves an empty book, where it leaves the book as it was
pub once_empty : (may : Ending → Type 0) (book : List BookEntry) (r : Result (Kind × List ℕ) Stop) (P : Type 0) → r ≢ Err Memory → IfErr r (λ stop. stop ≢ Memory → P) → (P → book ≡ []) → may (once r) → StopsEmpty may book (once r)
once_empty may book (Ok reply) P never left none h = record { comes = h; empty = tt }
once_empty may book (Err stop) P never left none h = record { comes = h; empty = none (left (λ is. never (ap (λ (s : Stop). Err s) is))) }
