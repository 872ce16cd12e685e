-- What the whole run of `session` or `verdicts` tells, and what its status does.
use Rattle.std.proofs.Common.{refl, ◌≡◌, ◌≢◌, ℕ, List, [], ◌∷◌, subst, ◌∙◌, inl, inr, Bool, true, false, sym, ap, arith}
use Rattle.des_net.specs.Network.{Net}
use Rattle.log_csv.specs.ScriptText.{script_of}
use Rattle.model_text.specs.ModelFaults.{network_of}
use Rattle.endings.specs.declared.ending.Kind.{Kind}
use Rattle.diagnose_cli.specs.SessionReplies.{EndsSession}
use Rattle.endings.specs.Endings.{status_of_end, status_of_kind}
use Rattle.diagnose_cli.specs.Outcomes.{Outcome, IsPut}
use Rattle.diagnose_cli.specs.Rows.{SessionRow, CallsWith}
use Rattle.diagnose_cli.specs.Run.{Ends}
use Rattle.endings.specs.Transcripts.{End, said, cut, broken}
use Rattle.diagnose_cli.specs.Commands.{session, verdicts}
use Rattle.diagnose_cli.proofs.Called.{called_so}
use Rattle.diagnose_cli.proofs.Answered.{SaidOver, said_in_all, said_over}
use Rattle.std.specs.List.{list_any}
use Rattle.answers.specs.declared.verdict.Verdict.{Verdict}
use Rattle.inquiries.specs.Diagnosed.{IsDiagnosed}
use Rattle.answers.specs.declared.found.Found.{Found}
use Rattle.answers.specs.declared.found.Found.TheVariants.{Explained, Absent, Many, Undecided}
use Rattle.log_csv.specs.LogText.{log_of}
use Rattle.log_order.specs.Log.{Log}
use Rattle.proof_ledger.specs.Book.{BookEntry}
use Rattle.replay.specs.Explanation.{IsAbsent, IsMany}
use Rattle.verdict_telling.proofs.Deciding.{open_is_small}
use Rattle.verdict_telling.specs.Deciding.{leaves_open}
use Rattle.verdict_telling.specs.Replied.{is_undecided}
use Rattle.verdict_telling.specs.Whole.{told_of}
use Rattle.verdict_telling.specs.declared.whole.Told.TheVariants.{Judged}
use Rattle.diagnose_cli.specs.VerdictReplies.{EndsVerdicts, kind_of_told}
use Rattle.diagnose_cli.specs.VerdictRows.{IsAnswerStatus, TellsInAll, VerdictRows}
use Rattle.diagnose_cli.proofs.StopStatus.{IsStopStatus, not_low}

-- by its status it said all
finished : (end : End) (status : ℕ) → IsPut status → status ≡ status_of_end end → (kind : Kind) × (end ≡ said kind)
finished (said kind) status put shown = (kind, refl)
finished cut status put shown = absurd (put.written shown)
finished broken status put shown = absurd (put.memory shown)

pub session_row : (o : Outcome) → (o.status ≢ 4 → Ends o) → SessionRow o
session_row o ends limits text lines reads unbroken =
    let over = said_in_all o (session.task limits) ends (called_so session o.words refl limits reads.called) (text ∷ lines ∷ []) reads.files reads.small unbroken in
    let end = finished over.told.end o.status unbroken.put over.shown in
    let says = subst (EndsSession (network_of text) limits.steps limits.budget (script_of lines) o.book over.told.texts) end.1 over.says.says in
    record { left = says.1.left; texts = over.told.texts; replied = says.1.replied; book = says.1.book_is; shown = over.shown ∙ ap status_of_end (end.1 ∙ ap (λ (k : Kind). said k) says.0); put = over.put }

-- ---- what `verdicts` tells by its status

tells_in_all : (o : Outcome) (steps budget : ℕ) (text alarms : List ℕ) → IsPut o.status → SaidOver o (verdicts.task (record { steps = steps; budget = budget })) (text ∷ alarms ∷ []) → TellsInAll o (network_of text) (log_of alarms) steps budget
tells_in_all o steps budget text alarms put over =
    let end = finished over.told.end o.status put over.shown in
    let says = subst (EndsVerdicts (network_of text) (log_of alarms) steps budget o.book over.told.texts) end.1 over.says.says in
    record { found = says.found; verdicts = says.verdicts; texts = over.told.texts; have = says.have; shown = over.shown ∙ ap status_of_end end.1 ∙ ap status_of_kind says.kind_is; put = over.put }

no_stop : (status : ℕ) → IsAnswerStatus status → IsStopStatus status → ⊥
no_stop status (inl none) stop = omega (arith, none, stop.low)
no_stop status (inr some) stop = elim stop.among [ inl a ↦ omega (arith, a, some.0) | inr b ↦ omega (arith, b.0, some.1) ]

-- ---- by the status

-- an event that is left open has another status
judged : (b : Bool) (k : ℕ) → k ≡ status_of_kind (kind_of_told (Judged b)) → k ≢ 0 → (b ≡ true) × (k ≡ 11)
judged true k is some = (refl, is)
judged false k is some = absurd (some is)

is_open : (found : Found) (verdicts : List Verdict) → 11 ≡ status_of_kind (kind_of_told (told_of found verdicts)) → leaves_open (told_of found verdicts) ≡ true
is_open (Explained best) verdicts is = (judged (list_any is_undecided verdicts) 11 is (λ p. cc)).0
is_open (Undecided lo best) verdicts is = refl
is_open _ verdicts is = absurd (omega (arith, is))

module _ (net : Net) (alarms : Log) (n budget : ℕ) (book : List BookEntry) (verdicts : List Verdict) where
  absent_of : (found : Found) → 10 ≡ status_of_kind (kind_of_told (told_of found verdicts)) → IsDiagnosed net alarms n budget book found → IsAbsent net alarms n
  absent_of (Explained best) is holds = absurd (omega (arith, (judged (list_any is_undecided verdicts) 10 is (λ p. cc)).1))
  absent_of Absent is holds = holds.answered.found.absent
  absent_of _ is holds = absurd (omega (arith, is))

  many_of : (found : Found) → 12 ≡ status_of_kind (kind_of_told (told_of found verdicts)) → IsDiagnosed net alarms n budget book found → IsMany net alarms n
  many_of (Explained best) is holds = absurd (omega (arith, (judged (list_any is_undecided verdicts) 12 is (λ p. cc)).1))
  many_of (Many best) is holds = holds.answered.found.many
  many_of _ is holds = absurd (omega (arith, is))

module _ (o : Outcome) (ends : o.status ≢ 4 → Ends o) where
  told : (steps budget : ℕ) (text alarms : List ℕ) → CallsWith o verdicts (record { steps = steps; budget = budget }) (text ∷ alarms ∷ []) → IsAnswerStatus o.status → TellsInAll o (network_of text) (log_of alarms) steps budget
  told steps budget text alarms asks answer =
      let answers = no_stop o.status answer in
      let over = said_over o (verdicts.task (record { steps = steps; budget = budget })) ends (called_so verdicts o.words refl (record { steps = steps; budget = budget }) asks.called) (text ∷ alarms ∷ []) asks.told refl answers in
      tells_in_all o steps budget text alarms (record { written = not_low o.status 4 (omega arith) (omega arith) answers; memory = not_low o.status 9 (omega arith) (omega arith) answers }) over

  pub verdict_rows : VerdictRows o
  verdict_rows = record {
    judged = λ steps budget text alarms reads whole.
        tells_in_all o steps budget text alarms whole.put (said_in_all o (verdicts.task (record { steps = steps; budget = budget })) ends (called_so verdicts o.words refl (record { steps = steps; budget = budget }) reads.called) (text ∷ alarms ∷ []) reads.files reads.small whole);
    told = told;
    absent = λ steps budget text alarms asks is.
        let tells = told steps budget text alarms asks (inr (omega (arith, is), omega (arith, is))) in
        absent_of (network_of text) (log_of alarms) steps budget tells.have.front tells.verdicts tells.found (sym is ∙ tells.shown) tells.have.diagnosed;
    many = λ steps budget text alarms asks is.
        let tells = told steps budget text alarms asks (inr (omega (arith, is), omega (arith, is))) in
        many_of (network_of text) (log_of alarms) steps budget tells.have.front tells.verdicts tells.found (sym is ∙ tells.shown) tells.have.diagnosed;
    undecided = λ steps budget text alarms asks is.
        let tells = told steps budget text alarms asks (inr (omega (arith, is), omega (arith, is))) in
        open_is_small (network_of text) (log_of alarms) steps budget tells.found tells.verdicts o.book tells.texts tells.have (is_open tells.found tells.verdicts (sym is ∙ tells.shown));
  }
