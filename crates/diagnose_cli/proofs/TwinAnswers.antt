-- What `twin` answers where its model is read.
use Rattle.std.proofs.Common.{inr, ◌≡◌, ◌≤◌, ◌<◌, ℕ, List, [], ◌∷◌, length, Option, Some, None, Result, Err, IfSome, IsOkAnd, IsSomeAnd, MatchOption, sym, subst, refl, arith, All, is_none, map}
use Rattle.std.proofs.lemmas.List.{length-map}
use Rattle.std.proofs.lemmas.List.Elements.{All-nil, All-cons}
use Rattle.std.proofs.lemmas.Nat.{mul-le}
use Rattle.des_base.specs.CommandWords.{word_at}
use Rattle.des_base.specs.Names.{IsName}
use Rattle.des_net.specs.Building.{IsDraft}
use Rattle.des_net.specs.Network.{Net, IsNetwork}
use Rattle.des_net.specs.Width.{joined}
use Rattle.event_costs.specs.CostText.{fault_event_of}
use Rattle.least_faults.proofs.KnownEvents.{run_known}
use Rattle.proof_ledger.specs.Book.{BookEntry}
use Rattle.replay.specs.Matching.{name_on}
use Rattle.replay.specs.Traced.{word_of}
use Rattle.replay.specs.declared.run.RunStep.{RunStep}
use Rattle.report.proofs.ReadsBack.{printed_runs_read_back}
use Rattle.report.specs.ReadBack.{HasAlarmNames, IsRunText}
use Rattle.report.specs.Replies.{TwinEventsKnown, text_of_run}
use Rattle.twin_test.proofs.Decoding.{word_is}
use Rattle.twin_test.specs.Tested.{IsTested, LeavesTwins, run_of_pieces, unnamed}
use Rattle.twin_test.specs.Twins.{AreAligned, twin_size}
use Rattle.answers.specs.declared.twin.Twin.{Twin as TwinAnswer}
use Rattle.answers.specs.declared.twin.Twin.TheVariants.{Ambiguous}
use Rattle.endings.specs.declared.stop.Stop.{Stop}
use Rattle.diagnose_cli.specs.Due.{ClosesOnce, MayReply, above_limit, stop_by}
use Rattle.diagnose_cli.specs.FilesRead.{IsModelRead}
use Rattle.diagnose_cli.specs.Rows.{Leaves}
use Rattle.diagnose_cli.specs.TwinReplies.{LeavesOfWord, SaysOfWord, SaysTwin, TwinRunsReadBack, reply_of_twin}
use Rattle.diagnose_cli.specs.Tasks.{Reply, Task, told_once}
use Rattle.diagnose_cli.specs.Commands.{twin}
use Rattle.model_text.specs.ModelFaults.{network_of}
use Rattle.diagnose_cli.proofs.Limits.{stop_weaker}
use Rattle.diagnose_cli.proofs.ReadOver.{over_model}
use Rattle.diagnose_cli.proofs.PrintableRuns.{pieces_length}

-- ---- its runs

pub twin_known : (net : Net) (fault n d budget : ℕ) (book : List BookEntry) (answer : TwinAnswer) → IsTested net fault n d budget book answer → TwinEventsKnown net answer
twin_known net fault n d budget book (Ambiguous faulty healthy) tested = (run_known net (word_of faulty) tested.told.faulty_replays, run_known net (word_of healthy) tested.told.healthy_replays)
twin_known net fault n d budget book _ tested = tt

-- no alarm is named
unnamed_names : (events : List ℕ) → HasAlarmNames (map unnamed events)
unnamed_names [] = All-nil (λ (s : RunStep). IfSome (name_on s) IsName)
unnamed_names (e ∷ events) = All-cons (λ (s : RunStep). IfSome (name_on s) IsName) (unnamed e) (map unnamed events) tt (unnamed_names events)

-- a run of n pieces reads back
pieces_read_back : (net : Net) (n : ℕ) (pieces : List (List ℕ)) → IsNetwork net → IsDraft net → n ≤ 1000 → AreAligned net n pieces → IsRunText net (run_of_pieces pieces) (text_of_run net (run_of_pieces pieces))
pieces_read_back net n pieces network drafted few aligned =
    let known = run_known net (joined pieces) aligned.run in
    let short = pieces_length net pieces network known aligned.apart in
    let most = mul-le (length pieces) (length net.components) 1000 1000 (omega (arith, few, aligned.size)) drafted.few_comps in
    printed_runs_read_back net (run_of_pieces pieces) drafted
    (record { known = subst (All (λ e. e < length net.events)) (sym (word_is pieces)) known; named = unnamed_names (joined pieces); few = omega (arith, length-map (joined pieces) unnamed, short, most) })

twin_reads_back : (net : Net) (fault n d budget : ℕ) (book : List BookEntry) (answer : TwinAnswer) → IsNetwork net → IsDraft net → n ≤ 1000 → IsTested net fault n d budget book answer → TwinRunsReadBack net answer
twin_reads_back net fault n d budget book (Ambiguous faulty healthy) network drafted few tested =
    let runs = tested.told in (
      subst (λ (run : List RunStep). IsRunText net run (text_of_run net run)) (sym runs.faulty_run) (pieces_read_back net n runs.faulty network drafted few runs.twins.faulty),
      subst (λ (run : List RunStep). IsRunText net run (text_of_run net run)) (sym runs.healthy_run) (pieces_read_back net n runs.healthy network drafted few runs.twins.healthy),
    )
twin_reads_back net fault n d budget book _ network drafted few tested = tt

-- what a reply says that tells it
pub twin_said : (net : Net) (n d budget : ℕ) (answer : TwinAnswer) → IsNetwork net → IsDraft net → n ≤ 1000 → (fault : ℕ) (book : List BookEntry) → IsTested net fault n d budget book answer → (reply : Reply) → reply ≡ reply_of_twin net n answer → SaysTwin net fault n d budget book reply
twin_said net n d budget answer network drafted few fault book tested reply is = record { answer = answer; tested = tested; again = twin_reads_back net fault n d budget book answer network drafted few tested; is = is }

-- ---- how it ends

pub none_of : (o : Option ℕ) → ((n : ℕ) → o ≡ Some n → ⊥) → o ≡ None
none_of None never = refl
none_of (Some n) never = absurd (never n refl)

module _ (n d budget : ℕ) (words : List (List ℕ)) (book : List BookEntry) (texts : List (List ℕ)) (net : Net) (read : IsModelRead texts net) where
  abbrev asked : Task Reply
  asked = twin.task (record { steps = n; after = d; budget = budget })

  -- where the word names this fault event, or none: by that, and by the size
  abbrev EndsFor : Net → Option ℕ → Result Reply Stop → Type 0
  EndsFor m event r = MatchOption (stop_by (is_none event) (above_limit (twin_size m n d))) (IsOkAnd r (λ reply. IsSomeAnd event (λ fault. SaysTwin m fault n d budget book reply))) (λ stop. r ≡ Err stop)

  pub closes_for : (event : Option ℕ) → event ≡ fault_event_of net (word_at words 2) → (r : Result Reply Stop) → EndsFor net event r → ClosesOnce asked words book texts r
  closes_for event named r h =
      over_model (λ ts. ClosesOnce asked words book ts r) texts (λ m. EndsFor m (fault_event_of m (word_at words 2)) r)
      (λ text well. stop_weaker _ (SaysOfWord (network_of text) (word_at words 2) n d budget book) (MayReply asked words book (text ∷ [])) r (λ reply says. record { says = says; decided = λ enough. absurd enough })) net read (subst (λ (e : Option ℕ). EndsFor net e r) named h)

  -- what it leaves
  pub fault_left : (fault : ℕ) → Some fault ≡ fault_event_of net (word_at words 2) → LeavesTwins net fault n d budget book → Leaves (told_once asked) words texts book
  fault_left fault named left =
      over_model (λ ts. Leaves (told_once asked) words ts book) texts (λ m. LeavesOfWord m (word_at words 2) n d budget book) (λ text well h same. inr h) net read
      (subst (λ (o : Option ℕ). MatchOption o (book ≡ []) (λ f. LeavesTwins net f n d budget book)) named left)
