-- What `cheapest` answers where its files are read.
use Rattle.std.proofs.Common.{◌≡◌, ◌≢◌, ◌^◌, ◌∙◌, [], ◌∷◌, ap, sym, inr, ◌≤◌, ℕ, Bool, true, false, List, Option, Some, Result, refl, arith, subst}
use Rattle.std.specs.Prelude.{if◌then◌else◌}
use Rattle.cost_least.specs.Costs.{cost_size}
use Rattle.cost_least.specs.Answers.{CostAsked, IsCheapFound, IsRunAt}
use Rattle.answers.specs.declared.cheap.Cheap.{Cheap}
use Rattle.answers.specs.declared.cheap.Cheap.TheVariants.{Found, Dear, Undecided}
use Rattle.des_net.specs.Building.{IsDraft}
use Rattle.des_net.specs.Network.{Net, IsNetwork, is_fault}
use Rattle.event_costs.specs.CostText.{IsTableOf, cost_of}
use Rattle.event_costs.specs.Prices.{cost_at}
use Rattle.inquiries.specs.declared.question.Case.{Case}
use Rattle.pricing.specs.LeastCost.{IsPricedBy, LeavesCosts, cost_variables, fault_costs}
use Rattle.pricing.proofs.PricedBooks.{unpriced_is_small}
use Rattle.least_faults.proofs.KnownEvents.{run_known}
use Rattle.log_csv.specs.LogText.{log_of}
use Rattle.log_order.specs.Adding.{IsLog}
use Rattle.log_order.specs.Log.{Log}
use Rattle.model_text.specs.ModelFaults.{network_of}
use Rattle.proof_ledger.specs.Book.{BookEntry}
use Rattle.prop_core.specs.Clauses.{Clause}
use Rattle.replay.specs.Traced.{word_of}
use Rattle.replay.specs.declared.run.RunStep.{RunStep}
use Rattle.report.proofs.ReadsBack.{printed_runs_read_back}
use Rattle.report.specs.ReadBack.{IsRunText}
use Rattle.report.specs.Replies.{CheapEventsKnown, text_of_run}
use Rattle.diagnose_cli.specs.CheapReplies.{CheapRunReadsBack, SaysCheap, kind_of_cheap, reply_of_cheap}
use Rattle.diagnose_cli.specs.Tasks.{Reply, Task, told_once}
use Rattle.diagnose_cli.specs.Commands.{cheapest}
use Rattle.diagnose_cli.specs.Due.{ClosesOnce, EndsBySize, MayReply}
use Rattle.endings.specs.declared.stop.Stop.{Stop}
use Rattle.diagnose_cli.proofs.Limits.{ends_weaker}
use Rattle.endings.specs.declared.ending.Kind.TheVariants.{Undecided as LeftOpen}
use Rattle.diagnose_cli.specs.FilesRead.{AreReadThen, IsCaseRead}
use Rattle.diagnose_cli.specs.Rows.{Leaves}
use Rattle.diagnose_cli.proofs.ReadOver.{over_third}
use Rattle.diagnose_cli.proofs.PrintableRuns.{explained_printable}

-- ---- its run

module _ (q : CostAsked) where
  run_reads_back : (run : List RunStep) (total : ℕ) → IsNetwork q.net → IsDraft q.net → IsLog q.log → q.steps ≤ 1000 → IsRunAt q run total → IsRunText q.net run (text_of_run q.net run)
  run_reads_back run total network drafted logged few given = printed_runs_read_back q.net run drafted (explained_printable q.net q.log q.steps run network drafted logged few given.matched given.explains)

  module _ (axioms : List Clause) (since : List BookEntry) (budget : ℕ) where
    pub cheap_known : (answer : Cheap) → IsCheapFound q axioms since budget answer → CheapEventsKnown q.net answer
    cheap_known (Found priced) h = run_known q.net (word_of priced.run) h.given.explains.run
    cheap_known (Dear run) h = run_known q.net (word_of run) h.given.explains.run
    cheap_known (Undecided lo (Some priced)) h = run_known q.net (word_of priced.run) h.given.given.explains.run
    cheap_known _ h = tt

    cheap_reads_back : (answer : Cheap) → IsNetwork q.net → IsDraft q.net → IsLog q.log → q.steps ≤ 1000 → IsCheapFound q axioms since budget answer → CheapRunReadsBack q.net answer
    cheap_reads_back (Found priced) network drafted logged few h = run_reads_back priced.run priced.cost network drafted logged few h.given
    cheap_reads_back (Dear run) network drafted logged few h = run_reads_back run h.total network drafted logged few h.given
    cheap_reads_back (Undecided lo (Some priced)) network drafted logged few h = run_reads_back priced.run priced.cost network drafted logged few h.given.given
    cheap_reads_back _ network drafted logged few h = tt

-- what a reply says that tells it, by whatever costs
pub cheap_said : (net : Net) (log : Log) (n : ℕ) (answer : Cheap) → IsNetwork net → IsDraft net → IsLog log → n ≤ 1000 → (cost : ℕ → ℕ) (budget : ℕ) (book : List BookEntry) → IsPricedBy net cost log n budget book answer
    → (reply : Reply) → reply ≡ reply_of_cheap net n answer → SaysCheap net cost log n budget book reply
cheap_said net log n answer network drafted logged few cost budget book priced reply is = record {
  answer = answer;
  priced = priced;
  again = cheap_reads_back (record { net = net; cost = cost; log = log; steps = n }) _ priced.answered.left.since budget answer network drafted logged few priced.answered.found;
  is = is;
}

-- ---- the costs of the text

-- the table costs each fault event as the text does, and the text has 1 for what is none, so both are one function
pub as_text : (net : Net) (prices : List ℕ) (table : List (Option ℕ)) → IsTableOf net prices table → fault_costs net table ≡ cost_of net prices
as_text net prices table of = λ i e. at e (is_fault net e) refl i
  where
    at : (e : ℕ) (fault : Bool) → is_fault net e ≡ fault → (if fault then cost_at table e else 1) ≡ cost_of net prices e
    at e true fault = of.each e
    at e false none = sym (of.others e none) ∙ of.each e

says_of_text : (net : Net) (prices : List ℕ) (table : List (Option ℕ)) (alarms : Log) (n budget : ℕ) (book : List BookEntry) (reply : Reply) → IsTableOf net prices table → SaysCheap net (fault_costs net table) alarms n budget book reply → SaysCheap net (cost_of net prices) alarms n budget book reply
says_of_text net prices table alarms n budget book reply of = subst (λ (c : ℕ → ℕ). SaysCheap net c alarms n budget book reply) (as_text net prices table of)

-- a budget that is large enough decides
module _ (net : Net) (cost : ℕ → ℕ) (alarms : Log) (n budget : ℕ) (book : List BookEntry) where
  none_open : (answer : Cheap) → IsPricedBy net cost alarms n budget book answer → 3 ^ cost_variables net alarms n ≤ budget → kind_of_cheap answer ≢ LeftOpen
  none_open (Undecided lo best) holds enough is = omega (arith, unpriced_is_small net cost alarms n budget book lo best holds, enough)
  none_open _ holds enough is = cc

  cheap_decided : (reply : Reply) → SaysCheap net cost alarms n budget book reply → 3 ^ cost_variables net alarms n ≤ budget → reply.0 ≢ LeftOpen
  cheap_decided reply says enough is = none_open says.answer says.priced enough (sym (ap (λ (r : Reply). r.0) says.is) ∙ is)

-- ---- over the bytes of its files

module _ (n budget : ℕ) (words : List (List ℕ)) (book : List BookEntry) (case : Case) (table : List (Option ℕ)) (texts : List (List ℕ)) (read : AreReadThen (λ ts (c : Case). IsCaseRead ts c.net c.log) (λ (c : Case) prices t. IsTableOf c.net prices t) texts case table) where
  abbrev priced : Task Reply
  priced = cheapest.task (record { steps = n; budget = budget })

  pub closes_priced : (r : Result Reply Stop) → EndsBySize (cost_size case.net case.log n) (SaysCheap case.net (fault_costs case.net table) case.log n budget book) r → ClosesOnce priced words book texts r
  closes_priced r =
      over_third (λ ts. ClosesOnce priced words book ts r) texts (λ net log. EndsBySize (cost_size net log n) (SaysCheap net (fault_costs net table) log n budget book) r) (λ net prices t. IsTableOf net prices t) table
      (λ text alarms prices of.
      let net = network_of text in
      let log = log_of alarms in
      ends_weaker (cost_size net log n) (SaysCheap net (fault_costs net table) log n budget book) (MayReply priced words book (text ∷ alarms ∷ prices ∷ [])) r (λ reply h.
      let says = says_of_text net prices table log n budget book reply of h in
      record { says = says; decided = cheap_decided net (cost_of net prices) log n budget book reply says })) case read

  -- what it leaves
  pub prices_left : LeavesCosts case.net (fault_costs case.net table) case.log n budget book → Leaves (told_once priced) words texts book
  prices_left =
      over_third (λ ts. Leaves (told_once priced) words ts book) texts (λ net log. LeavesCosts net (fault_costs net table) log n budget book) (λ net prices t. IsTableOf net prices t) table
      (λ text alarms prices of h same. inr (subst (λ (c : ℕ → ℕ). LeavesCosts (network_of text) c (log_of alarms) n budget book) (as_text (network_of text) prices table of) h)) case read
