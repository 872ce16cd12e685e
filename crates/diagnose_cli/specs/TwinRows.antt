-- What each status of `twin` tells, by the words and the bytes that the shelf holds under the name of its model.
use Rattle.std.specs.Prelude.{◌≡◌, ◌≢◌, ℕ, ◌≤◌, ◌^◌, List, [], ◌∷◌, Some}
use Rattle.des_base.specs.CommandWords.{word_at}
use Rattle.des_base.specs.Outside.{Took}
use Rattle.des_net.specs.Network.{Net}
use Rattle.event_costs.specs.CostText.{fault_event_of}
use Rattle.model_text.specs.ModelFaults.{network_of}
use Rattle.proof_ledger.specs.Book.{axioms_of, clauses_of}
use Rattle.proof_ledger.specs.Fresh.{AreFresh}
use Rattle.prop_core.specs.Trail.{Clashes}
use Rattle.replay.specs.declared.run.RunStep.{RunStep}
use Rattle.report.specs.Replies.{text_of_twin}
use Rattle.twin_test.specs.Tested.{AreTwinRuns, IsClosedBook, NoTwins}
use Rattle.twin_test.specs.TwinCodes.{AskTwins, twin_variables}
use Rattle.answers.specs.declared.twin.Twin.TheVariants.{Ambiguous, Clear, Undecided}
use Rattle.diagnose_cli.specs.Commands.{twin}
use Rattle.diagnose_cli.specs.Tasks.{one}
use Rattle.diagnose_cli.specs.Outcomes.{Outcome}
use Rattle.diagnose_cli.specs.Rows.{CallsWith, Row}

-- The word names this fault event, and the axioms of the book ask for its twins.
pub record AsksTwins (o : Outcome) (net : Net) (n d : ℕ) : Type 0 where
  pub fault : ℕ
  pub named : fault_event_of net (word_at o.words 2) ≡ Some fault
  pub asks : AskTwins net fault n d (axioms_of o.book)

-- the two runs that are printed are those of twins
pub record TellsTwins (o : Outcome) (net : Net) (n d : ℕ) : Type 0 where
  pub question : AsksTwins o net n d
  pub faulty : List RunStep
  pub healthy : List RunStep
  pub twins : AreTwinRuns net question.fault n d faulty healthy
  pub put : Took o.before o.now (text_of_twin net n (Ambiguous faulty healthy) ∷ [])

-- there are no twins, and the book refutes that there are
pub record TellsNoTwins (o : Outcome) (net : Net) (n d : ℕ) : Type 0 where
  pub question : AsksTwins o net n d
  pub none : NoTwins net question.fault n d
  pub refuted : IsClosedBook o.book
  pub put : Took o.before o.now (text_of_twin net n Clear ∷ [])

-- As many clauses were learnt as the budget allows, each of them fresh, and there is a further conflict, with nothing assumed.
pub record TellsUntested (o : Outcome) (net : Net) (n d budget : ℕ) : Type 0 where
  pub question : AsksTwins o net n d
  pub spent : AreFresh [] o.book budget
  pub conflict : Clashes (clauses_of o.book) []
  pub put : Took o.before o.now (text_of_twin net n Undecided ∷ [])

-- By the status, over whatever text the shelf tells. A budget of 3 to the number of variables that network, steps and what is to be seen determine decides.
pub record TwinRows (o : Outcome) : Type 0 where
  pub answered : (n d budget : ℕ) (text : List ℕ) → Row o twin (record { steps = n; after = d; budget = budget }) (text ∷ [])
  pub ambiguous : (n d budget : ℕ) (text : List ℕ) → CallsWith o (one twin) (record { steps = n; after = d; budget = budget }) (text ∷ []) → o.status ≡ 17 → TellsTwins o (network_of text) n d
  pub clear : (n d budget : ℕ) (text : List ℕ) → CallsWith o (one twin) (record { steps = n; after = d; budget = budget }) (text ∷ []) → o.status ≡ 0 → TellsNoTwins o (network_of text) n d
  pub undecided : (n d budget : ℕ) (text : List ℕ) → CallsWith o (one twin) (record { steps = n; after = d; budget = budget }) (text ∷ []) → o.status ≡ 11 → TellsUntested o (network_of text) n d budget
  pub decided : (n d budget : ℕ) (text : List ℕ) → CallsWith o (one twin) (record { steps = n; after = d; budget = budget }) (text ∷ []) → 3 ^ twin_variables (network_of text) n d ≤ budget → o.status ≢ 11
