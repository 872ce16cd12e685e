-- What the status of a question of costs tells.
use Rattle.std.proofs.Common.{◌≡◌, ◌≢◌, ℕ, List, [], ◌∷◌, refl, arith}
use Rattle.std.proofs.lemmas.Option.{IfSome_then}
use Rattle.cost_least.specs.Answers.{CostAsked}
use Rattle.answers.specs.declared.cheap.Cheap.{Cheap}
use Rattle.answers.specs.declared.cheap.Cheap.TheVariants.{Found, Absent, Dear, Undecided}
use Rattle.des_base.specs.Outside.{Took}
use Rattle.pricing.specs.LeastCost.{IsPricedBy}
use Rattle.sat_solve.proofs.Freshness.{fresh_closed}
use Rattle.replay.specs.Explanation.{IsAbsent}
use Rattle.report.specs.Replies.{text_of_cheap}
use Rattle.run_decode.specs.QuestionAxioms.{question_axioms}
use Rattle.endings.specs.declared.ending.Kind.{Kind}
use Rattle.endings.specs.declared.ending.Kind.TheVariants.{Done, Absent as NoneThere, Undecided as LeftOpen, Many as TooMany}
use Rattle.endings.specs.Endings.{status_of_kind}
use Rattle.diagnose_cli.specs.CheapReplies.{kind_of_cheap}
use Rattle.diagnose_cli.specs.CheapRows.{CheapRows, TellsCheapest, TellsDear, TellsUnpriced, cost_asked}
use Rattle.diagnose_cli.specs.Commands.{cheapest as cheapest_command}
use Rattle.diagnose_cli.specs.Tasks.{one}
use Rattle.diagnose_cli.specs.Outcomes.{Outcome}
use Rattle.diagnose_cli.specs.Rows.{CallsWith}
use Rattle.diagnose_cli.specs.Run.{Ends}
use Rattle.diagnose_cli.proofs.Answered.{reply_over, row, shown_by}

module _ (o : Outcome) (q : CostAsked) (budget : ℕ) where
  abbrev Priced : Cheap → Type 0
  Priced answer = IsPricedBy q.net q.cost q.log q.steps budget o.book answer

  abbrev Put : Cheap → Type 0
  Put answer = Took o.before o.now (text_of_cheap q.net q.steps answer ∷ [])

  cheapest_of : (answer : Cheap) → 0 ≡ status_of_kind (kind_of_cheap answer) → Priced answer → Put answer → TellsCheapest o q
  cheapest_of (Found priced) is holds put = record { priced = priced; given = holds.answered.found.given; cheapest = holds.answered.found.cheapest; put = put }
  cheapest_of _ is holds put = absurd (omega arith)

  absent_of : (answer : Cheap) → 10 ≡ status_of_kind (kind_of_cheap answer) → Priced answer → Put answer → IsAbsent q.net q.log q.steps
  absent_of Absent is holds put = holds.answered.found.absent
  absent_of _ is holds put = absurd (omega arith)

  dear_of : (answer : Cheap) → 12 ≡ status_of_kind (kind_of_cheap answer) → Priced answer → Put answer → TellsDear o q
  dear_of (Dear run) is holds put = let h = holds.answered.found in record { run = run; total = h.total; given = h.given; dear = h.dear; put = put }
  dear_of _ is holds put = absurd (omega arith)

  unpriced_of : (answer : Cheap) → 11 ≡ status_of_kind (kind_of_cheap answer) → Priced answer → Put answer → TellsUnpriced o q budget
  unpriced_of (Undecided lo best) is holds put =
      let answered = holds.answered in
      record {
        lo = lo;
        best = best;
        question = holds.question;
        spent = fresh_closed (question_axioms q.net q.log q.steps 0) answered.left.since o.book budget answered.left.whole answered.left.fresh answered.found.spent;
        conflict = answered.conflict;
        above = answered.found.needs;
        known = IfSome_then best answered.found.given (λ priced h. (h.given, h.above));
        put = put;
      }
  unpriced_of _ is holds put = absurd (omega arith)

module _ (o : Outcome) (ends : o.status ≢ 4 → Ends o) where
  told : (n budget : ℕ) (text alarms prices : List ℕ) → CallsWith o (one cheapest_command) (record { steps = n; budget = budget }) (text ∷ alarms ∷ prices ∷ []) → (kind : Kind) → o.status ≡ status_of_kind kind
      → {R : Type 0} → ((answer : Cheap) → status_of_kind kind ≡ status_of_kind (kind_of_cheap answer) → Priced o (cost_asked text alarms prices n) budget answer → Put o (cost_asked text alarms prices n) budget answer → R) → R
  told n budget text alarms prices asks kind is =
      let q = cost_asked text alarms prices n in
      let tells = reply_over o ends cheapest_command refl (record { steps = n; budget = budget }) (text ∷ alarms ∷ prices ∷ []) asks refl kind is in
      shown_by o kind_of_cheap (text_of_cheap q.net n) (Priced o q budget) kind is tells tells.says.answer tells.says.priced tells.says.is

  pub cheap_rows : CheapRows o
  cheap_rows = record {
    answered = λ n budget text alarms prices. row o ends cheapest_command refl (record { steps = n; budget = budget }) (text ∷ alarms ∷ prices ∷ []);
    cheapest = λ n budget text alarms prices asks is. told n budget text alarms prices asks Done is (cheapest_of o (cost_asked text alarms prices n) budget);
    absent = λ n budget text alarms prices asks is. told n budget text alarms prices asks NoneThere is (absent_of o (cost_asked text alarms prices n) budget);
    dear = λ n budget text alarms prices asks is. told n budget text alarms prices asks TooMany is (dear_of o (cost_asked text alarms prices n) budget);
    undecided = λ n budget text alarms prices asks is. told n budget text alarms prices asks LeftOpen is (unpriced_of o (cost_asked text alarms prices n) budget);
  }
