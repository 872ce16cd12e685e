use Rattle.std.proofs.Common.{◌∙◌, ◌+◌, List, ap, inr, subst, sym}
use Rattle.des_base.proofs.Results.{on_err}
use Rattle.event_costs.specs.declared.TheConstants.{MOST_COST}
use Rattle.least_faults.proofs.Closing.{grown_closed, marked_ready}
use Rattle.least_faults.specs.Growing.{HasGrownWithin}
use Rattle.proof_ledger.specs.Book.{axioms_of}
use Rattle.proof_ledger.specs.Kept.{LedgerState}
use Rattle.prop_core.specs.Clauses.{Clause}
use Rattle.cost_least.proofs.Finding.{answered, grown_searched, left_open}
use Rattle.cost_least.specs.Searching.{LeavesUnpriced, asked_of}
use Rattle.cost_least.specs.Weighed.{AreWeighedParts}
use Rattle.cost_least.proofs.searching.cheapest.Goals as goal
use Rattle.proof_ledger.proofs.AxiomLists.{marked_axioms}
use Rattle.sat_solve.proofs.Leaving.{finals_left}

pub weigh-requires-clause-ready : goal.weigh-requires-clause-ready
weigh-requires-clause-ready g c = marked_ready _ _ c.args.parts.now 0 c.args.book.now.entries c.put_mark.new.self.entries (ap (λ (b : LedgerState). b.entries) c.in_ok-put_mark.ensures.added) c.requires.ready

pub returns-in_err-cheap-clause-grown : goal.returns-in_err-cheap-clause-grown
returns-in_err-cheap-clause-grown g c =
    grown_searched c.args.budget c.search.new.budget c.args.book.now.entries c.put_mark.new.self.entries c.weigh.new.book.entries c.search.new.book.entries (ap (λ (b : LedgerState). b.entries) c.in_ok-put_mark.ensures.added) c.weigh.ensures.axioms c.search.ensures.goes_on.searching

pub returns-in_err-put_mark-2-clause-grown : goal.returns-in_err-put_mark-2-clause-grown
returns-in_err-put_mark-2-clause-grown g c =
    subst (λ (b : LedgerState). HasGrownWithin c.args.budget c.args.book.now.entries b.entries) (sym c.in_err-put_mark-2.ensures.err)
    (grown_searched c.args.budget c.search.new.budget c.args.book.now.entries c.put_mark.new.self.entries c.weigh.new.book.entries c.search.new.book.entries (ap (λ (b : LedgerState). b.entries) c.in_ok-put_mark.ensures.added) c.weigh.ensures.axioms c.search.ensures.goes_on.searching)

pub returns-clause-grown : goal.returns-clause-grown
returns-clause-grown g c =
    grown_closed c.args.budget c.args.book.now.entries c.search.new.book.entries c.put_mark-2.new.self.entries (ap (λ (b : LedgerState). b.entries) c.in_ok-put_mark-2.ensures.added)
    (grown_searched c.args.budget c.search.new.budget c.args.book.now.entries c.put_mark.new.self.entries c.weigh.new.book.entries c.search.new.book.entries (ap (λ (b : LedgerState). b.entries) c.in_ok-put_mark.ensures.added) c.weigh.ensures.axioms c.search.ensures.goes_on.searching)

pub returns-clause-answered : goal.returns-clause-answered
returns-clause-answered g c =
    let asked = c.in_ok-scale.ensures.weighed in
    let closing = ap (λ (b : LedgerState). b.entries) c.in_ok-put_mark-2.ensures.added in
    let now = c.search.new.parts in record {
      cost = asked.cost;
      answered = asked.answered;
      others = asked.others;
      means = answered (asked_of c.args.net.now asked.cost c.args.log.now c.search.new.parts) c.args.budget c.args.book.now.entries c.put_mark.new.self.entries c.weigh.new.book.entries c.search.new.book.entries c.put_mark-2.new.self.entries c.in_ok-cheap.cheap
          (ap (λ (b : LedgerState). b.entries) c.in_ok-put_mark.ensures.added) c.weigh.ensures.axioms (ap (λ (b : LedgerState). b.entries) c.in_ok-put_mark-2.ensures.added)
          (c.in_ok-cheap.ensures.found asked.cost asked.answered asked.weighed);
      scale = c.in_ok-scale.scale;
      weighed = subst (λ (axioms : List Clause). AreWeighedParts asked.cost now.step now.code.coded now.counter now.vars axioms c.in_ok-scale.scale) (sym (ap axioms_of closing ∙ marked_axioms c.search.new.book.entries 1))
          (c.search.ensures.goes_on.still asked.cost asked.weighed).coded;
    }

-- ---- without an answer

pub returns-in_err-cheap-clause-unanswered : goal.returns-in_err-cheap-clause-unanswered
returns-in_err-cheap-clause-unanswered g c =
    let asked = c.in_ok-scale.ensures.weighed in
    let now = c.search.new.parts in
    on_err _ _ (inr (inr (record {
      cost = asked.cost;
      answered = asked.answered;
      others = asked.others;
      unanswered = left_open (asked_of c.args.net.now asked.cost c.args.log.now now) c.args.budget c.search.new.budget c.args.book.now.entries c.put_mark.new.self.entries c.weigh.new.book.entries c.search.new.book.entries
          (ap (λ (b : LedgerState). b.entries) c.in_ok-put_mark.ensures.added) c.weigh.ensures.axioms c.search.ensures.goes_on.searching (c.in_err-cheap.ensures.quit asked.cost asked.answered asked.weighed);
      scale = c.in_ok-scale.scale;
      weighed = (c.search.ensures.goes_on.still asked.cost asked.weighed).coded;
    })))

pub returns-in_err-put_mark-2-clause-unanswered : goal.returns-in_err-put_mark-2-clause-unanswered
returns-in_err-put_mark-2-clause-unanswered g c =
    let asked = c.in_ok-scale.ensures.weighed in
    let now = c.search.new.parts in
    on_err _ _ (subst (λ (b : LedgerState). LeavesUnpriced (goal.C-post g) c.args.costs.now.cost c.args.net.now c.args.log.now now c.args.budget c.args.book.now.entries b.entries) (sym c.in_err-put_mark-2.ensures.err) (inr (inr (record {
      cost = asked.cost;
      answered = asked.answered;
      others = asked.others;
      unanswered = left_open (asked_of c.args.net.now asked.cost c.args.log.now now) c.args.budget c.search.new.budget c.args.book.now.entries c.put_mark.new.self.entries c.weigh.new.book.entries c.search.new.book.entries
          (ap (λ (b : LedgerState). b.entries) c.in_ok-put_mark.ensures.added) c.weigh.ensures.axioms c.search.ensures.goes_on.searching (finals_left _ (1 + MOST_COST) c.args.budget _ _ (c.in_ok-cheap.ensures.found asked.cost asked.answered asked.weighed).put);
      scale = c.in_ok-scale.scale;
      weighed = (c.search.ensures.goes_on.still asked.cost asked.weighed).coded;
    }))))
