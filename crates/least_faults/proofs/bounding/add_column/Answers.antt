use Rattle.std.proofs.Common.{ap, arith, length, ◌∙◌, [], ◌∷◌, refl, subst, sym}
use Rattle.card_counter.specs.CounterState.{CounterState}
use Rattle.least_faults.proofs.Columns.{column_added, few_written, more_values, written_alone}
use Rattle.sat_solve.proofs.Freshness.{known_after}
use Rattle.least_faults.proofs.Determined.{column_determined}
use Rattle.least_faults.proofs.Staying.{question_kept}
use Rattle.proof_ledger.specs.Book.{axioms_of}
use Rattle.prop_core.specs.ClauseStore.{ClauseStore}
use Rattle.sat_solve.specs.Solving.{SolverState}
use Rattle.least_faults.proofs.bounding.add_column.Goals as goal
use Rattle.std.specs.List.{range_with_len}
use Rattle.sat_order.specs.Rank.{IsRanked}

pub push_axioms-requires : goal.push_axioms-requires
push_axioms-requires g c =
    let written = few_written c.args.parts.now.counter c.args.parts.now.vars _ _ (ap (λ (store : ClauseStore). store.clauses) c.new-clauses.ensures) c.in_ok-add_column.ensures.column.clauses in
    let few = written.few in
    let short = written.short in
    let clauses = c.in_ok-reserve.ensures.ok_clauses in
    let literals = c.in_ok-reserve.ensures.ok_literals in
    let inputs = c.inputs-inputs.ensures in
    record { clauses = omega (arith, few, clauses, inputs); literals = omega (arith, short, literals, inputs) }

pub adopt-requires : goal.adopt-requires
adopt-requires g c =
    let column = column_added _ _ _ _ _ _ _ _ _ c.args.book.now.entries _ _ _ c.requires.ready.coded c.requires.ready.adopted_all c.requires.some c.requires.few
    (more_values _ _ _ _ _ _ c.in_ok-reserve-2.ensures.ok.vars c.count.ensures.count c.inputs-inputs.ensures) c.in_ok-add_column.ensures.column.counter c.in_ok-add_column.ensures.column.vars c.reserve-2.ensures.adopted c.reserve.ensures.same
    (written_alone _ _ _ (ap (λ (store : ClauseStore). store.clauses) c.new-clauses.ensures) c.in_ok-add_column.ensures.column.clauses) c.push_axioms.ensures in
    let long = column.long in
    let spare = c.in_ok-reserve-2.ensures.ok.spare in
    let inputs = c.inputs-inputs.ensures in
    record { grown = column.front; room = omega (arith, long, spare, inputs); known = column.known }

pub returns-clause-ready : goal.returns-clause-ready
returns-clause-ready g c =
    let column = column_added _ _ _ _ _ _ _ _ _ c.args.book.now.entries _ _ _ c.requires.ready.coded c.requires.ready.adopted_all c.requires.some c.requires.few
    (more_values _ _ _ _ _ _ c.in_ok-reserve-2.ensures.ok.vars c.count.ensures.count c.inputs-inputs.ensures) c.in_ok-add_column.ensures.column.counter c.in_ok-add_column.ensures.column.vars c.reserve-2.ensures.adopted c.reserve.ensures.same
    (written_alone _ _ _ (ap (λ (store : ClauseStore). store.clauses) c.new-clauses.ensures) c.in_ok-add_column.ensures.column.clauses) c.push_axioms.ensures in
    let values = ap (λ (s : SolverState _). s.vars) c.adopt.ensures.value in
    let enough = column.enough in
    record {
      coded = column.room;
      known = known_after c.args.book.now.entries c.push_axioms.new.self.entries column.axioms c.requires.ready.known;
      adopted_all = ap (λ (s : SolverState _). s.adopted) c.adopt.ensures.value;
      enough = omega (arith, values, enough);
      ranked = subst (IsRanked (goal.R-pre g) (goal.R-post g)) (sym (ap (λ (s : SolverState _). s.order) c.adopt.ensures.value)) (c.reserve-2.ensures.ranked c.requires.ready.ranked);
    }

pub returns-clause-kept : goal.returns-clause-kept
returns-clause-kept g c = record {
  step = refl;
  code = refl;
  counter = record {
    inputs = ap (λ (counter : CounterState). counter.inputs) c.in_ok-add_column.ensures.column.counter;
    columns = range_with_len c.args.parts.now.vars (length c.args.parts.now.counter.inputs) ∷ [];
    more = ap (λ (counter : CounterState). counter.columns) c.in_ok-add_column.ensures.column.counter;
  };
  rank = ap (λ (s : SolverState _). s.order.rank) c.adopt.ensures.value ∙ c.reserve-2.ensures.rank;
  built = column_determined c.args.parts.now.step c.args.parts.now.code.coded _ _ _ _ _ _ _ _ c.in_ok-add_column.ensures.column.counter c.in_ok-add_column.ensures.column.vars c.reserve.ensures.same (written_alone _ _ _ (ap (λ (store : ClauseStore). store.clauses) c.new-clauses.ensures) c.in_ok-add_column.ensures.column.clauses) c.push_axioms.ensures;
}

pub returns-in_err-reserve-clause-kept : goal.returns-in_err-reserve-clause-kept
returns-in_err-reserve-clause-kept g c = question_kept c.args.parts.now _ _ _ c.args.book.now.entries c.reserve.new.self.entries refl refl refl (ap axioms_of c.reserve.ensures.same)

pub returns-in_err-reserve-2-clause-kept : goal.returns-in_err-reserve-2-clause-kept
returns-in_err-reserve-2-clause-kept g c = question_kept c.args.parts.now _ _ c.reserve-2.new.self c.args.book.now.entries c.reserve.new.self.entries refl refl c.reserve-2.ensures.rank (ap axioms_of c.reserve.ensures.same)

pub returns-in_err-add_column-clause-kept : goal.returns-in_err-add_column-clause-kept
returns-in_err-add_column-clause-kept g c =
    let err = c.in_err-add_column.ensures.err in
    question_kept c.args.parts.now c.add_column.new.self c.add_column.new.vars c.reserve-2.new.self c.args.book.now.entries c.reserve.new.self.entries err.0 err.1 c.reserve-2.ensures.rank (ap axioms_of c.reserve.ensures.same)
