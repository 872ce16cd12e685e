use Rattle.std.proofs.Common.{◌∙◌, ◌+◌, ◌*◌, ◌++◌, List, map, length, ap, arith, subst, sym}
use Rattle.card_counter.proofs.States.{made_later}
use Rattle.least_faults.proofs.Drafts.{axioms_few, built_added, clauses_built, draft_added, few_added, inputs_may_count, variables_fit}
use Rattle.sat_solve.proofs.Freshness.{known_after}
use Rattle.least_faults.proofs.adding.add_draft.Goals as goal
use Rattle.least_faults.specs.Adding.{input_count}
use Rattle.proof_ledger.specs.Book.{axiomatic, axioms_of}
use Rattle.prop_core.specs.Clauses.{Clause}
use Rattle.sat_order.specs.Rank.{IsRanked}
use Rattle.sat_solve.specs.Solving.{SolverState}

pub count_false-requires-clause-within : goal.count_false-requires-clause-within
count_false-requires-clause-within g c =
    let old = c.args.parts.now in
    let fits = variables_fit old.step old.code.coded old.counter old.vars (axioms_of c.args.book.now.entries) c.requires.ready.coded c.args.reserved.draft c.requires.reserved.drafted c.requires.reserved.fits in
    let cells = ap (λ b. input_count b * length old.counter.columns) c.requires.reserved.doubted in
    omega (arith, fits, cells, c.fresh.ensures.count, c.vars.ensures)

pub count_false-requires-clause-made : goal.count_false-requires-clause-made
count_false-requires-clause-made g c = made_later c.args.parts.now.vars c.fresh.new.self c.args.parts.now.counter (omega (arith, c.fresh.ensures.count)) c.requires.ready.coded.made

pub count_false-requires-clause-inputs : goal.count_false-requires-clause-inputs
count_false-requires-clause-inputs g c = inputs_may_count _ _ _ _ _ c.fresh.new.self c.args.book.now.entries c.requires.ready.coded _ c.requires.reserved.drafted c.requires.reserved.fits (omega (arith, c.fresh.ensures.count, c.vars.ensures)) c.commit.ensures _ c.requires.reserved.doubted

pub push_axioms-requires : goal.push_axioms-requires
push_axioms-requires g c =
    let few = few_added _ _ _ _ _ c.fresh.new.self c.args.book.now.entries c.requires.ready.coded _ c.requires.reserved.drafted c.requires.reserved.fits (omega (arith, c.fresh.ensures.count, c.vars.ensures)) c.commit.ensures _ c.requires.reserved.doubted _ _ _ _ c.requires.reserved.written c.count_false.ensures in
    record { clauses = omega (arith, few.few, c.requires.reserved.room.entered); literals = omega (arith, few.short, c.requires.reserved.room.spelt) }

pub adopt-requires : goal.adopt-requires
adopt-requires g c =
    let few = few_added _ _ _ _ _ c.fresh.new.self c.args.book.now.entries c.requires.ready.coded _ c.requires.reserved.drafted c.requires.reserved.fits (omega (arith, c.fresh.ensures.count, c.vars.ensures)) c.commit.ensures _ c.requires.reserved.doubted _ _ _ _ c.requires.reserved.written c.count_false.ensures in
    let has = draft_added _ _ _ _ _ c.fresh.new.self c.args.book.now.entries c.requires.ready.coded _ c.requires.reserved.drafted c.requires.reserved.fits (omega (arith, c.fresh.ensures.count, c.vars.ensures)) c.commit.ensures _ c.requires.reserved.doubted _ _ _ _ c.requires.reserved.written c.count_false.ensures _ _ c.push_axioms.new.self.entries c.requires.ready.adopted_all c.requires.reserved.room.values c.push_axioms.ensures in
    let long = has.long in
    record { grown = has.front; room = omega (arith, long, few.few, c.requires.reserved.room.attached); known = has.known }

pub returns : goal.returns
returns g c =
    let has = draft_added _ _ _ _ _ c.fresh.new.self c.args.book.now.entries c.requires.ready.coded _ c.requires.reserved.drafted c.requires.reserved.fits (omega (arith, c.fresh.ensures.count, c.vars.ensures)) c.commit.ensures _ c.requires.reserved.doubted _ _ _ _ c.requires.reserved.written c.count_false.ensures _ _ c.push_axioms.new.self.entries c.requires.ready.adopted_all c.requires.reserved.room.values c.push_axioms.ensures in
    let values = ap (λ (s : SolverState _). s.vars) c.adopt.ensures.value in
    let enough = has.enough in
    record {
      ready = record {
        coded = has.parts;
        known = known_after c.args.book.now.entries c.push_axioms.new.self.entries (record { axioms = c.count_false.new.clauses.clauses; more = c.push_axioms.ensures }) c.requires.ready.known;
        adopted_all = ap (λ (s : SolverState _). s.adopted) c.adopt.ensures.value;
        enough = omega (arith, values, enough);
        ranked = subst (IsRanked (goal.R-pre g) (goal.R-post g)) (sym (ap (λ (s : SolverState _). s.order) c.adopt.ensures.value)) c.requires.ready.ranked;
      };
      added = record {
        built = built_added _ _ _ _ _ c.fresh.new.self c.args.book.now.entries c.requires.ready.coded _ c.requires.reserved.drafted c.requires.reserved.fits (omega (arith, c.fresh.ensures.count, c.vars.ensures)) c.commit.ensures _ c.requires.reserved.doubted _ _ _ _ c.requires.reserved.written c.count_false.ensures c.push_axioms.new.self.entries c.push_axioms.ensures;
        put = c.push_axioms.ensures ∙ ap (λ (cs : List Clause). c.args.book.now.entries ++ map axiomatic cs) (clauses_built _ _ _ _ _ c.fresh.new.self c.args.book.now.entries c.requires.ready.coded _ c.requires.reserved.drafted c.requires.reserved.fits (omega (arith, c.fresh.ensures.count, c.vars.ensures)) c.commit.ensures _ c.requires.reserved.doubted _ _ _ _ c.requires.reserved.written c.count_false.ensures);
        rank = ap (λ (s : SolverState _). s.order.rank) c.adopt.ensures.value;
      };
      few = record { axioms = c.count_false.new.clauses.clauses; more = c.push_axioms.ensures; few = axioms_few _ _ _ _ _ c.fresh.new.self c.args.book.now.entries c.requires.ready.coded _ c.requires.reserved.drafted c.requires.reserved.fits (omega (arith, c.fresh.ensures.count, c.vars.ensures)) c.commit.ensures _ c.requires.reserved.doubted _ _ _ _ c.requires.reserved.written c.count_false.ensures };
    }
