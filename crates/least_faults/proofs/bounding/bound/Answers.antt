use Rattle.std.proofs.Common.{[], ◌∷◌, ◌++◌, Some, ap, arith}
use Rattle.least_faults.proofs.AxiomLists.{adds_both, adds_none}
use Rattle.least_faults.proofs.Beside.{alone_still}
use Rattle.least_faults.proofs.Posing.{clauses_pose}
use Rattle.least_faults.proofs.Staying.{question_both, question_same}
use Rattle.least_faults.proofs.bounding.bound.Goals as goal
use Rattle.prop_core.specs.declared.lit.Lit.{Lit}

pub loop-init : goal.loop-init
loop-init g c =
    let first = c.columns-counter.ensures.columns in
    record {
      ready = c.requires.ready;
      kept = question_same c.args.parts.now c.args.book.now.entries;
      axioms = adds_none c.args.book.now.entries;
      columns = omega (arith, first);
      upto = omega (arith, first);
    }

pub loop-preserved : goal.loop-preserved
loop-preserved g c =
    let kept = c.loop.invariant in
    let more = c.add_column.ensures in
    let columns = kept.columns in
    let one = c.in_ok-add_column.ensures.columns in
    let first = c.columns-counter.ensures.columns in
    let start = c.loop.auto.counter in
    let test = c.loop-test.true in
    record {
      ready = more.ready;
      kept = question_both c.args.parts.now c.loop.parts c.add_column.new.parts kept.kept more.kept;
      axioms = adds_both c.args.book.now.entries c.loop.book.entries c.add_column.new.book.entries kept.axioms more.axioms;
      columns = omega (arith, columns, one, first, start);
      upto = omega (arith, test);
    }

pub returns-in_err-add_column-clause-kept : goal.returns-in_err-add_column-clause-kept
returns-in_err-add_column-clause-kept g c = question_both c.args.parts.now c.loop.parts c.add_column.new.parts c.loop.invariant.kept c.add_column.ensures.kept

pub returns-in_err-add_column-clause-alone : goal.returns-in_err-add_column-clause-alone
returns-in_err-add_column-clause-alone g c = λ alone.
    alone_still _ _ c.args.parts.now c.add_column.new.parts c.args.book.now.entries c.add_column.new.book.entries c.requires.some c.add_column.ensures.ready
    (question_both c.args.parts.now c.loop.parts c.add_column.new.parts c.loop.invariant.kept c.add_column.ensures.kept) alone

pub returns-clause-alone : goal.returns-clause-alone
returns-clause-alone g c = λ alone. alone_still _ _ c.args.parts.now c.loop.parts c.args.book.now.entries c.loop.book.entries c.requires.some c.loop.invariant.ready c.loop.invariant.kept alone

pub returns-clause-literal : goal.returns-clause-literal
returns-clause-literal g c =
    let parts = c.loop.parts in
    let columns = c.loop.invariant.columns in
    let upto = c.loop.invariant.upto in
    let test = c.loop-test.false in
    record {
      columns = omega (arith, columns, upto, test);
      literal_is = c.bound_lit.ensures.literal;
      posed = λ own clauses guards read.
          clauses_pose parts.step parts.code.coded parts.counter own (Some c.args.k) (guards ++ c.bound_lit.result ∷ []) c.loop.invariant.ready.coded.together clauses (record {
            guards = guards;
            read = read;
            whole = ap (λ (lit : Lit). guards ++ lit ∷ []) c.bound_lit.ensures.literal;
            column = omega (arith, columns, test);
          });
    }
