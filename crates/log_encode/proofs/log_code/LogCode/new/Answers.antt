use Rattle.std.proofs.Common.{◌≡◌, ◌∙◌, ◌+◌, ◌<◌, ◌++◌, length, sym, ap, subst, arith, All}
use Rattle.des_base.specs.declared.TheConstants.{VAR_LIMIT}
use Rattle.des_net.specs.Network.{Net}
use Rattle.question_clauses.specs.LogNames.{first_meanings}
use Rattle.log_encode.proofs.CallLemmas.{begins, guards_len, first_known, first_small, first_kept, first_is_empty, first_appends}
use Rattle.log_encode.proofs.log_code.LogCode.new.Goals as goal
use Rattle.log_encode.specs.CodedLog.{read_meanings, empty_code}
use Rattle.log_encode.specs.declared.taken.ChainEnd.{ChainEnd}
use Rattle.log_encode.specs.View.{AreKept, coded_of}
use Rattle.log_encode.specs.WrittenLog.{AppendsFirst}
use Rattle.log_encode.specs.Written.{all_closed_written, guards_of}
use Rattle.prop_core.specs.ClauseStore.{ClauseStore}

pub guards_of-requires-clause-closed : goal.guards_of-requires-clause-closed
guards_of-requires-clause-closed c =
    subst (All (λ (end : ChainEnd). end.closed < VAR_LIMIT)) (sym c.as_slice.ensures.value)
    (first_small c.args.net.now c.args.grid c.count-asked.result c.in_ok-ends.ends.items
    (begins c.args.net.now c.args.grid c.args.vars.now c.count-asked.result c.in_ok-ends.ends.items c.count-asked.ensures.count c.requires.events c.requires.made c.requires.few c.in_ok-ends.ensures))

pub write_all_closed-requires-clause-closed : goal.write_all_closed-requires-clause-closed
write_all_closed-requires-clause-closed c =
    subst (All (λ (end : ChainEnd). end.closed < VAR_LIMIT)) (sym c.as_slice-2.ensures.value)
    (first_small c.args.net.now c.args.grid c.count-asked.result c.in_ok-ends.ends.items
    (begins c.args.net.now c.args.grid c.args.vars.now c.count-asked.result c.in_ok-ends.ends.items c.count-asked.ensures.count c.requires.events c.requires.made c.requires.few c.in_ok-ends.ensures))

pub write_all_closed-requires-clause-known : goal.write_all_closed-requires-clause-known
write_all_closed-requires-clause-known c =
    subst (All (λ (end : ChainEnd). end.event < c.args.grid.events)) (sym c.as_slice-2.ensures.value)
    (first_known c.args.net.now c.args.grid c.count-asked.result c.in_ok-ends.ends.items
    (begins c.args.net.now c.args.grid c.args.vars.now c.count-asked.result c.in_ok-ends.ends.items c.count-asked.ensures.count c.requires.events c.requires.made c.requires.few c.in_ok-ends.ensures))

pub overflow_cast-len : goal.overflow_cast-len
overflow_cast-len c =
    let is = begins c.args.net.now c.args.grid c.args.vars.now c.count-asked.result c.in_ok-ends.ends.items c.count-asked.ensures.count c.requires.events c.requires.made c.requires.few c.in_ok-ends.ensures in
    let count = guards_len c.args.net.now c.args.grid c.count-asked.result c.len.result c.in_ok-ends.ends.items c.as_slice.result.now c.in_ok-guards.guards.items is c.as_slice.ensures.value c.in_ok-guards.ensures (omega (arith, c.in_ok-guards.guards.ok, c.len.ensures)) in
    omega (arith, count, c.requires.few)

pub fresh-requires : goal.fresh-requires
fresh-requires c =
    let is = begins c.args.net.now c.args.grid c.args.vars.now c.count-asked.result c.in_ok-ends.ends.items c.count-asked.ensures.count c.requires.events c.requires.made c.requires.few c.in_ok-ends.ensures in
    let count = guards_len c.args.net.now c.args.grid c.count-asked.result c.len.result c.in_ok-ends.ends.items c.as_slice.result.now c.in_ok-guards.guards.items is c.as_slice.ensures.value c.in_ok-guards.ensures (omega (arith, c.in_ok-guards.guards.ok, c.len.ensures)) in
    omega (arith, count, c.requires.few)

pub invariant_of-result : goal.invariant_of-result
invariant_of-result c =
    let is = begins c.args.net.now c.args.grid c.args.vars.now c.count-asked.result c.in_ok-ends.ends.items c.count-asked.ensures.count c.requires.events c.requires.made c.requires.few c.in_ok-ends.ensures in
    let count = guards_len c.args.net.now c.args.grid c.count-asked.result c.len.result c.in_ok-ends.ends.items c.as_slice.result.now c.in_ok-guards.guards.items is c.as_slice.ensures.value c.in_ok-guards.ensures (omega (arith, c.in_ok-guards.guards.ok, c.len.ensures)) in
    let total : c.count.result ≡ c.count-asked.result + length (first_meanings c.args.net.now) = omega (arith, c.count.ensures.count, c.fresh.ensures.count, count, c.count-asked.ensures.count) in record {
      kept = subst (λ (net : Net). AreKept (coded_of net c.args.grid c.count-asked.result c.count.result c.new-2.result.items c.new-3.result.items) c.in_ok-ends.ends.items c.in_ok-guards.guards.items c.new.result.items c.new-2.result.items) (sym c.of.ensures)
          (first_kept c.args.net.now c.args.grid c.count-asked.result c.count.result c.in_ok-ends.ends.items c.in_ok-guards.guards.items c.new.result.items c.new-2.result.items c.new-3.result.items is (c.in_ok-guards.ensures ∙ ap (guards_of c.count-asked.result) c.as_slice.ensures.value) c.new.ensures.items c.new-2.ensures.items c.new-3.ensures.items total);
      room_for_alarms = omega (arith, c.new-2.ensures.len);
      room_for_pairs = omega (arith, c.new-3.ensures.len);
    }

pub returns-clause-code : goal.returns-clause-code
returns-clause-code c =
    let is = begins c.args.net.now c.args.grid c.args.vars.now c.count-asked.result c.in_ok-ends.ends.items c.count-asked.ensures.count c.requires.events c.requires.made c.requires.few c.in_ok-ends.ensures in
    let count = guards_len c.args.net.now c.args.grid c.count-asked.result c.len.result c.in_ok-ends.ends.items c.as_slice.result.now c.in_ok-guards.guards.items is c.as_slice.ensures.value c.in_ok-guards.ensures (omega (arith, c.in_ok-guards.guards.ok, c.len.ensures)) in
    let total : c.count.result ≡ c.count-asked.result + length (first_meanings c.args.net.now) = omega (arith, c.count.ensures.count, c.fresh.ensures.count, count, c.count-asked.ensures.count) in
    ap (λ (net : Net). coded_of net c.args.grid c.count-asked.result c.count.result c.new-2.result.items c.new-3.result.items) c.of.ensures
    ∙ first_is_empty c.args.net.now c.args.grid c.count-asked.result c.count.result c.new-2.result.items c.new-3.result.items c.new-2.ensures.items c.new-3.ensures.items total
    ∙ ap (empty_code c.args.net.now c.args.grid) c.count-asked.ensures.count

pub returns-clause-vars : goal.returns-clause-vars
returns-clause-vars c =
    let is = begins c.args.net.now c.args.grid c.args.vars.now c.count-asked.result c.in_ok-ends.ends.items c.count-asked.ensures.count c.requires.events c.requires.made c.requires.few c.in_ok-ends.ensures in
    let count = guards_len c.args.net.now c.args.grid c.count-asked.result c.len.result c.in_ok-ends.ends.items c.as_slice.result.now c.in_ok-guards.guards.items is c.as_slice.ensures.value c.in_ok-guards.ensures (omega (arith, c.in_ok-guards.guards.ok, c.len.ensures)) in
    c.fresh.ensures.count ∙ ap (λ k. c.args.vars.now + k) count

pub returns-clause-written : goal.returns-clause-written
returns-clause-written c =
    let is = begins c.args.net.now c.args.grid c.args.vars.now c.count-asked.result c.in_ok-ends.ends.items c.count-asked.ensures.count c.requires.events c.requires.made c.requires.few c.in_ok-ends.ensures in
    subst (λ k. AppendsFirst c.args.net.now c.args.grid.steps (read_meanings (empty_code c.args.net.now c.args.grid k)) c.args.out.now.clauses c.absorb.new.self.clauses) c.count-asked.ensures.count
    (first_appends c.args.net.now c.args.grid c.count-asked.result c.in_ok-ends.ends.items c.args.out.now.clauses c.write_all_closed.new.out.clauses c.absorb.new.self.clauses is
    (c.in_ok-write_all_closed.ensures ∙ ap (λ (s : ClauseStore). s.clauses ++ all_closed_written c.args.grid c.as_slice-2.result.now) c.new-clauses.ensures ∙ ap (all_closed_written c.args.grid) c.as_slice-2.ensures.value)
    c.in_ok-absorb.ensures.added)
