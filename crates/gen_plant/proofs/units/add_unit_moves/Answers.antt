-- What stands of the unit after each call.
use Rattle.std.proofs.Common.{arith}
use Rattle.std.specs.Prelude.{codes}
use Rattle.std.proofs.lemmas.Result.{on_ok_weaker}
use Rattle.gen_plant.specs.Stages.{unit_without_moves}
use Rattle.gen_plant.proofs.ComponentLemmas.{trans_free, count_at, jams, trips_too, unit_jam, unit_trip, unit_fix, with_jam, with_trip, with_fix}
use Rattle.gen_plant.proofs.units.add_unit_moves.Goals as goal

pub add_trans-requires-clause-free : goal.add_trans-requires-clause-free
add_trans-requires-clause-free c = trans_free c.args.builder.now.components c.args.comp unit_without_moves 0 (codes "jam") 1 c.requires.new (omega (arith, c.requires.few)) unit_jam

pub add_trans-requires-2-clause-free : goal.add_trans-requires-2-clause-free
add_trans-requires-2-clause-free c =
    let first = with_jam c.args.builder.now c.add_trans.new.builder c.args.comp c.requires.new c.in_ok-add_trans.ensures in
    trans_free c.add_trans.new.builder.components c.args.comp jams 1 (codes "trip") 2 first.there
    (omega (arith, count_at c.args.builder.now c.args.comp jams c.add_trans.new.builder first, c.requires.few)) unit_trip

pub add_trans-requires-3-clause-free : goal.add_trans-requires-3-clause-free
add_trans-requires-3-clause-free c =
    let first = with_jam c.args.builder.now c.add_trans.new.builder c.args.comp c.requires.new c.in_ok-add_trans.ensures in
    let second = with_trip c.args.builder.now c.add_trans.new.builder c.add_trans-2.new.builder c.args.comp first c.in_ok-add_trans-2.ensures in
    trans_free c.add_trans-2.new.builder.components c.args.comp trips_too 2 (codes "fix") 0 second.there
    (omega (arith, count_at c.args.builder.now c.args.comp trips_too c.add_trans-2.new.builder second, c.requires.few)) unit_fix

pub returns : goal.returns
returns c =
    let first = with_jam c.args.builder.now c.add_trans.new.builder c.args.comp c.requires.new c.in_ok-add_trans.ensures in
    let second = with_trip c.args.builder.now c.add_trans.new.builder c.add_trans-2.new.builder c.args.comp first c.in_ok-add_trans-2.ensures in
    on_ok_weaker c.add_trans-3.result (λ is. (with_fix c.args.builder.now c.add_trans-2.new.builder c.add_trans-3.new.builder c.args.comp second is).is) c.add_trans-3.ensures
