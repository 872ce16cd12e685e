use Rattle.std.proofs.Common.{◌∙◌, ◌<◌, refl, sym, ap, false, inl, inr, arith}
use Rattle.prop_core.specs.Clauses.{is_true}
use Rattle.prop_core.proofs.Literals.{open_from, open_var, literal_of}
use Rattle.sat_solve.proofs.Putting.{learnt_none}
use Rattle.sat_solve.proofs.Standing.{assumed_small}
use Rattle.sat_solve.proofs.Stepping.{under_way_decided, longer_decided}
use Rattle.sat_solve.proofs.search.Search.at_rest.Goals as goal

pub decide-requires-clause-known : goal.decide-requires-clause-known
decide-requires-clause-known g c =
    let w = c.requires.under_way in
    let a = assumed_small c.args.self.now.vars c.args.assumptions.now c.in-Some.lit w.under.below c.in-Some.ensures.some.among in
    let b = w.over.sound.serving.enough in
    omega arith

pub returns-in-Some-2-clause-decided : goal.returns-in-Some-2-clause-decided
returns-in-Some-2-clause-decided g c =
    let s = c.args.self.now in
    let w = c.requires.under_way in
    let lit = c.in-Some.lit in
    let n = rw c.trail-trail.ensures at c.in-Some.ensures.some in
    let known = assumed_small s.vars c.args.assumptions.now lit w.under.below n.among in
    let undecided = open_from s.propagator.literals lit n.not_yet (ap (is_true s.propagator.literals) (sym c.negated.ensures) ∙ sym (rw c.trail-trail.ensures at c.makes_true.ensures) ∙ c.if-makes_true.false) in
    record {
      goes_on = record {
        under_way = under_way_decided c.args.assumptions.now s.taken c.next_assumption.new.taken s.order.waiting s.order.waiting s.vars s.spare s.propagator c.decide.new.self c.args.book.now.entries lit w c.is_sound.ensures.state (rw c.trail-trail.ensures at c.next_assumption.ensures.taken) refl c.decide.ensures known (inl n.among) (λ other b _ o. w.over.sound.waiting_open other b o);
        learnt = learnt_none c.args.book.now.entries;
      };
      longer = longer_decided s.propagator c.decide.new.self lit s.vars c.is_sound.ensures.state undecided known w.over.sound.serving.enough c.decide.ensures;
    }

pub returns-in-Some-pick-clause-decided : goal.returns-in-Some-pick-clause-decided
returns-in-Some-pick-clause-decided g c =
    let s = c.args.self.now in
    let w = c.requires.under_way in
    let choice = c.in-Some-pick.choice in
    let e = rw c.trail-trail.ensures at c.in-Some-pick.ensures.some in
    let n = w.over.sound.variables in
    let known : choice.var < s.vars = let k = e.known in omega arith in
    record {
      goes_on = record {
        under_way = under_way_decided c.args.assumptions.now s.taken c.next_assumption.new.taken s.order.waiting c.pick.new.order.waiting s.vars s.spare s.propagator c.decide-in-Some-pick.new.self c.args.book.now.entries choice w c.is_sound.ensures.state (rw c.trail-trail.ensures at c.next_assumption.ensures.taken) c.pick.ensures.kept.variables c.decide-in-Some-pick.ensures
            known (inr (rw c.trail-trail.ensures at c.in-None.ensures.none)) (λ other b. e.others other (omega arith));
        learnt = learnt_none c.args.book.now.entries;
      };
      longer = longer_decided s.propagator c.decide-in-Some-pick.new.self choice s.vars c.is_sound.ensures.state (open_var s.propagator.literals (literal_of choice.var false) choice refl e.undecided) known w.over.sound.serving.enough c.decide-in-Some-pick.ensures;
    }
