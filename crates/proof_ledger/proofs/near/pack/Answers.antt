use Rattle.std.proofs.Common.{◌≡◌, ◌++◌, ◌∷◌, [], ◌+◌, ℕ, List, sym, subst, map, take}
use Rattle.prop_core.specs.Derivation.{clause_numbered}
use Rattle.proof_ledger.specs.ClauseNumbers.{AreNumbersOf}
use Rattle.proof_ledger.proofs.Places.{packed_more, numbers_more}
use Rattle.proof_ledger.proofs.near.pack.Goals as goal

pub loop-number-preserved : goal.loop-number-preserved
loop-number-preserved c =
    let clauses = c.args.clauses.now.clauses in
    let numbers = c.args.numbers.now in
    let packed = c.loop-number.packed.clauses in
    let more = c.copy.new.packed.clauses in
    let places = c.loop-number.places.items in
    let moved = c.in_ok-copy.field-0 in
    let items : c.push.new.self.items ≡ places ++ moved ∷ [] = c.in_ok-push.ensures.items in
    record {
      same = subst (λ (ps : List ℕ). map (clause_numbered more) ps ≡ map (clause_numbered clauses) (take (c.loop-number.number-index + 1) numbers)) (sym items)
          (packed_more clauses packed more numbers places c.loop-number.number-index moved c.loop-number-test.true c.in_ok-copy.ensures.keeps c.loop-number.invariant.numbers c.loop-number.invariant.same c.in_ok-copy.ensures.same);
      numbers = subst (λ (ps : List ℕ). AreNumbersOf more ps) (sym items) (numbers_more packed more places moved c.in_ok-copy.ensures.keeps c.loop-number.invariant.numbers c.in_ok-copy.ensures.within);
    }
