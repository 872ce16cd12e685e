-- The order keeps the new pair too.
use Rattle.std.proofs.Common.{◌≡◌, ◌∙◌, ◌<◌, ◌++◌, ◌∷◌, [], ℕ, false, List, length, ap, sym, subst, arith}
use Rattle.log_order.specs.Log.{StandOnce, has_pair, reaches}
use Rattle.log_order.specs.Precedence.{Precedence, is_marked, moved}
use Rattle.log_order.proofs.KeptLemmas.{IsKeptOrder-with, IsKeptOrder-as, StandOnce-push, length-moved}
use Rattle.log_order.proofs.precedence.Precedence.put.Goals as goal

pairs_are : (c : goal.After-drop-self-inside) → c.push_reserved.new.self.items ≡ c.self.inside.pairs.items ++ (c.args.first, c.args.second) ∷ []
pairs_are c = c.push_reserved.ensures.items ∙ ap (λ ps. ps ++ (c.args.first, c.args.second) ∷ []) c.in_ok-reserve.ensures.items

order_is : (c : goal.After-drop-self-inside) → c.in_ok-order.order.items ≡ moved (is_marked c.args.marks.now) c.self.inside.order.items
order_is c = c.in_ok-order.ensures ∙ ap (λ xs. moved (is_marked c.args.marks.now) xs) c.as_slice.ensures.value

long : (c : goal.After-drop-self-inside) → length c.in_ok-order.order.items ≡ length c.self.inside.order.items
long c = ap length (order_is c) ∙ length-moved (is_marked c.args.marks.now) c.self.inside.order.items

pub invariant_of-self-2 : goal.invariant_of-self-2
invariant_of-self-2 c =
    let first : c.args.first < length c.self.inside.order.items = subst (λ (p : Precedence). c.args.first < p.count) (sym c.self.view_is) c.requires.first in
    let second : c.args.second < length c.self.inside.order.items = subst (λ (p : Precedence). c.args.second < p.count) (sym c.self.view_is) c.requires.second in
    let marks : (i : ℕ) → is_marked c.args.marks.now i ≡ reaches c.self.inside.pairs.items c.args.second i = λ i. c.requires.marks i ∙ ap (λ (p : Precedence). reaches p.pairs c.args.second i) (sym c.self.view_is) in
    let apart : reaches c.self.inside.pairs.items c.args.second c.args.first ≡ false = ap (λ (p : Precedence). reaches p.pairs c.args.second c.args.first) c.self.view_is ∙ c.requires.apart in
    record {
      kept = IsKeptOrder-as _ _ _ _ _ _ (pairs_are c) (order_is c) c.in_ok-push_follower.ensures.ok (IsKeptOrder-with c.self.inside.pairs.items c.self.inside.order.items c.self.inside.followers.items c.args.first c.args.second c.args.marks.now c.self.invariant.kept first second marks apart);
      few = let few = c.self.invariant.few in omega (arith, long c);
      once = subst StandOnce (sym (pairs_are c)) (StandOnce-push c.self.inside.pairs.items c.args.first c.args.second c.self.invariant.once (ap (λ (p : Precedence). has_pair p.pairs c.args.first c.args.second) c.self.view_is ∙ c.requires.new));
    }

pub returns-clause-ok : goal.returns-clause-ok
returns-clause-ok c =
    let count : length c.in_ok-order.order.items ≡ c.args.self.now.count = long c ∙ ap (λ (p : Precedence). p.count) c.self.view_is in
    let pairs : c.push_reserved.new.self.items ≡ c.args.self.now.pairs ++ (c.args.first, c.args.second) ∷ [] = pairs_are c ∙ ap (λ (p : Precedence). p.pairs ++ (c.args.first, c.args.second) ∷ []) c.self.view_is in
    let made : (n : ℕ) (ps : List (ℕ × ℕ)) → Precedence = λ n ps. record { count = n; pairs = ps } in
    λ i. made (count i) (pairs i)
