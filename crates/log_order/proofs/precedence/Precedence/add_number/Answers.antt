-- The new number stands last in the order, with no pairs.
use Rattle.std.proofs.Common.{◌≡◌, ◌∙◌, ◌<◌, ◌++◌, ◌∷◌, [], length, ap, sym, subst, refl, arith, length-append}
use Rattle.std.proofs.lemmas.Grind.{common_steps}
use Rattle.log_order.specs.declared.TheConstants.{MOST_ALARMS}
use Rattle.log_order.specs.Precedence.{Precedence}
use Rattle.log_order.proofs.KeptLemmas.{IsKeptOrder-push, IsKeptOrder-as}
use Rattle.log_order.proofs.precedence.Precedence.add_number.Goals as goal

pub invariant_of-self-2 : goal.invariant_of-self-2
invariant_of-self-2 c =
    let number : c.len-number.result ≡ length c.self.inside.order.items = grind (arith, common_steps) in
    let order : c.push_reserved.new.self.items ≡ c.self.inside.order.items ++ length c.self.inside.order.items ∷ [] = c.push_reserved.ensures.items ∙ ap (λ xs. xs ++ c.len-number.result ∷ []) c.in_ok-reserve.ensures.items ∙ ap (λ n. c.self.inside.order.items ++ n ∷ []) number in
    let lists : c.push_reserved-2.new.self.items ≡ c.self.inside.followers.items ++ [] ∷ [] = c.push_reserved-2.ensures.items ∙ ap (λ xs. xs ++ c.new.result ∷ []) c.in_ok-reserve-2.ensures.items ∙ ap (λ l. c.self.inside.followers.items ++ l ∷ []) c.new.ensures in
    let room : length c.self.inside.order.items < MOST_ALARMS = subst (λ (p : Precedence). p.count < MOST_ALARMS) (sym c.self.view_is) c.requires.room in
    record {
      kept = IsKeptOrder-as _ _ _ _ _ _ refl order lists (IsKeptOrder-push c.self.inside.pairs.items c.self.inside.order.items c.self.inside.followers.items c.self.invariant.kept);
      few = omega (arith, ap length order, length-append c.self.inside.order.items (length c.self.inside.order.items ∷ []));
      once = c.self.invariant.once;
    }
