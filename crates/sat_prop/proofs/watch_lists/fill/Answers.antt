use Rattle.std.proofs.Common.{◌≡◌, ◌∙◌, ◌+◌, ◌-◌, ◌++◌, ◌∷◌, [], List, ap, arith, append_assoc}
use Rattle.std.specs.Prelude.{vec_len}
use Rattle.std.proofs.lemmas.Grind.{common_steps}
use Rattle.sat_prop.specs.declared.watch_lists.Lists.{Lists}
use Rattle.sat_prop.specs.Watches.{no_lists, empty}
use Rattle.sat_prop.proofs.Linking.{no_lists_more}
use Rattle.sat_prop.proofs.watch_lists.fill.Goals as goal

pub more-preserved : goal.more-preserved
more-preserved c =
    let i = c.more.invariant in
    let u = c.unwrap.ensures in
    let e : c.push.new.self.items ≡ c.more.lists.items ++ empty ∷ [] = let a = c.push.ensures.items in grind (arith, common_steps) in
    let n = c.push.ensures.len in
    let k = c.push.ensures.capacity in
    let t = c.more-test.true in
    let m = c.len.ensures in
    let longer = i.longer in
    let within = i.within in
    let room = i.room in
    let one : vec_len c.push.new.self ≡ vec_len c.more.lists + 1 = grind (arith, common_steps) in
    let count : vec_len c.more.lists - vec_len c.args.lists.now + 1 ≡ vec_len c.push.new.self - vec_len c.args.lists.now = omega arith in
    record {
      items = e ∙ ap (λ (xs : List Lists). xs ++ empty ∷ []) i.items ∙ append_assoc c.args.lists.now.items (no_lists (vec_len c.more.lists - vec_len c.args.lists.now)) (empty ∷ [])
          ∙ ap (λ (xs : List Lists). c.args.lists.now.items ++ xs) (no_lists_more (vec_len c.more.lists - vec_len c.args.lists.now) ∙ ap no_lists count);
      longer = omega arith;
      within = omega arith;
      room = omega arith;
    }
