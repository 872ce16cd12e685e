-- One walks along a list: what waits, and what comes of a step.
use Rattle.std.proofs.Common.{◌≡◌, ◌∙◌, ℕ, ◌<◌, ◌≤◌, ◌++◌, ◌∷◌, [], List, refl, ap, sym, subst, length, get_or, arith, Option, None, append_assoc}
use Rattle.prop_core.specs.declared.lit.Lit.{Lit}
use Rattle.sat_prop.specs.declared.watch_lists.Lists.{Lists}
use Rattle.sat_prop.specs.declared.watch_lists.Walk.{Walk}
use Rattle.sat_prop.specs.declared.watch_lists.TheConstants.{NO_WATCH}
use Rattle.sat_prop.specs.Watches.{IsList, IsWalk, IsWalkInList, Links, as_link, ends_of, first_or_end, last_of, passed, passed_within}
use Rattle.sat_prop.proofs.Links.{ends, last_append, link_after, link_once, links_few, links_first, links_rest, passed_all, passed_none}

-- one walks there, and these wait
pub record IsWalkOf (nexts : List (Option ℕ)) (lists : List Lists) (walk : Walk) (waiting : List ℕ) : Type 0 where
  pub walks : IsWalk nexts lists walk
  pub waits : passed nexts walk.next ≡ waiting

-- ---- none waits

pub walk_none : (nexts : List (Option ℕ)) (lists : List Lists) (walk : Walk) → walk.next ≡ NO_WATCH → IsWalkOf nexts lists walk []
walk_none nexts lists walk e = record {
  walks = λ d. absurd (d e);
  waits = ap (passed_within (length nexts) nexts) (ends walk.next e) ∙ passed_none (length nexts) nexts;
}

-- ---- the rest waits

walk_of : (nexts : List (Option ℕ)) (lists : List Lists) (walk : Walk) → length nexts ≤ NO_WATCH → (w : IsWalkInList nexts lists walk) → IsWalkOf nexts lists walk w.rest
walk_of nexts lists walk few w =
    let l : Links nexts (as_link walk.next) w.rest = subst (λ (n : ℕ). Links nexts (as_link n) w.rest) (sym w.next) (links_rest nexts (as_link (ends_of lists walk.lit).first) w.done w.rest few w.links) in
    record { walks = λ d. w; waits = passed_all (length nexts) nexts (as_link walk.next) w.rest l (links_few nexts (as_link walk.next) w.rest l) }

-- in the list of a literal, these have been looked at and these haven't
pub walk_within : (nexts : List (Option ℕ)) (lists : List Lists) (l : Lit) (before next : ℕ) (done rest : List ℕ) → length nexts ≤ NO_WATCH → l.var < length lists → IsList nexts (ends_of lists l) (done ++ rest) → before ≡ last_of done → next ≡ first_or_end rest
    → IsWalkOf nexts lists (record { lit = l; before = before; next = next }) rest
walk_within nexts lists l before next done rest few known i b n =
    walk_of nexts lists (record { lit = l; before = before; next = next }) few (record { known = known; done = done; rest = rest; links = i.links; before = b; next = n })

-- at the beginning of a list, all do
pub walk_begins : (nexts : List (Option ℕ)) (lists : List Lists) (l : Lit) (numbers : List ℕ) → length nexts ≤ NO_WATCH → l.var < length lists → IsList nexts (ends_of lists l) numbers
    → IsWalkOf nexts lists (record { lit = l; before = NO_WATCH; next = (ends_of lists l).first }) numbers
walk_begins nexts lists l numbers few known i =
    walk_within nexts lists l NO_WATCH (ends_of lists l).first [] numbers few known i refl (link_once (ends_of lists l).first (first_or_end numbers) (links_first nexts (as_link (ends_of lists l).first) numbers few i.links))

-- ---- one waits

-- one stands next in a list: what stands before it and after it there
pub record IsNext (nexts : List (Option ℕ)) (lists : List Lists) (walk : Walk) : Type 0 where
  pub done : List ℕ
  pub others : List ℕ
  pub known : walk.lit.var < length lists
  pub links : Links nexts (as_link (ends_of lists walk.lit).first) (done ++ walk.next ∷ others)
  pub before : walk.before ≡ last_of done
  pub waits : passed nexts walk.next ≡ walk.next ∷ others

pub is_next : (nexts : List (Option ℕ)) (lists : List Lists) (walk : Walk) → length nexts ≤ NO_WATCH → IsWalk nexts lists walk → (walk.next ≡ NO_WATCH → ⊥) → IsNext nexts lists walk
is_next nexts lists walk few walks d = by w.rest w.links w.next (walk_of nexts lists walk few w).waits
  where
    w : IsWalkInList nexts lists walk
    w = walks d

    by : (rest : List ℕ) → Links nexts (as_link (ends_of lists walk.lit).first) (w.done ++ rest) → walk.next ≡ first_or_end rest → passed nexts walk.next ≡ rest → IsNext nexts lists walk
    by [] l e p = absurd (d e)
    by (x ∷ xs) l e p = record {
      done = w.done;
      others = xs;
      known = w.known;
      links = subst (λ (n : ℕ). Links nexts (as_link (ends_of lists walk.lit).first) (w.done ++ n ∷ xs)) (sym e) l;
      before = w.before;
      waits = p ∙ ap (λ (n : ℕ). n ∷ xs) (sym e);
    }

-- where some wait one does
pub some_next : (nexts : List (Option ℕ)) (lists : List Lists) (walk : Walk) → length nexts ≤ NO_WATCH → IsWalk nexts lists walk → 0 < length (passed nexts walk.next) → IsNext nexts lists walk
some_next nexts lists walk few walks some = is_next nexts lists walk few walks
    (λ e. let z : length (passed nexts walk.next) ≡ 0 = ap length (walk_none nexts lists walk e).waits in absurd (omega (arith, z, some)))

-- the one after it is the first of the others
pub after_is : (nexts : List (Option ℕ)) (lists : List Lists) (walk : Walk) (after : ℕ) → length nexts ≤ NO_WATCH → (x : IsNext nexts lists walk) → get_or nexts walk.next None ≡ as_link after → after ≡ first_or_end x.others
after_is nexts lists walk after few x e = link_once after (first_or_end x.others) (sym e ∙ link_after nexts (as_link (ends_of lists walk.lit).first) x.done walk.next x.others few x.links)

-- it stays, and the others wait
pub walk_stays : (nexts : List (Option ℕ)) (lists : List Lists) (walk : Walk) (after : ℕ) → length nexts ≤ NO_WATCH → (x : IsNext nexts lists walk) → get_or nexts walk.next None ≡ as_link after
    → IsWalkOf nexts lists (record { lit = walk.lit; before = walk.next; next = after }) x.others
walk_stays nexts lists walk after few x e = walk_of nexts lists (record { lit = walk.lit; before = walk.next; next = after }) few (record {
  known = x.known;
  done = x.done ++ walk.next ∷ [];
  rest = x.others;
  links = subst (λ (xs : List ℕ). Links nexts (as_link (ends_of lists walk.lit).first) xs) (sym (append_assoc x.done (walk.next ∷ []) x.others)) x.links;
  before = sym (last_append x.done walk.next []);
  next = after_is nexts lists walk after few x e;
})
