-- A watch is dropped: its clause goes, and nothing else changes.
use Rattle.std.proofs.Common.{◌≡◌, ◌∙◌, ◌⊎◌, inl, inr, ℕ, ◌<◌, ◌≤◌, List, refl, ap, sym, subst, length, arith, ⊎_elim}
use Rattle.std.proofs.lemmas.Grind.{common_steps}
use Rattle.std.proofs.lemmas.Bool.{cases_eq, cases_order}
use Rattle.std.proofs.lemmas.List.{length-set, get_or-set_same, get_or-set_other}
use Rattle.sat_prop.specs.declared.watch_lists.Watch.{Watch}
use Rattle.sat_prop.specs.Watches.{IsLive, no_watch, watch_at, dropped, with_dropped, without_clause}
use Rattle.sat_prop.specs.Watching.{WatchedState, OnlyDrops, unwatched}

drop_here : (watches : List Watch) (n : ℕ) → n < length watches → watch_at (with_dropped watches n) n ≡ dropped (watch_at watches n)
drop_here watches n h = get_or-set_same watches n (dropped (watch_at watches n)) no_watch h

pub drop_apart : (watches : List Watch) (n m : ℕ) → (m ≡ n → ⊥) → watch_at (with_dropped watches n) m ≡ watch_at watches m
drop_apart watches n m d = get_or-set_other watches n m (dropped (watch_at watches n)) no_watch d

pub drop_length : (watches : List Watch) (n : ℕ) → length (with_dropped watches n) ≡ length watches
drop_length watches n = length-set watches n (dropped (watch_at watches n))

pub drop_lit : (watches : List Watch) (n m : ℕ) → n < length watches → (watch_at (with_dropped watches n) m).lit ≡ (watch_at watches m).lit
drop_lit watches n m h = ⊎_elim
    (λ e. subst (λ (k : ℕ). (watch_at (with_dropped watches n) k).lit ≡ (watch_at watches k).lit) (sym e) (ap (λ (x : Watch). x.lit) (drop_here watches n h)))
    (λ d. ap (λ (x : Watch). x.lit) (drop_apart watches n m d))
    (cases_eq m n)

pub drop_twin : (watches : List Watch) (n m : ℕ) → n < length watches → (watch_at (with_dropped watches n) m).twin ≡ (watch_at watches m).twin
drop_twin watches n m h = ⊎_elim
    (λ e. subst (λ (k : ℕ). (watch_at (with_dropped watches n) k).twin ≡ (watch_at watches k).twin) (sym e) (ap (λ (x : Watch). x.twin) (drop_here watches n h)))
    (λ d. ap (λ (x : Watch). x.twin) (drop_apart watches n m d))
    (cases_eq m n)

-- one that wasn't dropped is another one, and wasn't before
pub drop_other : (watches : List Watch) (n m : ℕ) → n < length watches → IsLive (with_dropped watches n) m → m ≡ n → ⊥
drop_other watches n m h live e =
    let z : (watch_at (with_dropped watches n) m).clause ≡ 0 = ap (λ (k : ℕ). (watch_at (with_dropped watches n) k).clause) e ∙ ap (λ (x : Watch). x.clause) (drop_here watches n h) in
    let l : 1 ≤ (watch_at (with_dropped watches n) m).clause = live in
    omega arith

pub drop_live : (watches : List Watch) (n m : ℕ) → n < length watches → IsLive (with_dropped watches n) m → IsLive watches m
drop_live watches n m h live = subst (λ (x : Watch). 1 ≤ x.clause) (drop_apart watches n m (drop_other watches n m h live)) live

-- ---- what stays

drop_each : (watches : List Watch) (n m : ℕ) → (watch_at (with_dropped watches n) m ≡ watch_at watches m) ⊎ (watch_at (with_dropped watches n) m ≡ dropped (watch_at watches m))
drop_each watches n m = by (cases_order n (length watches)) (cases_eq m n)
  where
    stays : length watches ≤ n → watch_at (with_dropped watches n) m ≡ watch_at watches m
    stays h = grind (arith, common_steps)

    by : (n ≡ length watches) ⊎ ((n < length watches) ⊎ (length watches < n)) → (m ≡ n) ⊎ ((m ≡ n) → ⊥) →
        (watch_at (with_dropped watches n) m ≡ watch_at watches m) ⊎ (watch_at (with_dropped watches n) m ≡ dropped (watch_at watches m))
    by (inl e) a = inl (stays (omega arith))
    by (inr (inr h)) a = inl (stays (omega arith))
    by (inr (inl h)) (inl e) = inr (subst (λ (k : ℕ). watch_at (with_dropped watches n) k ≡ dropped (watch_at watches k)) (sym e) (drop_here watches n h))
    by (inr (inl h)) (inr d) = inl (drop_apart watches n m d)

-- what stays or is dropped, and then stays or is dropped
each_more : (a b c : Watch) → (b ≡ a) ⊎ (b ≡ dropped a) → (c ≡ b) ⊎ (c ≡ dropped b) → (c ≡ a) ⊎ (c ≡ dropped a)
each_more a b c (inl h) (inl k) = inl (k ∙ h)
each_more a b c (inr h) (inl k) = inr (k ∙ h)
each_more a b c (inl h) (inr k) = inr (k ∙ ap dropped h)
each_more a b c (inr h) (inr k) = inr (k ∙ ap dropped h)

drops_unwatched : (w : WatchedState) (n : ℕ) → OnlyDrops w (unwatched w n)
drops_unwatched w n = record {
  others = refl;
  each = λ m. each_more (watch_at w.lists.watches m) (watch_at (with_dropped w.lists.watches n) m) _ (drop_each w.lists.watches n m) (drop_each (with_dropped w.lists.watches n) (watch_at w.lists.watches n).twin m);
}

pub drops_none : (w : WatchedState) → OnlyDrops w w
drops_none w = record { others = refl; each = λ m. inl refl }

pub drops_more : (w v new : WatchedState) (n : ℕ) → OnlyDrops w v → (new ≡ v) ⊎ (new ≡ unwatched v n) → OnlyDrops w new
drops_more w v new n h (inl e) = subst (λ (s : WatchedState). OnlyDrops w s) (sym e) h
drops_more w v new n h (inr e) =
    let k = drops_unwatched v n in
    subst (λ (s : WatchedState). OnlyDrops w s) (sym e) (record {
      others = ap (λ (s : WatchedState). record s { lists = record s.lists { watches = without_clause v.lists.watches n } }) h.others;
      each = λ m. each_more (watch_at w.lists.watches m) (watch_at v.lists.watches m) _ (h.each m) (k.each m);
    })
