-- A cause that came after an earlier moment came after that moment too.
use Rattle.std.proofs.Common.{◌≡◌, ℕ, ◌≤◌, List, Option, IfSome, ◌<◌, length, arith, subst, ap}
use Rattle.endings.specs.declared.stop.Stop.{Stop}
use Rattle.endings.specs.declared.stop.Stop.TheVariants.{Usage, Load, Faulty, Long, NoFault, Large, Memory}
use Rattle.endings.specs.Files.{StopsAt}

pub stops_earlier : (held now : List ℕ → Option (List ℕ)) (start before after : List ℕ → ℕ) (i : ℕ) (name : List ℕ) (limit : ℕ) (s : Stop) → now ≡ held → ((n : List ℕ) → start n ≤ before n)
    → StopsAt (record { held = now; before = before; after = after }) i name limit s → StopsAt (record { held = held; before = start; after = after }) i name limit s
stops_earlier held now start before after i name limit (Load j) e later h =
    let l = later name in
    (h.0, omega arith)
stops_earlier held now start before after i name limit (Long j) e later h = (h.0, subst (λ o. IfSome o (λ held. limit < length held)) (ap (λ (f : List ℕ → Option (List ℕ)). f name) e) h.1)
stops_earlier held now start before after i name limit Memory e later h = tt
stops_earlier held now start before after i name limit Usage e later h = absurd h
stops_earlier held now start before after i name limit (Faulty text) e later h = absurd h
stops_earlier held now start before after i name limit NoFault e later h = absurd h
stops_earlier held now start before after i name limit (Large size) e later h = absurd h
