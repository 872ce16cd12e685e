-- Which words are runs of the worked networks: events by number, in the order of their names.
use Rattle.std.proofs.Common.{◌≡◌, ℕ, zero, suc, true, false, List, [], ◌∷◌, Some, refl, length, ◌<◌, ◌&&◌, lit<, arith, Contains, slice_get}
use Rattle.std.specs.List.{AllByRecursion}
use Rattle.des_net.specs.Network.{IsNetwork, IsPart, IsTransOf, component_at, touches, Net, Component}
use Rattle.des_net.specs.Run.{IsRun, next_states}
use Rattle.des_net.specs.LocalRuns.{can_run}
use Rattle.des_net.specs.Width.{need, AreApart, Fits}
use Rattle.des_net.specs.Models.{pump, nothing, apart, meeting, two_starts, masked, settled, fork, moves, takes}
use Rattle.des_net.proofs.Local.{runs_are_local}
use Rattle.des_net.proofs.WidthLemmas.{need_is_least}
use Rattle.des_base.proofs.BoolLemmas.{same}
use Rattle.std.specs.Prelude.{Bool, ◌==◌, ◌||◌}

-- the test is right, by the law
run : (net : Net) (word : List ℕ) → can_run net word ≡ true → IsRun net word
run net word is = (runs_are_local net word).0 is

no_run : (net : Net) (word : List ℕ) → can_run net word ≡ false → IsRun net word → ⊥
no_run net word not happens = let is : can_run net word ≡ true = (runs_are_local net word).1 happens in cc

-- ---- the pump

pub pump-jam_trip : IsRun pump (0 ∷ 1 ∷ [])
pump-jam_trip = run pump (0 ∷ 1 ∷ []) refl

pub pump-beat_beat_jam_trip_fix_beat : IsRun pump (3 ∷ 3 ∷ 0 ∷ 1 ∷ 2 ∷ 3 ∷ [])
pump-beat_beat_jam_trip_fix_beat = run pump (3 ∷ 3 ∷ 0 ∷ 1 ∷ 2 ∷ 3 ∷ []) refl

pub pump-no_trip : IsRun pump (1 ∷ []) → ⊥
pump-no_trip = no_run pump (1 ∷ []) refl

pub pump-no_jam_beat : IsRun pump (0 ∷ 3 ∷ []) → ⊥
pump-no_jam_beat = no_run pump (0 ∷ 3 ∷ []) refl

-- a fifth event isn't there
pub pump-no_other : IsRun pump (4 ∷ []) → ⊥
pump-no_other = no_run pump (4 ∷ []) refl

-- ---- nothing

pub nothing-none : IsRun nothing []
nothing-none = run nothing [] refl

pub nothing-no_event : IsRun nothing (0 ∷ []) → ⊥
nothing-no_event = no_run nothing (0 ∷ []) refl

-- ---- two components that don't meet

pub apart-ea_eb : IsRun apart (0 ∷ 1 ∷ [])
apart-ea_eb = run apart (0 ∷ 1 ∷ []) refl

pub apart-eb_eb_ea : IsRun apart (1 ∷ 1 ∷ 0 ∷ [])
apart-eb_eb_ea = run apart (1 ∷ 1 ∷ 0 ∷ []) refl

pub apart-no_ec : IsRun apart (2 ∷ []) → ⊥
apart-no_ec = no_run apart (2 ∷ []) refl

pub apart-no_ea_ec : IsRun apart (0 ∷ 2 ∷ []) → ⊥
apart-no_ea_ec = no_run apart (0 ∷ 2 ∷ []) refl

-- ---- two components that meet

pub meeting-ec : IsRun meeting (2 ∷ [])
meeting-ec = run meeting (2 ∷ []) refl

pub meeting-ea_ec_eb : IsRun meeting (0 ∷ 2 ∷ 1 ∷ [])
meeting-ea_ec_eb = run meeting (0 ∷ 2 ∷ 1 ∷ []) refl

pub meeting-no_ed : IsRun meeting (3 ∷ []) → ⊥
meeting-no_ed = no_run meeting (3 ∷ []) refl

pub meeting-no_ec_ed : IsRun meeting (2 ∷ 3 ∷ []) → ⊥
meeting-no_ec_ed = no_run meeting (2 ∷ 3 ∷ []) refl

-- ec moves both, and ea the first alone
pub meeting-ec_touches : (touches meeting 2 0 && touches meeting 2 1 && touches meeting 0 0) ≡ true
meeting-ec_touches = refl

pub meeting-ea_touches : touches meeting 0 1 ≡ false
meeting-ea_touches = refl

pub meeting-IsNetwork : IsNetwork meeting
meeting-IsNetwork = record {
  components = (record { marked = refl; startable = refl; closed = loops }, (record { marked = refl; startable = refl; closed = loops }, tt));
  events = (
    record { moving = lit< tt; known = (has 0 0 (lit< tt) (lit< tt), tt); once = (tt, tt) },
    (
      record { moving = lit< tt; known = (has 1 0 (lit< tt) (lit< tt), tt); once = (tt, tt) },
      (record { moving = lit< tt; known = (has 0 1 (lit< tt) (lit< tt), (has 1 1 (lit< tt) (lit< tt), tt)); once = ((λ e. cc, tt), (tt, tt)) }, tt),
    ),
  );
}
  where
    loops : AllByRecursion (IsTransOf 1 2) (moves 0 0 0 ∷ moves 0 1 0 ∷ [])
    loops = (record { from = lit< tt; action = lit< tt; to = lit< tt }, (record { from = lit< tt; action = lit< tt; to = lit< tt }, tt))

    has : (c a : ℕ) → c < 2 → a < length (component_at meeting c).action_names → IsPart meeting.components (takes c a)
    has c a there known = record { component = there; action = known }

-- ---- two initial states

pub two_starts-e : IsRun two_starts (0 ∷ [])
two_starts-e = run two_starts (0 ∷ []) refl

pub two_starts-e_e : IsRun two_starts (0 ∷ 0 ∷ [])
two_starts-e_e = run two_starts (0 ∷ 0 ∷ []) refl

pub two_starts-no_f : IsRun two_starts (1 ∷ []) → ⊥
two_starts-no_f = no_run two_starts (1 ∷ []) refl

pub two_starts-no_e_f : IsRun two_starts (0 ∷ 1 ∷ []) → ⊥
two_starts-no_e_f = no_run two_starts (0 ∷ 1 ∷ []) refl

-- ---- a fault that leads where an alarm does

pub masked-ey_ex : IsRun masked (0 ∷ 1 ∷ [])
masked-ey_ex = run masked (0 ∷ 1 ∷ []) refl

pub masked-ef_ex : IsRun masked (2 ∷ 1 ∷ [])
masked-ef_ex = run masked (2 ∷ 1 ∷ []) refl

pub masked-no_ex : IsRun masked (1 ∷ []) → ⊥
masked-no_ex = no_run masked (1 ∷ []) refl

pub masked-no_ey_ef : IsRun masked (0 ∷ 2 ∷ []) → ⊥
masked-no_ey_ef = no_run masked (0 ∷ 2 ∷ []) refl

-- ---- the initial state settles what can happen

pub settled-ea_ea : IsRun settled (0 ∷ 0 ∷ [])
settled-ea_ea = run settled (0 ∷ 0 ∷ []) refl

pub settled-eb : IsRun settled (1 ∷ [])
settled-eb = run settled (1 ∷ []) refl

pub settled-no_ea_eb : IsRun settled (0 ∷ 1 ∷ []) → ⊥
settled-no_ea_eb = no_run settled (0 ∷ 1 ∷ []) refl

pub settled-no_eb_ea : IsRun settled (1 ∷ 0 ∷ []) → ⊥
settled-no_eb_ea = no_run settled (1 ∷ 0 ∷ []) refl

-- ---- a fork

pub fork-g_ea : IsRun fork (0 ∷ 1 ∷ [])
fork-g_ea = run fork (0 ∷ 1 ∷ []) refl

pub fork-g_eb : IsRun fork (0 ∷ 2 ∷ [])
fork-g_eb = run fork (0 ∷ 2 ∷ []) refl

pub fork-no_g_ea_eb : IsRun fork (0 ∷ 1 ∷ 2 ∷ []) → ⊥
fork-no_g_ea_eb = no_run fork (0 ∷ 1 ∷ 2 ∷ []) refl

pub fork-no_g_g : IsRun fork (0 ∷ 0 ∷ []) → ⊥
fork-no_g_g = no_run fork (0 ∷ 0 ∷ []) refl

-- ---- by the definition itself

-- the pump is at first ok, after the jam bad, and after the trip off
pub pump-jam_trip_by_states : IsRun pump (0 ∷ 1 ∷ [])
pump-jam_trip_by_states = (
  0 ∷ [],
  2 ∷ [],
  (refl, tt),
  (
    1 ∷ [],
    record { known = lit< tt; moves = ((0, lit< tt, refl), tt) },
    (2 ∷ [], record { known = lit< tt; moves = ((0, lit< tt, refl), tt) }, refl),
  ),
)

abbrev pump_itself : Component
pump_itself = record {
  state_names = [];
  initial = true ∷ false ∷ false ∷ [];
  transitions = moves 0 0 1 ∷ moves 1 1 2 ∷ moves 2 2 0 ∷ moves 0 3 0 ∷ [];
  action_names = [];
}

-- no initial state has a trip
no_trip : (q r : ℕ) → slice_get pump_itself.initial q ≡ Some true → Contains (next_states pump_itself (Some 1) q) r → ⊥
no_trip zero r start (k, below, is) = absurd (omega arith)
no_trip (suc zero) r start moved = cc
no_trip (suc (suc zero)) r start moved = cc
no_trip (suc (suc (suc q))) r start moved = cc

pub pump-no_trip_by_states : IsRun pump (1 ∷ []) → ⊥
pump-no_trip_by_states ([], after, start, rest) = absurd start
pump-no_trip_by_states (q ∷ p ∷ before, after, start, rest) = absurd start.1
pump-no_trip_by_states (q ∷ [], after, start, ([], step, end)) = absurd step.moves
pump-no_trip_by_states (q ∷ [], after, start, (r ∷ mid, step, end)) = no_trip q r start.0 step.moves.0

-- ---- how many pieces a word takes

-- one component does one thing at a time
pub pump-needs : need pump (0 ∷ 1 ∷ 2 ∷ []) ≡ 3
pump-needs = refl

pub nothing-needs : need nothing [] ≡ 0
nothing-needs = refl

pub apart-needs : need apart (1 ∷ 0 ∷ []) ≡ 1
apart-needs = refl

pub apart-needs_two : need apart (1 ∷ 0 ∷ 0 ∷ []) ≡ 2
apart-needs_two = refl

-- an event of both components is a piece by itself
pub meeting-needs : need meeting (2 ∷ 1 ∷ 0 ∷ []) ≡ 2
meeting-needs = refl

pub meeting-needs_three : need meeting (0 ∷ 2 ∷ 1 ∷ []) ≡ 3
meeting-needs_three = refl

-- by the definition itself
pub apart-fits : Fits apart (1 ∷ 0 ∷ []) 1
apart-fits = ((1 ∷ 0 ∷ []) ∷ [], refl, record { whole = refl; apart = (((clear, tt), (tt, tt)), tt) })
  where
    clear : AreApart apart 1 0
    clear c here there =
        let one : (1 == c) ≡ true = by (1 == c) here in
        let none : (0 == c) ≡ true = by (0 == c) there in
        absurd (omega (arith, same 1 c one, same 0 c none))
      where
        by : (b : Bool) → (b || false) ≡ true → b ≡ true
        by true h = refl
        by false h = h

pub meeting-fits_no_two : Fits meeting (0 ∷ 2 ∷ 1 ∷ []) 2 → ⊥
meeting-fits_no_two fits = let least = (need_is_least meeting (0 ∷ 2 ∷ 1 ∷ []) 2).0 fits in absurd (omega arith)
