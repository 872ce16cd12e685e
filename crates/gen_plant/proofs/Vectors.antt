-- Worked plants.
use Rattle.std.proofs.Common.{◌≡◌, ℕ, true, false, List, [], ◌∷◌, refl}
use Rattle.std.specs.Prelude.{codes, map}
use Rattle.std.specs.Fmt.{digits}
use Rattle.des_net.specs.Models.{moves, takes, seen, unseen_fault}
use Rattle.log_order.specs.Log.{Alarm, a_log, an_alarm}
use Rattle.gen_plant.specs.Plant.{sequence_number, tripping, units, plant_net, plant_log}

-- the first numbers of start 7
pub numbers_of_seven : map (sequence_number 7) (units 40)
    ≡ 38 ∷ 96 ∷ 95 ∷ 90 ∷ 65 ∷ 37 ∷ 91 ∷ 70 ∷ 62 ∷ 22 ∷ 16 ∷ 83 ∷ 30 ∷ 56 ∷ 89 ∷ 60 ∷ 12 ∷ 63 ∷ 27 ∷ 41 ∷ 14 ∷ 73 ∷ 77 ∷ 0 ∷ 3 ∷ 18 ∷ 93 ∷ 80 ∷ 15 ∷ 78 ∷ 5 ∷ 28 ∷ 46 ∷ 39 ∷ 4 ∷ 23 ∷ 21 ∷ 11 ∷ 58 ∷ 2 ∷ []
numbers_of_seven = refl

-- which of them 4 divides
pub nine_of_forty_trip : tripping 40 7 ≡ 2 ∷ 11 ∷ 14 ∷ 16 ∷ 17 ∷ 24 ∷ 28 ∷ 32 ∷ 35 ∷ []
nine_of_forty_trip = refl

-- a start counts by its rest
pub starts_alike : tripping 40 104 ≡ tripping 40 7
starts_alike = refl

pub one_unit : plant_net 1 ≡ record {
  component_names = codes "bus" ∷ codes "u1" ∷ [];
  components = record { state_names = codes "up" ∷ []; initial = true ∷ []; transitions = moves 0 0 0 ∷ []; action_names = codes "note" ∷ [] }
      ∷ record {
        state_names = codes "ok" ∷ codes "bad" ∷ codes "off" ∷ [];
        initial = true ∷ false ∷ false ∷ [];
        transitions = moves 0 0 1 ∷ moves 1 1 2 ∷ moves 2 2 0 ∷ [];
        action_names = codes "jam" ∷ codes "trip" ∷ codes "fix" ∷ [];
      } ∷ [];
  event_names = codes "jam-1" ∷ codes "trip-1" ∷ codes "fix-1" ∷ [];
  events = unseen_fault (takes 1 0 ∷ []) ∷ seen (codes "T-1") (takes 1 1 ∷ takes 0 0 ∷ []) ∷ seen (codes "F-1") (takes 1 2 ∷ []) ∷ [];
}
unfolding digits
one_unit = refl

abbrev alarm : List ℕ → List ℕ → Alarm
alarm name label = an_alarm name (label ∷ []) false

-- the log of twelve units: two trip
pub two_of_twelve : plant_log 12 7 ≡ (a_log (alarm (codes "a2") (codes "T-2") ∷ alarm (codes "a11") (codes "T-11") ∷ []) ((0, 1) ∷ []))
unfolding digits
two_of_twelve = refl

pub none_of_one : plant_log 1 7 ≡ (a_log [] [])
none_of_one = refl

-- each is before the next, and no further pair is
pub pairs_of_nine : (plant_log 40 7).pairs ≡ (0, 1) ∷ (1, 2) ∷ (2, 3) ∷ (3, 4) ∷ (4, 5) ∷ (5, 6) ∷ (6, 7) ∷ (7, 8) ∷ []
pairs_of_nine = refl
