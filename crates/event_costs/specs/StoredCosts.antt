-- What events cost, as a stored closure answers it.
use Rattle.std.specs.Prelude.{◌≡◌, ℕ, ◌<◌, true, length}
use Rattle.des_net.specs.Network.{Net, is_fault}
use Rattle.event_costs.specs.Prices.{IsPrice}

-- a closure, of whatever type C, and the network that it was made for
pub record StoredCosts (C : Type 0) : Type 0 where
  pub net : Net
  pub cost : C

-- It may be called on every event number of the network. On a fault event it answers a cost, and one cost for each.
pub record IsCost {C : Type 0} (may : C → ℕ → Type 0) (gives : C → ℕ → ℕ → Type 0) (cost : C) (net : Net) : Type 0 where
  pub callable : (e : ℕ) → e < length net.events → may cost e
  pub priced : (e answer : ℕ) → e < length net.events → is_fault net e ≡ true → gives cost e answer → IsPrice answer
  pub single : (e one other : ℕ) → e < length net.events → gives cost e one → gives cost e other → one ≡ other

-- this is what the closure answers on the fault events
abbrev pub GivesCosts : {C : Type 0} → (C → ℕ → ℕ → Type 0) → C → Net → (ℕ → ℕ) → Type 0
GivesCosts gives stored net cost = (e : ℕ) → e < length net.events → is_fault net e ≡ true → gives stored e (cost e)
