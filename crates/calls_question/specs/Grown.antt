-- What is known of a code after additions: its network, its steps, the variable that comes next, and how many alarms it has.
use Rattle.std.specs.Prelude.{◌≡◌, ℕ, length}
use Rattle.des_net.specs.Network.{Net}
use Rattle.log_encode.specs.CodedLog.{CodedLog}

-- what each addition of a test keeps known of the code: its network and steps, `vars` as the variable that comes next, and how many alarms it has
pub record IsGrown (net : Net) (steps vars alarms : ℕ) (code : CodedLog) : Type 0 where
  pub of_net : code.net ≡ net
  pub within : code.grid.steps ≡ steps
  pub below : code.vars ≡ vars
  pub has : length code.log.alarms ≡ alarms
