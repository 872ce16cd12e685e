use Rattle.run_decode.proofs.WholeRoom.{room_is_free}
use Rattle.run_decode.proofs.laws.room_is_free.Goals as goal

pub returns : goal.returns
returns c = room_is_free
