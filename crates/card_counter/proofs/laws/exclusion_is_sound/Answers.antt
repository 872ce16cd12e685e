use Rattle.card_counter.proofs.Exclusions.{exclusion_is_sound}
use Rattle.card_counter.proofs.laws.exclusion_is_sound.Goals as goal

pub returns : goal.returns
returns c = exclusion_is_sound
