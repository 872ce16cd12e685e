use Rattle.refined_answers.proofs.FollowLemmas.{sharp_followers_tell}
use Rattle.refined_answers.proofs.laws.sharp_followers_tell.Goals as goal

pub returns : goal.returns
returns c = sharp_followers_tell
