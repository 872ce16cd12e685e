use Rattle.refined_answers.proofs.TextLemmas.{behaviour_gives_prices}
use Rattle.refined_answers.proofs.laws.behaviour_gives_prices.Goals as goal

pub returns : goal.returns
returns c = behaviour_gives_prices
