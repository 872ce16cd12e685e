-- The events of a run are the network's.
use Rattle.std.proofs.Common.{ℕ, ◌<◌, List, [], ◌∷◌, length, All}
use Rattle.std.proofs.lemmas.List.Elements.{All-nil, All-cons}
use Rattle.des_net.specs.Network.{Net}
use Rattle.des_net.specs.Run.{Leads, IsRun}

known_from : (net : Net) (word before after : List ℕ) → Leads net before word after → All (λ e. e < length net.events) word
known_from net [] before after leads = All-nil (λ e. e < length net.events)
known_from net (e ∷ word) before after (mid, step, leads) = All-cons (λ f. f < length net.events) e word step.known (known_from net word mid after leads)

pub run_known : (net : Net) (word : List ℕ) → IsRun net word → All (λ e. e < length net.events) word
run_known net word (before, after, start, leads) = known_from net word before after leads
