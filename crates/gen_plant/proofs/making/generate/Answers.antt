use Rattle.gen_plant.proofs.AsRead.{made_as_read}
use Rattle.gen_plant.proofs.making.generate.Goals as goal

pub returns-clause-as_read : goal.returns-clause-as_read
returns-clause-as_read c = made_as_read c.args.units c.in_ok-net.net c.requires c.in_ok-net.ensures
