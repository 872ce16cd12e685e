use Rattle.std.proofs.Common.{refl}
use Rattle.log_encode.proofs.LogEndLemmas.{kept_end}
use Rattle.log_encode.proofs.log_code.LogCode.end.Goals as goal

pub returns : goal.returns
returns c = kept_end c.self.inside c.args.self.now _ c.self.view_is c.self.invariant c.requires refl refl c.as_slice.ensures.value c.as_slice-2.ensures.value
