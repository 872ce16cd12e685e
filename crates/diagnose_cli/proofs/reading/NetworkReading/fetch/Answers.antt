-- The model alone.
use Rattle.std.proofs.Common.{[], ◌∷◌, refl}
use Rattle.std.proofs.lemmas.Result.{IfOk-weaker as ok_weaker}
use Rattle.diagnose_cli.proofs.reading.NetworkReading.fetch.Goals as goal

pub returns-clause-read : goal.returns-clause-read
returns-clause-read g c =
    ok_weaker c.fetch_model.result _ _ (λ net read. record { texts = read.0 ∷ []; bytes = (read.1, tt); are = record { text = read.0; texts_are = refl; is = read.2; well = read.1.well } }) c.fetch_model.ensures.net
