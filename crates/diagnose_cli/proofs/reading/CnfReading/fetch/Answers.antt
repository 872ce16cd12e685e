-- The formula alone.
use Rattle.std.proofs.Common.{[], ◌∷◌, refl}
use Rattle.std.proofs.lemmas.Result.{IfOk-weaker as ok_weaker}
use Rattle.diagnose_cli.proofs.reading.CnfReading.fetch.Goals as goal

pub returns-clause-read : goal.returns-clause-read
returns-clause-read g c =
    ok_weaker c.fetch_cnf.result _ _ (λ f read. record { texts = read.0 ∷ []; bytes = (read.1, tt); are = record { text = read.0; texts_are = refl; is = read.2 } }) c.fetch_cnf.ensures.formula
