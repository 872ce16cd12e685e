-- How `verdicts` ends, by how telling ends.
use Rattle.std.proofs.Common.{◌≡◌, inl, inr, ℕ, List, [], Result, Ok, Err, refl, ap}
use Rattle.des_base.specs.Outside.{Output}
use Rattle.des_net.specs.Network.{Net}
use Rattle.log_order.specs.Log.{Log, Log as AlarmLog}
use Rattle.proof_ledger.specs.Book.{BookEntry}
use Rattle.telling.specs.declared.each.Broken.{Broken}
use Rattle.telling.specs.declared.each.Broken.TheVariants.{Memory, Put}
use Rattle.verdict_telling.specs.Whole.{TellsWhole}
use Rattle.verdict_telling.specs.declared.whole.Told.{Told}
use Rattle.endings.specs.Puts.{Speaks}
use Rattle.endings.specs.Transcripts.{Ending}
use Rattle.diagnose_cli.specs.VerdictReplies.{kind_of_told, IsVerdicts}
use Rattle.endings.proofs.Speaking.{speaks_broken, speaks_cut, speaks_said}
use Rattle.std.specs.Prelude.{IsOkAnd}
use Rattle.diagnose_cli.specs.Outcomes.{status_of_telling}

-- the status, by how telling ends
abbrev pub status_of_told : Result Told Broken → ℕ
status_of_told r = status_of_telling kind_of_told r

-- so it is of an ending
abbrev pub MayTell : Net → AlarmLog → ℕ → ℕ → List BookEntry → Ending → Type 0
MayTell net alarms n budget book e = IsOkAnd e (IsVerdicts net alarms n budget book)

module _ (net : Net) (alarms : Log) (n budget : ℕ) (book : List BookEntry) (before now : Output) (rose : Type 0) where
  abbrev may : Ending → Type 0
  may = MayTell net alarms n budget book

  abbrev lost : Type 0
  lost = book ≡ []

  pub told_speaks : (r : Result Told Broken) → TellsWhole net alarms n budget book before now rose r → Speaks may lost before now rose (status_of_told r)
  told_speaks (Ok told) tells = speaks_said may lost before now rose tells.texts (kind_of_told told) (record { found = tells.found; verdicts = tells.verdicts; have = tells.have; kind_is = ap kind_of_told tells.told_is }) tells.put
  told_speaks (Err Memory) (inl none) = speaks_broken may lost before now rose [] (inl (record { none = refl; question = none.question })) none.put
  told_speaks (Err Memory) (inr tells) =
      speaks_broken may lost before now rose tells.texts (inr (record { found = tells.found; events = tells.events; verdicts = tells.verdicts; mid = tells.mid; have = tells.have; grown = tells.grown; next = tells.next })) tells.put
  told_speaks (Err Put) tells = speaks_cut may lost before now rose tells.1.texts (record { found = tells.1.found; events = tells.1.events; verdicts = tells.1.verdicts; have = tells.1.have }) tells.0 tells.1.put
