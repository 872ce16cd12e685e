-- The texts of verdicts on fault events. Each line ends with a line feed.
use Rattle.std.specs.Prelude.{⊤, ℕ, ◌<◌, ◌≤◌, All, List, [], ◌++◌, length, codes, slice_index_or}
use Rattle.des_net.specs.Building.{IsDraft}
use Rattle.des_net.specs.Network.{Net}
use Rattle.answers.specs.declared.verdict.Verdict.{Verdict}
use Rattle.answers.specs.declared.verdict.Verdict.TheVariants.{Certain, Excluded, Possible, Open}
use Rattle.replay.specs.Traced.{word_of}
use Rattle.replay.specs.declared.run.RunStep.{RunStep}
use Rattle.report.specs.ReadBack.{IsPrintable}
use Rattle.report.specs.Replies.{named, text_of_run}

-- a word, the name of the event, and the end of the line
abbrev pub named_event_line : Net → List ℕ → ℕ → List ℕ
named_event_line net word event = named word (slice_index_or net.event_names event [])

-- the verdict and the event; where it is possible, the run that shows it
abbrev pub text_of_verdict : Net → ℕ → Verdict → List ℕ
text_of_verdict net event Certain = named_event_line net (codes "CERTAIN ") event
text_of_verdict net event Excluded = named_event_line net (codes "EXCLUDED ") event
text_of_verdict net event (Possible run) = named_event_line net (codes "POSSIBLE ") event ++ text_of_run net run
text_of_verdict net event Open = named_event_line net (codes "OPEN ") event

-- the events of the run that a verdict shows, if it shows one, are the network's
abbrev pub RunKnown : Net → Verdict → Type 0
RunKnown net Certain = ⊤
RunKnown net Excluded = ⊤
RunKnown net (Possible run) = All (λ e. e < length net.events) (word_of run)
RunKnown net Open = ⊤

-- The text of a printable run is no longer than a run text may be.
abbrev pub RunsFit : Type 0
RunsFit = (net : Net) (steps : List RunStep) → IsDraft net → IsPrintable net steps → length (text_of_run net steps) ≤ 536870912
