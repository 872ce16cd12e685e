-- What putting the texts of an ending does.
use Rattle.std.specs.Prelude.{◌≡◌, ◌≢◌, ℕ, [], Err, IfErr, IfOk}
use Rattle.des_base.specs.Outside.{Output, Took}
use Rattle.telling.specs.Telling.{TookCut}
use Rattle.endings.specs.declared.stop.Stop.TheVariants.{Memory}
use Rattle.endings.specs.Transcripts.{Ending, OrMemory, cut}
use Rattle.endings.specs.Endings.{HasStatus, ending_texts}

-- The texts of one ending, by the status that is answered: each has a put of its own. Out of memory nothing is put, so that no put can fail. Here rose says that the sink's count of faults rose.
pub record Puts (e : Ending) (before now : Output) (rose : Type 0) (status : ℕ) : Type 0 where
  pub shown : status ≢ 4 → status ≢ 9 → HasStatus e status
  pub whole : status ≢ 4 → status ≢ 9 → Took before now (ending_texts e)
  pub nothing : status ≡ 9 → Took before now []
  pub memory : status ≡ 4 → e ≢ Err Memory
  pub front : status ≡ 4 → TookCut (ending_texts e) before now
  pub put_failed : status ≡ 4 → rose

-- ---- of an ending that may come

-- its texts were put, and its status is answered
pub record Finishes (may : Ending → Type 0) (before now : Output) (status : ℕ) : Type 0 where
  pub ending : Ending
  pub due : may ending
  pub shown : HasStatus ending status
  pub put : Took before now (ending_texts ending)

-- Its texts were put, but of the last one a front alone. What a command says ends so, and a stop may, unless memory ran out, for which nothing is put.
pub record IsCutOff (may : Ending → Type 0) (before now : Output) : Type 0 where
  pub ending : Ending
  pub due : may ending
  pub told_cut : IfOk ending (λ told. told.end ≡ cut)
  pub stops : IfErr ending (λ stop. stop ≢ Memory)
  pub put : TookCut (ending_texts ending) before now

-- An ending that is due was put: whole, or where the status is 4 with a front of its last text. Or it ran out of memory before anything was put, where lost is so. Here rose says that the sink's count of faults rose.
pub record Speaks (due : Ending → Type 0) (lost : Type 0) (before now : Output) (rose : Type 0) (status : ℕ) : Type 0 where
  pub ends : status ≢ 4 → Finishes (OrMemory due lost) before now status
  pub put_failed : status ≡ 4 → rose
  pub cut_off : status ≡ 4 → IsCutOff due before now
