-- The one text of an ending whose put fails.
use Rattle.std.proofs.Common.{◌≡◌, ◌≢◌, ℕ, List, [], ◌∷◌, Err, refl, sym, subst, arith}
use Rattle.des_base.specs.Outside.{Output, TookFront}
use Rattle.telling.proofs.Taking.{cut_first}
use Rattle.telling.specs.Telling.{TookCut}
use Rattle.endings.specs.declared.stop.Stop.TheVariants.{Memory}
use Rattle.endings.specs.Endings.{ending_texts}
use Rattle.endings.specs.Puts.{Puts}
use Rattle.endings.specs.Transcripts.{Ending}

pub cut_alone : (e : Ending) (before now : Output) (rose : Type 0) (text : List ℕ) → e ≢ Err Memory → ending_texts e ≡ text ∷ [] → TookFront before now text → rose → Puts e before now rose 4
cut_alone e before now rose text known one front failed = record {
  shown = λ four nine. absurd (four refl);
  whole = λ four nine. absurd (four refl);
  nothing = λ nine. absurd (omega (arith, nine));
  memory = λ four. known;
  front = λ four. subst (λ (ts : List (List ℕ)). TookCut ts before now) (sym one) (cut_first before now text front);
  put_failed = λ four. failed;
}
