-- A command with one reply that puts its one text.
use Rattle.std.proofs.Common.{◌≡◌, ◌≢◌, ◌⊎◌, ◌<◌, arith, inl, inr, ℕ, IfOk, List, [], Result, Ok, Err, refl, ap}
use Rattle.std.proofs.lemmas.Bool.{cases_order}
use Rattle.des_base.specs.Outside.{Output, Took}
use Rattle.telling.specs.Telling.{TookCut}
use Rattle.endings.specs.declared.ending.Kind.{Kind}
use Rattle.endings.specs.declared.stop.Stop.{Stop}
use Rattle.endings.specs.declared.stop.Stop.TheVariants.{Memory}
use Rattle.endings.specs.Transcripts.{Ending, OrMemory, UnlessMemory, cut_short, once}
use Rattle.endings.specs.Endings.{ending_texts}
use Rattle.endings.specs.Puts.{Finishes, IsCutOff, Puts, Speaks}

due_once : (may : Ending → Type 0) (Q : Type 0) → Q → (r : Result (Kind × List ℕ) Stop) → UnlessMemory r (may (once r)) → OrMemory may Q (once r)
due_once may Q q (Ok reply) d = record { says = λ m. d (λ e. cc); wanting = λ e. q }
due_once may Q q (Err stop) d = record { says = λ m. d (λ e. m (ap_err stop e)); wanting = λ e. q }
  where
    ap_err : (s : Stop) → ◌≡◌ {A = Result (Kind × List ℕ) Stop} (Err s) (Err Memory) → ◌≡◌ {A = Ending} (Err s) (Err Memory)
    ap_err s e = cc

-- nothing was put, since memory ran out
pub wants_memory : (may : Ending → Type 0) (Q : Type 0) → Q → (before now : Output) (status : ℕ) → status ≡ 9 → Took before now [] → Finishes (OrMemory may Q) before now status
wants_memory may Q q before now status nine put = record { ending = Err Memory; due = record { says = λ m. absurd (m refl); wanting = λ e. q }; shown = nine; put = put }

module _ (may : Ending → Type 0) (Q : Type 0) (q : Q) (r : Result (Kind × List ℕ) Stop) (before now : Output) (rose : Type 0) (status : ℕ) (due : UnlessMemory r (may (once r))) (puts : Puts (once r) before now rose status) where
  put_whole : status ≢ 4 → status ≢ 9 → Finishes (OrMemory may Q) before now status
  put_whole four nine = record { ending = once r; due = due_once may Q q r due; shown = puts.shown four nine; put = puts.whole four nine }

  ends_once : (status ≡ 9) ⊎ ((status < 9) ⊎ (9 < status)) → status ≢ 4 → Finishes (OrMemory may Q) before now status
  ends_once (inl nine) four = wants_memory may Q q before now status nine (puts.nothing nine)
  ends_once (inr (inl lower)) four = put_whole four (λ nine. omega (arith, nine, lower))
  ends_once (inr (inr higher)) four = put_whole four (λ nine. omega (arith, nine, higher))

  -- where what is cut short may come too
  pub speaks_once : IfOk r (λ reply. may (Ok (cut_short reply))) → Speaks may Q before now rose status
  speaks_once cuts = record {
    ends = ends_once (cases_order status 9);
    put_failed = puts.put_failed;
    cut_off = λ four. cut_by r due cuts (puts.memory four) (puts.front four);
  }
    where
      cut_by : (x : Result (Kind × List ℕ) Stop) → UnlessMemory x (may (once x)) → IfOk x (λ reply. may (Ok (cut_short reply))) → once x ≢ Err Memory → TookCut (ending_texts (once x)) before now → IsCutOff may before now
      cut_by (Ok reply) of cuts known front = record { ending = Ok (cut_short reply); due = cuts; told_cut = refl; stops = tt; put = front }
      cut_by (Err stop) of cuts known front = record {
        ending = Err stop;
        due = of (λ e. known (same stop e));
        told_cut = tt;
        stops = λ e. known (ap (λ (s : Stop). Err s) e);
        put = front;
      }
        where
          same : (s : Stop) → ◌≡◌ {A = Result (Kind × List ℕ) Stop} (Err s) (Err Memory) → ◌≡◌ {A = Ending} (Err s) (Err Memory)
          same s e = cc
