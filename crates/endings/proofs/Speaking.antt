-- A command that says several texts, by the way that it ends.
use Rattle.std.proofs.Common.{◌≢◌, ℕ, List, Ok, refl, arith}
use Rattle.des_base.specs.Outside.{Output, Took}
use Rattle.telling.specs.Telling.{TookCut}
use Rattle.endings.specs.declared.ending.Kind.{Kind}
use Rattle.endings.specs.declared.ending.Kind.TheVariants.{Done, Rejected, Absent, Undecided, Many, Nothing, Ambiguous}
use Rattle.endings.specs.Endings.{status_of_kind}
use Rattle.endings.specs.Puts.{Finishes, IsCutOff, Speaks}
use Rattle.endings.specs.Transcripts.{End, Ending, OrMemory, said, cut, broken}

-- no kind has the status of a put that fails
not_four : (kind : Kind) → status_of_kind kind ≢ 4
not_four Done four = cc
not_four Rejected four = cc
not_four Absent four = cc
not_four Undecided four = cc
not_four Many four = cc
not_four Nothing four = cc
not_four Ambiguous four = cc

module _ (due : Ending → Type 0) (lost : Type 0) (before now : Output) (rose : Type 0) where
  -- its texts were put
  pub put_speaks : (status : ℕ) → status ≢ 4 → Finishes (OrMemory due lost) before now status → Speaks due lost before now rose status
  put_speaks status other h = record { ends = λ four. h; put_failed = λ four. absurd (other four); cut_off = λ four. absurd (other four) }

  -- or of the last one a front
  pub cut_speaks : rose → IsCutOff due before now → Speaks due lost before now rose 4
  cut_speaks failed h = record { ends = λ four. absurd (four refl); put_failed = λ four. failed; cut_off = λ four. h }

  module _ (texts : List (List ℕ)) where
    may : (end : End) → due (Ok (record { texts = texts; end = end })) → OrMemory due lost (Ok (record { texts = texts; end = end }))
    may end says = record { says = λ never. says; wanting = λ is. cc }

    -- all of them, of which the last is of this kind
    pub speaks_said : (kind : Kind) → due (Ok (record { texts = texts; end = said kind })) → Took before now texts → Speaks due lost before now rose (status_of_kind kind)
    speaks_said kind says put = put_speaks (status_of_kind kind) (not_four kind) (record { ending = Ok (record { texts = texts; end = said kind }); due = may (said kind) says; shown = refl; put = put })

    -- those before it ran out of memory
    pub speaks_broken : due (Ok (record { texts = texts; end = broken })) → Took before now texts → Speaks due lost before now rose 9
    speaks_broken says put = put_speaks 9 (λ four. omega (arith, four)) (record { ending = Ok (record { texts = texts; end = broken }); due = may broken says; shown = refl; put = put })

    -- those before one that couldn't be put whole, and of this a front
    pub speaks_cut : due (Ok (record { texts = texts; end = cut })) → rose → TookCut texts before now → Speaks due lost before now rose 4
    speaks_cut says failed put = cut_speaks failed (record { ending = Ok (record { texts = texts; end = cut }); due = says; told_cut = refl; stops = tt; put = put })
