-- Which statuses say why there is no reply.
use Rattle.std.proofs.Common.{◌≡◌, ◌≢◌, ◌≤◌, ◌⊎◌, inl, inr, ℕ, Err, subst, arith}
use Rattle.endings.specs.declared.ending.Kind.{Kind}
use Rattle.endings.specs.declared.ending.Kind.TheVariants.{Done}
use Rattle.endings.specs.declared.stop.Stop.{Stop}
use Rattle.endings.specs.declared.stop.Stop.TheVariants.{Faulty, Load, Memory, NoFault}
use Rattle.endings.specs.declared.stop.FaultyText.{FaultyText}
use Rattle.endings.specs.declared.stop.FaultyText.TheVariants.{Model, Cost}
use Rattle.endings.specs.Endings.{HasStatus, status_of_faulty, status_of_kind, status_of_stop}
use Rattle.endings.specs.Transcripts.{Ending}
use Rattle.diagnose_cli.specs.Run.{SaysStop}

-- none between those of the words and files and those of costs and fault events
pub between : (status : ℕ) → SaysStop status → 9 ≤ status → status ≤ 14 → ⊥
between status stop low high = elim stop.among [ inl a ↦ omega (arith, a, low) | inr b ↦ omega (arith, b.0, high) ]

-- an ending that is neither out of memory nor a load that failed
pub record HasAnswer (e : Ending) : Type 0 where
  pub memory : e ≢ Err Memory
  pub load : (j : ℕ) → e ≢ Err (Load j)

pub has_answer : (e : Ending) (status : ℕ) → HasStatus e status → status ≢ 3 → status ≢ 9 → HasAnswer e
has_answer e status shown three nine = record { memory = λ p. nine (subst (λ (x : Ending). HasStatus x status) p shown); load = λ j p. three (subst (λ (x : Ending). HasStatus x status) p shown) }

-- ---- with that of memory

pub record IsStopStatus (status : ℕ) : Type 0 where
  pub low : 2 ≤ status
  pub among : (status ≤ 9) ⊎ ((15 ≤ status) × (status ≤ 16))

pub low_stop : (status : ℕ) → 2 ≤ status → status ≤ 9 → IsStopStatus status
low_stop status low high = record { low = low; among = inl high }

high_stop : (status : ℕ) → 15 ≤ status → status ≤ 16 → IsStopStatus status
high_stop status low high = record { low = omega (arith, low); among = inr (low, high) }

of_faulty : (text : FaultyText) → IsStopStatus (status_of_faulty text)
of_faulty (Cost fault) = high_stop 15 (omega arith) (omega arith)
of_faulty _ = low_stop _ (omega arith) (omega arith)

-- each stop has one,
pub of_stop : (stop : Stop) → IsStopStatus (status_of_stop stop)
of_stop (Faulty text) = of_faulty text
of_stop NoFault = high_stop 16 (omega arith) (omega arith)
of_stop _ = low_stop _ (omega arith) (omega arith)

-- and no reply
pub no_stop_kind : (kind : Kind) → IsStopStatus (status_of_kind kind) → ⊥
no_stop_kind Done stop = omega (arith, stop.low)
no_stop_kind _ stop = elim stop.among [ inl a ↦ omega (arith, a) | inr b ↦ omega (arith, b.0, b.1) ]

pub reply_status : (status : ℕ) (kind : Kind) → status ≡ status_of_kind kind → IsStopStatus status → ⊥
reply_status status kind is stop = no_stop_kind kind (subst IsStopStatus is stop)

-- a status that isn't one isn't a low one
pub not_low : (status k : ℕ) → 2 ≤ k → k ≤ 9 → (IsStopStatus status → ⊥) → status ≢ k
not_low status k low high never is = never (low_stop status (omega (arith, is, low)) (omega (arith, is, high)))

-- that of a file's text is above those of words and loads
pub faulty_high : (text : FaultyText) → 5 ≤ status_of_faulty text
faulty_high (Model fault) = omega arith
faulty_high _ = omega arith

pub is_stop : (status : ℕ) → SaysStop status → IsStopStatus status
is_stop status stop = record { low = stop.low; among = elim stop.among [ inl low ↦ inl (omega (arith, low)) | inr high ↦ inr high ] }
