-- Steps, log and a counter with room for further inputs.
use Rattle.std.proofs.Common.{◌≡◌, ℕ, Bool, true, false, if◌then◌else◌, [], ◌+◌, refl}
use Rattle.card_counter.proofs.States.{room_is_counter}
use Rattle.card_counter.specs.CounterState.{CounterState, AreAlike, with_input, with_room, input_clauses}
use Rattle.question_clauses.specs.Additions.{Addition, alarm_added, pair_added}
use Rattle.log_encode.specs.CodedLog.{CodedLog, addition_width}
use Rattle.prop_core.specs.declared.lit.Lit.{Lit}
use Rattle.run_decode.specs.WholeNaming.{false_input, counter_after, counted_after, RoomIsFree}

-- a further input, where there is one
alike : (counter : CounterState) (more : ℕ) (doubtful : Bool) (input : Lit) (first : ℕ) →
    AreAlike (if doubtful then with_input counter input first else counter) (if doubtful then with_input (with_room counter more) input first else with_room counter more)
alike counter more true input first = record { inputs = refl; columns = refl }
alike counter more false input first = record { inputs = refl; columns = refl }

same_clauses : (counter : CounterState) (more : ℕ) (doubtful : Bool) (input : Lit) (first : ℕ) →
    (if doubtful then input_clauses (with_room counter more) input first else []) ≡ (if doubtful then input_clauses counter input first else [])
same_clauses counter more true input first = refl
same_clauses counter more false input first = refl

after : (code : CodedLog) (counter : CounterState) (more : ℕ) (addition : Addition) (first : ℕ) → AreAlike (counter_after code counter addition first) (counter_after code (with_room counter more) addition first)
after code counter more (alarm_added new) first = alike counter more new.doubtful (false_input code new first) (first + addition_width code (alarm_added new))
after code counter more (pair_added i j) first = record { inputs = refl; columns = refl }

counted : (code : CodedLog) (counter : CounterState) (more : ℕ) (addition : Addition) (first : ℕ) → counted_after code (with_room counter more) addition first ≡ counted_after code counter addition first
counted code counter more (alarm_added new) first = same_clauses counter more new.doubtful (false_input code new first) (first + addition_width code (alarm_added new))
counted code counter more (pair_added i j) first = refl

pub room_is_free : RoomIsFree
room_is_free steps code counter more together = record {
  together = record {
    beside = together.beside;
    counted = room_is_counter counter more together.counted;
    inputs = together.inputs;
    later = λ i j place. together.later i j (record { input = place.input; column = place.column });
    apart = λ entry i j in' place. together.apart entry i j in' (record { input = place.input; column = place.column });
  };
  clauses = λ clauses are. record { stepped = are.stepped; written = are.written; step_code = are.step_code; log_code = are.log_code; same = are.same };
  after = after code counter more;
  counted = counted code counter more;
}
