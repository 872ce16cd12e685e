-- A run that explains a log can be printed: its alarms have names, and it has no more steps than a run text may have.
use Rattle.std.proofs.Common.{◌≡◌, ℕ, zero, suc, Bool, true, false, cond, List, [], ◌∷◌, Option, Some, None, IfSome, IsSome, refl, sym, subst, bytes_eq, option_map, ◌+◌, ◌*◌, ◌<◌, ◌≤◌, ◌++◌, length, arith, ap, All}
use Rattle.std.proofs.lemmas.List.Elements.{All-nil, All-cons, All-head, All-tail}
use Rattle.std.proofs.lemmas.Slice.Eq.{bytes_eq-Decides}
use Rattle.std.specs.List.{AllByRecursion, cons_option}
use Rattle.des_base.specs.Names.{IsName, place_of}
use Rattle.des_net.specs.Network.{Net, IsNetwork}
use Rattle.log_order.specs.Adding.{names_of, IsLog}
use Rattle.log_order.specs.Log.{Log}
use Rattle.replay.specs.Matching.{IsWellMatched, name_on, alarm_of, alarms_on, order_of}
use Rattle.replay.specs.declared.run.RunStep.{RunStep}
use Rattle.report.specs.ReadBack.{HasAlarmNames, IsPrintable}
use Rattle.std.proofs.lemmas.List.{length-append}
use Rattle.std.proofs.lemmas.Nat.{mul-le}
use Rattle.des_net.specs.Building.{IsDraft}
use Rattle.des_net.specs.Width.{IsPiece, Fits, joined}
use Rattle.least_faults.proofs.KnownEvents.{run_known}
use Rattle.replay.proofs.AcceptLemmas.{order_alarms}
use Rattle.replay.specs.declared.run.RunStep.TheVariants.{Happens, Dropped}
use Rattle.replay.specs.Explanation.{Explains}
use Rattle.replay.specs.Traced.{word_of}
use Rattle.run_decode.proofs.DecodeBounds.{order_few}
use Rattle.run_decode.proofs.SmallPieces.{piece_small}

-- ---- its alarms have names

found_step : (b : Bool) (text name : List ℕ) (later : Option ℕ) → bytes_eq text name ≡ b → IsName name → (IsSome later → IsName text) → IsSome (cond b (Some zero) (option_map suc later)) → IsName text
found_step true text name later is named rest h = subst IsName (sym ((bytes_eq-Decides text name).0 is)) named
found_step false text name (Some k) is named rest h = rest refl
found_step false text name None is named rest h = cc

-- a text that stands among names is a name
found_name : (text : List ℕ) (names : List (List ℕ)) → AllByRecursion IsName names → IsSome (place_of text names) → IsName text
found_name text [] named h = cc
found_name text (name ∷ names) named h = found_step (bytes_eq text name) text name (place_of text names) refl named.0 (found_name text names named.1) h

alarm_named : (alarm : Option (List ℕ)) (names : List (List ℕ)) → AllByRecursion IsName names → IfSome alarm (λ name. IsSome (place_of name names)) → IfSome alarm IsName
alarm_named None names named h = tt
alarm_named (Some text) names named h = found_name text names named h

pub matched_names : (net : Net) (log : Log) (steps : List RunStep) → AllByRecursion IsName (names_of log.alarms) → IsWellMatched net log steps → HasAlarmNames steps
matched_names net log [] named h = All-nil (λ (s : RunStep). IfSome (name_on s) IsName)
matched_names net log (step ∷ steps) named h =
    All-cons (λ (s : RunStep). IfSome (name_on s) IsName) step steps (alarm_named (name_on step) (names_of log.alarms) named h.0.known) (matched_names net log steps named h.1)

-- ---- its events: at most one for each component in each parallel step

front : (P : ℕ → Type 0) (xs ys : List ℕ) → All P (xs ++ ys) → AllByRecursion P xs
front P [] ys all = tt
front P (x ∷ xs) ys all = (All-head P x (xs ++ ys) all, front P xs ys (All-tail P x (xs ++ ys) all))

back : (P : ℕ → Type 0) (xs ys : List ℕ) → All P (xs ++ ys) → All P ys
back P [] ys all = all
back P (x ∷ xs) ys all = back P xs ys (All-tail P x (xs ++ ys) all)

pub pieces_length : (net : Net) (pieces : List (List ℕ)) → IsNetwork net → All (λ e. e < length net.events) (joined pieces) → AllByRecursion (IsPiece net) pieces
    → length (joined pieces) ≤ length pieces * length net.components
pieces_length net [] network known apart = omega arith
pieces_length net (piece ∷ pieces) network known apart =
    let m = length net.components in
    let first = piece_small net network piece (front (λ e. e < length net.events) piece (joined pieces) known) apart.0 in
    let rest = pieces_length net pieces network (back (λ e. e < length net.events) piece (joined pieces) known) apart.1 in
    let both : length (piece ++ joined pieces) ≡ length piece + length (joined pieces) = length-append piece (joined pieces) in
    let more : suc (length pieces) * m ≡ m + length pieces * m = omega arith in
    omega (arith, first, rest, both, more)

word_length : (net : Net) (word : List ℕ) (n : ℕ) → IsNetwork net → All (λ e. e < length net.events) word → Fits net word n → length word ≤ n * length net.components
word_length net word n network known (pieces, count, cut) =
    let within = pieces_length net pieces network (subst (All (λ e. e < length net.events)) cut.whole known) cut.apart in
    let short : length word ≤ length pieces * length net.components = subst (λ w. length w ≤ length pieces * length net.components) (sym cut.whole) within in
    subst (λ k. length word ≤ k * length net.components) count short

-- ---- and its false alarms: at most one for each alarm

none_shorter : (o : Option ℕ) (rest : List ℕ) → length rest ≤ length (cons_option o rest)
none_shorter None rest = omega arith
none_shorter (Some i) rest = omega arith

one_longer : (o : Option ℕ) (rest : List ℕ) → IsSome o → length (cons_option o rest) ≡ suc (length rest)
one_longer None rest some = cc
one_longer (Some i) rest some = omega arith

steps_counted : (net : Net) (log : Log) (run : List RunStep) → IsWellMatched net log run → length run ≤ length (word_of run) + length (alarms_on log run)
steps_counted net log [] matched = omega arith
steps_counted net log (Happens event alarm ∷ run) matched =
    omega (arith, steps_counted net log run matched.1, none_shorter (alarm_of log (Happens event alarm)) (alarms_on log run))
steps_counted net log (Dropped alarm ∷ run) matched =
    omega (arith, steps_counted net log run matched.1, one_longer (alarm_of log (Dropped alarm)) (alarms_on log run) matched.0.known)

run_length : (net : Net) (log : Log) (n : ℕ) (run : List RunStep) → IsNetwork net → All (λ e. e < length net.events) (word_of run) → IsWellMatched net log run → Explains net log n (word_of run) (order_of log run)
    → length run ≤ n * length net.components + length log.alarms
run_length net log n run network known matched explains =
    let alarms = order_few log _ explains.linear.complete in
    let same = ap length (order_alarms log run) in
    omega (arith, steps_counted net log run matched, word_length net (word_of run) n network known explains.fits, alarms, same)

-- so it can be printed
pub explained_printable : (net : Net) (log : Log) (n : ℕ) (run : List RunStep) → IsNetwork net → IsDraft net → IsLog log → n ≤ 1000 → IsWellMatched net log run → Explains net log n (word_of run) (order_of log run) → IsPrintable net run
explained_printable net log n run network drafted logged few matched explains =
    let known = run_known net (word_of run) explains.run in
    let long = run_length net log n run network known matched explains in
    let most = mul-le n (length net.components) 1000 1000 few drafted.few_comps in
    let short = logged.few_alarms in
    record { known = known; named = matched_names net log run logged.names.each matched; few = omega (arith, long, most, short) }
