-- The ends of chains without alarms.
use Rattle.std.proofs.Common.{◌≡◌, ℕ, zero, suc, ◌+◌, ◌<◌, ◌≤◌, ◌∙◌, Bool, true, false, List, [], ◌∷◌, ◌++◌, length, map, filter, Some, None, refl, sym, ap, subst, arith, slice_get, length-append, ◌-◌, Contains, append-nil}
use Rattle.std.specs.Prelude.{is_some}
use Rattle.std.specs.List.{AllByRecursion}
use Rattle.std.proofs.lemmas.List.Elements.{filter-append}
use Rattle.des_base.proofs.NumbersBelow.{filter_numbers_yes, numbers_more}
use Rattle.des_base.proofs.Elements.{filter_from}
use Rattle.des_base.specs.Lists.{numbers_below}
use Rattle.des_base.specs.declared.TheConstants.{VAR_LIMIT}
use Rattle.des_net.specs.Network.{Net, label_of, observable_events}
use Rattle.question_clauses.specs.LogNames.{first_meanings}
use Rattle.log_encode.proofs.TakenLemmas.{map_count}
use Rattle.prop_core.proofs.NameLemmas.{found_more}
use Rattle.question_clauses.proofs.LaidOut.{named_at}
use Rattle.question_clauses.proofs.Lists.{from_numbers}
use Rattle.log_encode.specs.CodedLog.{empty_code}
use Rattle.log_encode.specs.declared.taken.ChainEnd.{ChainEnd}
use Rattle.log_encode.specs.View.{IsChainEnd, AreEnds}
use Rattle.log_encode.specs.Written.{first_ends, guards_of}
use Rattle.prop_core.specs.declared.grid.Grid.{Grid}
use Rattle.prop_core.specs.VariableNames.{closed, meaning_of}
use Rattle.question_clauses.specs.LaidOut.{laid_out}

pub filter_more : (p : ℕ → Bool) (k : ℕ) → filter p (numbers_below (k + 1)) ≡ filter p (numbers_below k) ++ filter p (k ∷ [])
filter_more p k = ap (filter p) (numbers_more k) ∙ filter-append p (numbers_below k) (k ∷ [])

pub filter_false : (p : ℕ → Bool) (k : ℕ) → p k ≡ false → filter p (numbers_below (k + 1)) ≡ filter p (numbers_below k) ++ []
filter_false p k h = let left : filter p (k ∷ []) ≡ [] = rw h refl in filter_more p k ∙ ap (λ xs. filter p (numbers_below k) ++ xs) left

filter_grows : (p : ℕ → Bool) (k d : ℕ) → length (filter p (numbers_below k)) ≤ length (filter p (numbers_below (k + d)))
filter_grows p k zero = let same : k + 0 ≡ k = omega arith in rw same (omega arith)
filter_grows p k (suc d) =
    let same : k + suc d ≡ k + d + 1 = omega arith in
    rw same (omega (arith, filter_grows p k d, ap length (filter_more p (k + d)), length-append (filter p (numbers_below (k + d))) (filter p ((k + d) ∷ []))))

-- an element that passes is counted
pub filter_below : (p : ℕ → Bool) (k m : ℕ) → k < m → p k ≡ true → length (filter p (numbers_below k)) + 1 ≤ length (filter p (numbers_below m))
filter_below p k m h passes =
    let more : k + 1 + (m - (k + 1)) ≡ m = omega arith in
    let one : length (filter p (numbers_below (k + 1))) ≡ length (filter p (numbers_below k)) + 1 = ap length (filter_numbers_yes p k passes) ∙ length-append (filter p (numbers_below k)) (k ∷ []) in
    let grows = subst (λ j. length (filter p (numbers_below (k + 1))) ≤ length (filter p (numbers_below j))) more (filter_grows p (k + 1) (m - (k + 1))) in
    omega (arith, one, grows)

pub ends_snoc : (var e : ℕ) (events : List ℕ) → first_ends var (events ++ e ∷ []) ≡ first_ends var events ++ record { event = e; closed = var + length events; last = None } ∷ []
ends_snoc var e [] = let same : var ≡ var + 0 = omega arith in ap (λ v. record { event = e; closed = v; last = None } ∷ []) same
ends_snoc var e (x ∷ events) =
    let same : suc var + length events ≡ var + suc (length events) = omega arith in
    ap (λ xs. record { event = x; closed = var; last = None } ∷ xs) (ends_snoc (suc var) e events ∙ ap (λ v. first_ends (suc var) events ++ record { event = e; closed = v; last = None } ∷ []) same)

pub ends_events : (var : ℕ) (events : List ℕ) → map (λ (end : ChainEnd). end.event) (first_ends var events) ≡ events
ends_events var [] = refl
ends_events var (e ∷ events) = ap (λ xs. e ∷ xs) (ends_events (suc var) events)

pub ends_count : (var : ℕ) (events : List ℕ) → length (first_ends var events) ≡ length events
ends_count var [] = refl
ends_count var (e ∷ events) = ap suc (ends_count (suc var) events)

-- their variables are in a row
pub ends_small : (var limit : ℕ) (events : List ℕ) → var + length events ≤ limit → AllByRecursion (λ (end : ChainEnd). end.closed < limit) (first_ends var events)
ends_small var limit [] few = tt
ends_small var limit (e ∷ events) few = (omega (arith, few), ends_small (suc var) limit events (omega (arith, few)))

-- each end is named, after names before
ends_named : (net : Net) (grid : Grid) (asked : ℕ) (before events : List ℕ) → observable_events net ≡ before ++ events →
    AllByRecursion (IsChainEnd (empty_code net grid asked)) (first_ends (suc asked + length before) events)
ends_named net grid asked before [] is = tt
ends_named net grid asked before (e ∷ events) is = (
  record {
    closing = found_more (laid_out asked (first_meanings net)) [] (suc asked + length before) (closed e 0)
        (subst (λ v. meaning_of (laid_out asked (first_meanings net)) v ≡ Some (closed e 0)) (omega arith) (named_at asked (first_meanings net) (suc (length before)) (closed e 0) (at before (observable_events net) is)));
    rest = refl;
  },
  subst (λ v. AllByRecursion (IsChainEnd (empty_code net grid asked)) (first_ends v events)) (omega (arith, length-append before (e ∷ [])))
      (ends_named net grid asked (before ++ e ∷ []) events (is ∙ sym (append_one before))),
)
  where
    append_one : (xs : List ℕ) → (xs ++ e ∷ []) ++ events ≡ xs ++ e ∷ events
    append_one [] = refl
    append_one (x ∷ xs) = ap (λ rest. x ∷ rest) (append_one xs)

    get : (xs : List ℕ) → slice_get (map (λ e. closed e 0) (xs ++ e ∷ events)) (length xs) ≡ Some (closed e 0)
    get [] = refl
    get (x ∷ xs) = get xs

    at : (xs all : List ℕ) → all ≡ xs ++ e ∷ events → slice_get (map (λ e. closed e 0) all) (length xs) ≡ Some (closed e 0)
    at xs all same = rw same (get xs)

pub empty_ends : (net : Net) (grid : Grid) (asked : ℕ) → AreEnds (empty_code net grid asked) (first_ends (suc asked) (observable_events net)) (guards_of asked (first_ends (suc asked) (observable_events net)))
empty_ends net grid asked = record {
  events = ends_events (suc asked) (observable_events net);
  each = subst (λ v. AllByRecursion (IsChainEnd (empty_code net grid asked)) (first_ends v (observable_events net))) (omega arith) (ends_named net grid asked [] (observable_events net) refl);
  guarding = refl;
}

-- all events that can be seen are events
pub observables_known : (net : Net) (ends : List ChainEnd) → map (λ (end : ChainEnd). end.event) ends ≡ observable_events net → (k : ℕ) (end : ChainEnd) → slice_get ends k ≡ Some end → end.event < length net.events
observables_known net ends is k end at =
    from_numbers (length net.events) end.event (filter_from (λ e. is_some (label_of net e)) (numbers_below (length net.events)) end.event (subst (λ xs. Contains xs end.event) is (there ends k at))).1
  where
    there : (xs : List ChainEnd) (k : ℕ) → slice_get xs k ≡ Some end → Contains (map (λ (x : ChainEnd). x.event) xs) end.event
    there [] k h = cc
    there (x ∷ xs) zero h = let same : x ≡ end = cc in (0, omega arith, ap (λ (y : ChainEnd). y.event) same)
    there (x ∷ xs) (suc k) h = let rest = there xs k h in (suc rest.0, omega (arith, rest.1), rest.2)

-- ---- the loop that makes them

abbrev seen_below : Net → ℕ → List ℕ
seen_below net k = filter (λ e. is_some (label_of net e)) (numbers_below k)

-- the next one is within the limit
pub next_fits : (net : Net) (asked k next : ℕ) → asked + length (first_meanings net) ≤ VAR_LIMIT → k < length net.events → is_some (label_of net k) ≡ true → next ≡ asked + length (seen_below net k) → next + 1 ≤ VAR_LIMIT
next_fits net asked k next few known seen is =
    let counted = filter_below (λ e. is_some (label_of net e)) k (length net.events) known seen in
    let names = map_count (λ e. closed e 0) (observable_events net) in
    omega (arith, few, counted, names, is)

pub record AreEndsBelow (net : Net) (asked k next : ℕ) (ends : List ChainEnd) : Type 0 where
  pub made : ends ≡ first_ends (suc asked) (seen_below net k)
  pub last : next ≡ asked + length (seen_below net k)

pub one_end_more : (net : Net) (asked k next later : ℕ) (ends new : List ChainEnd) → is_some (label_of net k) ≡ true → AreEndsBelow net asked k next ends → later ≡ next + 1 →
    new ≡ ends ++ record { event = k; closed = next + 1; last = None } ∷ [] → AreEndsBelow net asked (k + 1) later new
one_end_more net asked k next later ends new seen so_far one is =
    let more = filter_numbers_yes (λ e. is_some (label_of net e)) k seen in
    let counted : length (seen_below net (k + 1)) ≡ length (seen_below net k) + 1 = ap length more ∙ length-append (seen_below net k) (k ∷ []) in
    let var : next + 1 ≡ suc asked + length (seen_below net k) = omega (arith, so_far.last) in record {
      made = is ∙ ap (λ xs. xs ++ record { event = k; closed = next + 1; last = None } ∷ []) so_far.made
          ∙ ap (λ v. first_ends (suc asked) (seen_below net k) ++ record { event = k; closed = v; last = None } ∷ []) var
          ∙ sym (ends_snoc (suc asked) k (seen_below net k)) ∙ ap (first_ends (suc asked)) (sym more);
      last = omega (arith, so_far.last, counted, one);
    }

pub no_end_more : (net : Net) (asked k next later : ℕ) (ends new : List ChainEnd) → is_some (label_of net k) ≡ false → AreEndsBelow net asked k next ends → later ≡ next → new ≡ ends → AreEndsBelow net asked (k + 1) later new
no_end_more net asked k next later ends new unseen so_far none is =
    let more : seen_below net (k + 1) ≡ seen_below net k = filter_false (λ e. is_some (label_of net e)) k unseen ∙ append-nil (seen_below net k) in record {
      made = is ∙ so_far.made ∙ ap (first_ends (suc asked)) (sym more);
      last = none ∙ so_far.last ∙ ap (λ xs. asked + length xs) (sym more);
    }
