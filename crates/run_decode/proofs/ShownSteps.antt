-- The steps of a run that show the alarms of one step: each true one with its event, and the false ones alone.
use Rattle.std.proofs.Common.{◌≡◌, ℕ, Bool, true, false, not, ◌&&◌, ◌||◌, ◌∙◌, List, [], ◌∷◌, map, filter, filter_map, Option, Some, None, refl, sym, ap, Contains, is_some}
use Rattle.des_base.proofs.Elements.{here_first, here_later}
use Rattle.des_base.specs.Names.{place_of}
use Rattle.log_order.specs.Adding.{names_of}
use Rattle.log_order.specs.Log.{Log, id_of}
use Rattle.question_clauses.specs.Decoded.{is_false_alarm, comes, entries_at}
use Rattle.prop_core.specs.VariableNames.{Meaning}
use Rattle.replay.specs.Explanation.{Entry}
use Rattle.replay.specs.Matching.{order_of}
use Rattle.replay.specs.Traced.{word_of}
use Rattle.run_decode.specs.Decoding.{shown_steps}

-- a false alarm has no event
pub shown_word : (log : Log) (event : ℕ → Option ℕ) (dropped : ℕ → Bool) (order : List ℕ) → ((i : ℕ) → Contains order i → dropped i ≡ true → event i ≡ None) → word_of (shown_steps log event dropped order) ≡ filter_map event order
shown_word log event dropped [] none = refl
shown_word log event dropped (i ∷ order) none = by (dropped i) refl (event i) refl (none i (here_first i order i refl)) (shown_word log event dropped order (λ j in'. none j (here_later i order j in')))
  where
    by : (b : Bool) → dropped i ≡ b → (o : Option ℕ) → event i ≡ o → (dropped i ≡ true → event i ≡ None) → word_of (shown_steps log event dropped order) ≡ filter_map event order →
        word_of (shown_steps log event dropped (i ∷ order)) ≡ filter_map event (i ∷ order)
    by true e None f h later = rw (e, f) later
    by true e (Some x) f h later = let bad : None ≡ Some x = sym (h e) ∙ f in cc
    by false e None f h later = rw (e, f) later
    by false e (Some x) f h later = rw (e, f) (ap (λ xs. x ∷ xs) later)

-- the alarms that are shown, where each is found by its name
pub shown_order : (log : Log) (event : ℕ → Option ℕ) (dropped : ℕ → Bool) (order : List ℕ) → ((i : ℕ) → Contains order i → place_of (id_of log.alarms i) (names_of log.alarms) ≡ Some i) →
    order_of log (shown_steps log event dropped order) ≡ map (λ i. record { alarm = i; real = not (dropped i) }) (filter (λ i. dropped i || is_some (event i)) order)
shown_order log event dropped [] found = refl
shown_order log event dropped (i ∷ order) found = by (dropped i) refl (event i) refl (found i (here_first i order i refl)) (shown_order log event dropped order (λ j in'. found j (here_later i order j in')))
  where
    by : (b : Bool) → dropped i ≡ b → (o : Option ℕ) → event i ≡ o → place_of (id_of log.alarms i) (names_of log.alarms) ≡ Some i → order_of log (shown_steps log event dropped order) ≡ map (λ j. record { alarm = j; real = not (dropped j) }) (filter (λ j. dropped j || is_some (event j)) order) →
        order_of log (shown_steps log event dropped (i ∷ order)) ≡ map (λ j. record { alarm = j; real = not (dropped j) }) (filter (λ j. dropped j || is_some (event j)) (i ∷ order))
    by true e o f place later = rw (e, place) (ap (λ (xs : List Entry). record { alarm = i; real = false } ∷ xs) later
        ∙ ap (λ b. record { alarm = i; real = not b } ∷ map (λ j. record { alarm = j; real = not (dropped j) }) (filter (λ j. dropped j || is_some (event j)) order)) (sym e))
    by false e None f place later = rw (e, f) later
    by false e (Some x) f place later = rw (e, f, place) (ap (λ (xs : List Entry). record { alarm = i; real = true } ∷ xs) later
        ∙ ap (λ b. record { alarm = i; real = not b } ∷ map (λ j. record { alarm = j; real = not (dropped j) }) (filter (λ j. dropped j || is_some (event j)) order)) (sym e))

abbrev kept : Log → (Meaning → Bool) → (ℕ → Option ℕ) → ℕ → List ℕ → List Entry
kept log value event s xs = map (λ j. record { alarm = j; real = not (comes value j s && is_false_alarm log value j) }) (filter (λ j. (comes value j s && is_false_alarm log value j) || is_some (event j)) xs)

-- those are the entries of the step, where exactly the true alarms that come there have an event
pub step_entries : (log : Log) (value : Meaning → Bool) (event : ℕ → Option ℕ) (s : ℕ) (order : List ℕ) → ((i : ℕ) → Contains order i → comes value i s && not (is_false_alarm log value i) ≡ is_some (event i)) →
    map (λ i. record { alarm = i; real = not (comes value i s && is_false_alarm log value i) }) (filter (λ i. (comes value i s && is_false_alarm log value i) || is_some (event i)) order) ≡ entries_at log value order s
step_entries log value event s [] agree = refl
step_entries log value event s (i ∷ order) agree =
    by (comes value i s) refl (is_false_alarm log value i) refl (is_some (event i)) refl (agree i (here_first i order i refl)) (step_entries log value event s order (λ j in'. agree j (here_later i order j in')))
  where
    by : (a : Bool) → comes value i s ≡ a → (b : Bool) → is_false_alarm log value i ≡ b → (c : Bool) → is_some (event i) ≡ c → comes value i s && not (is_false_alarm log value i) ≡ is_some (event i) →
        kept log value event s order ≡ entries_at log value order s → kept log value event s (i ∷ order) ≡ entries_at log value (i ∷ order) s
    by true e true f c g h later = rw (e, f) (ap (λ b. record { alarm = i; real = not b } ∷ kept log value event s order) (ap (λ b. b && is_false_alarm log value i) e ∙ f)
        ∙ ap (λ (xs : List Entry). record { alarm = i; real = false } ∷ xs) later)
    by true e false f true g h later = rw (e, f, g) (ap (λ b. record { alarm = i; real = not b } ∷ kept log value event s order) (ap (λ b. b && is_false_alarm log value i) e ∙ f)
        ∙ ap (λ (xs : List Entry). record { alarm = i; real = true } ∷ xs) later)
    by true e false f false g h later = let bad : true ≡ false = sym (ap (λ b. b && not (is_false_alarm log value i)) e ∙ ap not f) ∙ h ∙ g in cc
    by false e b f true g h later = let bad : false ≡ true = sym (ap (λ x. x && not (is_false_alarm log value i)) e) ∙ h ∙ g in cc
    by false e b f false g h later = rw (e, g) later
