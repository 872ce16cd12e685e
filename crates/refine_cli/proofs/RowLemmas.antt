-- What the program did follows from how it may end.
use Rattle.std.proofs.Common.{◌≡◌, ◌≢◌, ℕ, ◌<◌, ◌≤◌, List, [], ◌∷◌, length, Option, Some, None, Ok, Err, refl, sym, ap, ◌∙◌, subst, inl, inr, arith}
use Rattle.std.specs.Prelude.{IfSome, option_map, codes}
use Rattle.std.proofs.lemmas.Option.{none-some, same_Some}
use Rattle.des_base.specs.CommandWords.{word_at}
use Rattle.des_base.specs.Outside.{Took}
use Rattle.model_text.specs.declared.fault.ModelFault.{ModelFault}
use Rattle.model_text.specs.ModelFaults.{first_model_fault, network_of}
use Rattle.endings.specs.declared.stop.Stop.{Stop}
use Rattle.endings.specs.declared.stop.Stop.TheVariants.{Usage, Load, Faulty, Long, NoFault, Large, Memory}
use Rattle.endings.specs.declared.stop.FaultyText.{FaultyText}
use Rattle.endings.specs.declared.stop.FaultyText.TheVariants.{Model}
use Rattle.endings.specs.Endings.{HasStatus, ending_texts, status_of_end, status_of_kind, text_of_stop}
use Rattle.endings.specs.Files.{Holds, IsFileFault, IsText}
use Rattle.endings.specs.Puts.{Finishes}
use Rattle.endings.specs.Texts.{fault_of_model, limit_of, model}
use Rattle.endings.specs.Transcripts.{End, Ending, EndsOne, IsOne, OrMemory, Transcript, broken, cut, said}
use Rattle.endings.proofs.Reading.{none_before}
use Rattle.telling.specs.Lines.{line_with_number, line_with_two_numbers}
use Rattle.refine_cli.specs.Due.{IsCall, MayEnd, MayStop, SaysRefined}
use Rattle.refine_cli.specs.Rows.{CallsOver, FailsToLoad, IsPut, IsUnbroken, LoadRow, Outcome, RefinedRow, Shows, ShowsRefined, StopRows}

-- ---- how a run came to its end

-- it said a refined text
pub record Said (o : Outcome) : Type 0 where
  pub called : IsCall o.words
  pub text : List ℕ
  pub is_text : IsText o.loads.held (word_at o.words 1) (limit_of model) fault_of_model text
  pub refined : ShowsRefined o text

-- the words name no model
pub record Misused (o : Outcome) : Type 0 where
  pub words : length o.words ≢ 2
  pub shows : Shows o 2 (codes "USAGE\n")

-- the text of the model has a fault
pub record Refused (o : Outcome) : Type 0 where
  pub called : IsCall o.words
  pub text : List ℕ
  pub holds : Holds o.loads.held (word_at o.words 1) (limit_of model) text
  pub fault : ModelFault
  pub faulty : first_model_fault text ≡ Some fault
  pub shows : Shows o 5 (line_with_two_numbers (codes "MODEL ") fault.line fault.code)

-- it is too long
pub record TooLong (o : Outcome) : Type 0 where
  pub called : IsCall o.words
  pub long : IfSome (o.loads.held (word_at o.words 1)) (λ held. limit_of model < length held)
  pub shows : Shows o 8 (line_with_number (codes "LONG ") 1)

-- it couldn't be loaded
pub record Unloaded (o : Outcome) : Type 0 where
  pub shown : o.status ≡ 3
  pub fails : FailsToLoad o

-- one of these, or memory ran out
pub data Came (o : Outcome) : Type 0 where
  by_said : Said o → Came o
  by_usage : Misused o → Came o
  by_fault : Refused o → Came o
  by_length : TooLong o → Came o
  by_load : Unloaded o → Came o
  by_memory : o.status ≡ 9 → Came o

never : (limit n : ℕ) → limit < n → n ≤ limit → ⊥
never limit n long fits = omega (arith, long, fits)

-- the bytes that are told are long where the file is
long_there : (limit : ℕ) (there : Option (List ℕ)) (text : List ℕ) → there ≡ Some text → IfSome there (λ held. limit < length held) → limit < length text
long_there limit there text is long = subst (λ h. IfSome h (λ held. limit < length held)) is long

module _ (o : Outcome) where
  told_one : IsCall o.words → (text : List ℕ) → IsText o.loads.held (word_at o.words 1) (limit_of model) fault_of_model text → (told : Transcript) → IsOne (SaysRefined (network_of text)) told → o.status ≢ 4
      → o.status ≡ status_of_end told.end → Took o.before o.now told.texts → Came o
  told_one called text is_text told one written shown put = by told.end shown one.ends
    where
      by : (end : End) → o.status ≡ status_of_end end → EndsOne one.reply.0 end → Came o
      by (said kind) shown is = by_said (record {
        called = called;
        text = text;
        is_text = is_text;
        refined = record {
          reply = one.reply;
          says = one.says;
          shows = record {
            shown = shown ∙ ap status_of_kind (is ∙ one.says.done);
            put = subst (Took o.before o.now) one.alone put;
          };
        };
      })
      by cut shown is = absurd (written shown)
      by broken shown is = absurd is

  file_fault : IsCall o.words → (text : FaultyText) → IsFileFault o.loads.held (word_at o.words 1) (limit_of model) fault_of_model (Faulty text) → HasStatus (Err (Faulty text)) o.status → Took o.before o.now (text_of_stop (Faulty text) ∷ []) → Came o
  file_fault called text is shown put = by (first_model_fault is.bytes) refl is.faulty
    where
      same_fault : is.text ≡ text
      same_fault = let e = is.told in cc

      by : (found : Option ModelFault) → first_model_fault is.bytes ≡ found → option_map (λ fault. Model fault) found ≡ Some is.text → Came o
      by None e told = cc
      by (Some fault) e told =
          let this : Model fault ≡ text = same_Some (Model fault) is.text told ∙ same_fault in
          by_fault (record {
            called = called;
            text = is.bytes;
            holds = is.holds;
            fault = fault;
            faulty = e;
            shows = record {
              shown = subst (λ t. HasStatus (Err (Faulty t)) o.status) (sym this) shown;
              put = subst (λ t. Took o.before o.now (text_of_stop (Faulty t) ∷ [])) (sym this) put;
            };
          })

  stopped : (stop : Stop) → MayStop o.loads o.words stop → HasStatus (Err stop) o.status → Took o.before o.now (ending_texts (Err stop)) → Came o
  stopped Usage may shown put = by_usage (record { words = may; shows = record { shown = shown; put = put } })
  stopped (Load file) (called, inl (is, rose)) shown put =
      by_load (record { shown = shown; fails = record { called = called; rose = rose; put = subst (λ n. Took o.before o.now (line_with_number (codes "LOAD ") n ∷ [])) is put } })
  stopped (Load file) (called, inr fault) shown put = absurd (let e = fault.told in cc)
  stopped (Faulty text) (called, inl h) shown put = absurd h
  stopped (Faulty text) (called, inr fault) shown put = file_fault called text fault shown put
  stopped (Long file) (called, inl (is, long)) shown put =
      by_length (record { called = called; long = long; shows = record { shown = shown; put = subst (λ n. Took o.before o.now (line_with_number (codes "LONG ") n ∷ [])) is put } })
  stopped (Long file) (called, inr fault) shown put = absurd (let e = fault.told in cc)
  stopped NoFault may shown put = absurd may
  stopped (Large size) may shown put = absurd may
  stopped Memory may shown put = by_memory shown

  finished : (e : Ending) → (e ≢ Err Memory → MayEnd o.loads o.words e) → o.status ≢ 4 → HasStatus e o.status → Took o.before o.now (ending_texts e) → Came o
  finished (Ok told) may written shown put = let is = may (λ e. cc) in told_one is.0 is.1.0 is.1.1 told is.1.2 written shown put
  finished (Err Memory) may written shown put = by_memory shown
  finished (Err Usage) may written shown put = stopped Usage (may (λ e. cc)) shown put
  finished (Err (Load file)) may written shown put = stopped (Load file) (may (λ e. cc)) shown put
  finished (Err (Faulty text)) may written shown put = stopped (Faulty text) (may (λ e. cc)) shown put
  finished (Err (Long file)) may written shown put = stopped (Long file) (may (λ e. cc)) shown put
  finished (Err NoFault) may written shown put = stopped NoFault (may (λ e. cc)) shown put
  finished (Err (Large size)) may written shown put = stopped (Large size) (may (λ e. cc)) shown put

  pub came : (o.status ≢ 4 → Finishes (OrMemory (MayEnd o.loads o.words) (Unit {0})) o.before o.now o.status) → o.status ≢ 4 → Came o
  came ends written = let e = ends written in finished e.ending e.due.says written e.shown e.put

  -- the bytes that the shelf tells are those that were loaded
  same_bytes : (text bytes : List ℕ) → CallsOver o text → Holds o.loads.held (word_at o.words 1) (limit_of model) bytes → text ≡ bytes
  same_bytes text bytes calls holds = subst (λ h. IfSome h (λ there. there ≡ bytes)) calls.told holds.told

  refined_of : Came o → (text : List ℕ) → CallsOver o text → length text ≤ limit_of model → first_model_fault text ≡ None → IsUnbroken o.status → ShowsRefined o text
  refined_of (by_said it) text calls fits well whole = subst (ShowsRefined o) (sym (same_bytes text it.text calls it.is_text.holds)) it.refined
  refined_of (by_usage it) text calls fits well whole = absurd (it.words calls.called)
  refined_of (by_fault it) text calls fits well whole =
      absurd (none-some it.fault (sym well ∙ ap first_model_fault (same_bytes text it.text calls it.holds) ∙ it.faulty))
  refined_of (by_length it) text calls fits well whole =
      absurd (never (limit_of model) (length text) (long_there (limit_of model) _ text calls.told it.long) fits)
  refined_of (by_load it) text calls fits well whole = absurd (whole.loaded it.shown)
  refined_of (by_memory it) text calls fits well whole = absurd (whole.put.memory it)

  faulty_of : Came o → (text : List ℕ) (fault : ModelFault) → CallsOver o text → length text ≤ limit_of model → first_model_fault text ≡ Some fault → IsUnbroken o.status → Shows o 5 (line_with_two_numbers (codes "MODEL ") fault.line fault.code)
  faulty_of (by_said it) text fault calls fits found whole =
      let none = none_before _ (first_model_fault it.text) it.is_text.well in
      absurd (none-some fault (sym none ∙ ap first_model_fault (sym (same_bytes text it.text calls it.is_text.holds)) ∙ found))
  faulty_of (by_usage it) text fault calls fits found whole = absurd (it.words calls.called)
  faulty_of (by_fault it) text fault calls fits found whole =
      let same : it.fault ≡ fault = same_Some it.fault fault (sym it.faulty ∙ ap first_model_fault (sym (same_bytes text it.text calls it.holds)) ∙ found) in
      subst (λ f. Shows o 5 (line_with_two_numbers (codes "MODEL ") f.line f.code)) same it.shows
  faulty_of (by_length it) text fault calls fits found whole =
      absurd (never (limit_of model) (length text) (long_there (limit_of model) _ text calls.told it.long) fits)
  faulty_of (by_load it) text fault calls fits found whole = absurd (whole.loaded it.shown)
  faulty_of (by_memory it) text fault calls fits found whole = absurd (whole.put.memory it)

  fits_told : (text bytes : List ℕ) → CallsOver o text → Holds o.loads.held (word_at o.words 1) (limit_of model) bytes → length text ≤ limit_of model
  fits_told text bytes calls holds = subst (λ t. length t ≤ limit_of model) (sym (same_bytes text bytes calls holds)) holds.fits

  long_of : Came o → (text : List ℕ) → CallsOver o text → limit_of model < length text → IsUnbroken o.status → Shows o 8 (line_with_number (codes "LONG ") 1)
  long_of (by_said it) text calls long whole = let fits = fits_told text it.text calls it.is_text.holds in absurd (never (limit_of model) (length text) long fits)
  long_of (by_usage it) text calls long whole = absurd (it.words calls.called)
  long_of (by_fault it) text calls long whole = let fits = fits_told text it.text calls it.holds in absurd (never (limit_of model) (length text) long fits)
  long_of (by_length it) text calls long whole = it.shows
  long_of (by_load it) text calls long whole = absurd (whole.loaded it.shown)
  long_of (by_memory it) text calls long whole = absurd (whole.put.memory it)

  usage_of : Came o → length o.words ≢ 2 → IsPut o.status → Shows o 2 (codes "USAGE\n")
  usage_of (by_said it) none put = absurd (none it.called)
  usage_of (by_usage it) none put = it.shows
  usage_of (by_fault it) none put = absurd (none it.called)
  usage_of (by_length it) none put = absurd (none it.called)
  usage_of (by_load it) none put = absurd (none it.fails.called)
  usage_of (by_memory it) none put = absurd (put.memory it)

  load_of : Came o → LoadRow o
  load_of (by_said it) three = let zero = it.refined.shows.shown in absurd (omega (arith, zero, three))
  load_of (by_usage it) three = let two = it.shows.shown in absurd (omega (arith, two, three))
  load_of (by_fault it) three = let five = it.shows.shown in absurd (omega (arith, five, three))
  load_of (by_length it) three = let eight = it.shows.shown in absurd (omega (arith, eight, three))
  load_of (by_load it) three = it.fails
  load_of (by_memory it) three = absurd (omega (arith, it, three))

-- ---- all rows

abbrev pub Ends : Outcome → Type 0
Ends o = o.status ≢ 4 → Finishes (OrMemory (MayEnd o.loads o.words) (Unit {0})) o.before o.now o.status

pub refined_row : (o : Outcome) → Ends o → RefinedRow o
refined_row o ends text calls fits well whole = refined_of o (came o ends whole.put.written) text calls fits well whole

pub stop_rows : (o : Outcome) → Ends o → StopRows o
stop_rows o ends = record {
  faulty = λ text fault calls fits found whole. faulty_of o (came o ends whole.put.written) text fault calls fits found whole;
  long = λ text calls long whole. long_of o (came o ends whole.put.written) text calls long whole;
  usage = λ none put. usage_of o (came o ends put.written) none put;
}

pub load_row : (o : Outcome) → Ends o → LoadRow o
load_row o ends three = load_of o (came o ends (λ four. omega (arith, three, four))) three
