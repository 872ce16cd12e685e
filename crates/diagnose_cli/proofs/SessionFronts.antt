-- What one row of a session tells, and what its rows tell one after another.
use Rattle.std.proofs.Common.{◌≡◌, ◌≢◌, ◌≤◌, ◌^◌, ◌∙◌, inl, ℕ, List, [], ◌∷◌, ◌++◌, Option, Result, IfOk, OnErr, option_map, refl, sym, ap, subst, append-nil, append_assoc, arith, flat_map, option_to_list}
use Rattle.std.proofs.lemmas.Grind.{flat_map-append}
use Rattle.std.proofs.lemmas.Result.{IfOk-weaker, on_err_weaker}
use Rattle.alarm_session.proofs.Rowing.{carried_out_more, nothing_carried_out}
use Rattle.alarm_session.specs.Rows.{AreRowsTold, IsRowTold, after_row}
use Rattle.alarm_session.specs.Session.{IsSessionBook, Stage, first_stage}
use Rattle.alarm_session.specs.declared.rows.RowTold.{RowTold}
use Rattle.alarm_session.specs.declared.rows.RowTold.TheVariants.{Made, Answered}
use Rattle.des_net.specs.Building.{IsDraft}
use Rattle.des_net.specs.Network.{Net, IsNetwork}
use Rattle.least_faults.proofs.Deciding.{undecided_is_small}
use Rattle.least_faults.specs.Answers.{IsAnswered}
use Rattle.answers.specs.declared.found.Found.{Found}
use Rattle.answers.specs.declared.found.Found.TheVariants.{Undecided}
use Rattle.log_csv.specs.declared.row.Row.{Row}
use Rattle.log_order.specs.Adding.{IsLog}
use Rattle.log_order.specs.Log.{Log}
use Rattle.proof_ledger.specs.Book.{BookEntry}
use Rattle.prop_core.specs.VariableNames.{Meaning}
use Rattle.replay.specs.QuestionSize.{variable_bound}
use Rattle.run_decode.specs.QuestionAxioms.{BuiltQuestion}
use Rattle.telling.specs.Telling.{TellsEach}
use Rattle.diagnose_cli.specs.declared.session_rows.Plan.{Plan}
use Rattle.diagnose_cli.specs.SessionReplies.{AreDecided, HasReplies, IsDecided, IsRowReplied, RunsReplay, TellsDecided, TellsReplaying, replies_to}
use Rattle.diagnose_cli.specs.Sessions.{IsCarriedOut, RowIsUntold, RowTells, TellsKnown}
use Rattle.diagnose_cli.proofs.RepliesReplay.{run_replays}
use Rattle.verdict_telling.proofs.Runs.{known}

-- ---- what one row tells

-- for the network and the steps that the session has
pub same_setting : (P : Net → ℕ → Type 0) (other net : Net) (time n : ℕ) → other ≡ net → time ≡ n → P other time → P net n
same_setting P other net time n same same_time h = subst (λ (k : ℕ). P net k) same_time (subst (λ (m : Net). P m time) same h)

module _ (net : Net) (n budget : ℕ) (old : Stage) (row : Row) (new : Stage) where
  pub row_known : (told : RowTold) → IsRowTold net n budget old row new told → TellsKnown net told
  row_known (Answered found) is = let answered = is.tells.told.answered in known is.tells.told.meanings _ answered.left.since net old.log n budget found answered.found
  row_known _ is = tt

  row_replays : (told : RowTold) → IsNetwork net → IsDraft net → IsLog new.log → n ≤ 1000 → IsRowTold net n budget old row new told → TellsReplaying net old.log n told
  row_replays (Answered found) network whole log_whole few told =
      let answered = told.tells.told.answered in
      let same : new.log ≡ old.log = told.log ∙ ap (after_row net n old.log) told.tells.question in
      run_replays told.tells.told.meanings _ answered.left.since net old.log n budget found network whole (subst IsLog same log_whole) few answered.found
  row_replays _ network whole log_whole few told = tt

  pub carried : (told : RowTold) → IsNetwork net → IsDraft net → IsLog new.log → n ≤ 1000 → IsRowTold net n budget old row new told → IsCarriedOut net n budget old row new told
  carried told network whole log_whole few holds = record { holds = holds; replays = row_replays told network whole log_whole few holds }

  pub row_replied : (told : RowTold) (reply : List ℕ) → IsCarriedOut net n budget old row new told → replies_to net n told ≡ reply ∷ [] → IsRowReplied net n budget old row new reply
  row_replied told reply carried only = record { told = told; holds = carried.holds; replays = carried.replays; is = only }

  -- what is no addition that was made has a reply
  pub has_reply : (told : RowTold) → told ≢ Made → (reply : List ℕ) × (replies_to net n told ≡ reply ∷ [])
  has_reply Made other = absurd (other refl)
  has_reply _ other = (_, refl)

-- ---- what a budget decides

module _ (net : Net) (n budget : ℕ) where
  found_decided : (found : Found) (names : List (ℕ × Meaning)) (built : BuiltQuestion) (alarms : Log) (before after : List BookEntry) → IsAnswered names built net alarms n budget before after found → 3 ^ variable_bound net alarms n ≤ budget → IsDecided found
  found_decided (Undecided lo best) names built alarms before after answered enough = omega (arith, undecided_is_small names built net alarms n budget lo best before after answered, enough)
  found_decided _ names built alarms before after answered enough = tt

  row_decided : (old : Stage) (row : Row) (new : Stage) (told : RowTold) → IsRowTold net n budget old row new told → TellsDecided net old.log n budget told
  row_decided old row new (Answered found) is = found_decided found is.tells.told.meanings old.built old.log old.book new.book is.tells.told.answered
  row_decided old row new _ is = tt

  all_decided : (old : Stage) (rows : List Row) (new : Stage) (told : List RowTold) → AreRowsTold net n budget old rows new told → AreDecided net n budget old.log rows told
  all_decided old [] new told are = tt
  all_decided old (row ∷ rows) new told are =
      subst (λ (ts : List RowTold). AreDecided net n budget old.log (row ∷ rows) ts) (sym are.5)
      (row_decided old row are.0 are.1 are.3, subst (λ (a : Log). AreDecided net n budget a rows are.2) are.3.log (all_decided are.0 rows new are.2 are.4))

-- ---- what some rows told, and one more

module _ (net : Net) (n budget : ℕ) where
  replay_more : (old : Stage) (rows : List Row) (row : Row) (mid : Stage) (told : List RowTold) (here : RowTold) → AreRowsTold net n budget old rows mid told → RunsReplay net n old.log rows told
      → TellsReplaying net mid.log n here → RunsReplay net n old.log (rows ++ row ∷ []) (told ++ here ∷ [])
  replay_more old [] row mid told here are replays last =
      subst (λ (ts : List RowTold). RunsReplay net n old.log (row ∷ []) (ts ++ here ∷ [])) (sym are.1) (subst (λ (s : Stage). TellsReplaying net s.log n here) are.0 last, tt)
  replay_more old (first ∷ rows) row mid told here are replays last =
      let split = subst (λ (ts : List RowTold). RunsReplay net n old.log (first ∷ rows) ts) are.5 replays in
      let further = replay_more are.0 rows row mid are.2 here are.4 (subst (λ (a : Log). RunsReplay net n a rows are.2) (sym are.3.log) split.1) last in
      subst (λ (ts : List RowTold). RunsReplay net n old.log (first ∷ rows ++ row ∷ []) (ts ++ here ∷ [])) (sym are.5)
      (split.0, subst (λ (a : Log). RunsReplay net n a (rows ++ row ∷ []) (are.2 ++ here ∷ [])) are.3.log further)

  -- with the replies to one more row
  pub replied_more : (rows : List Row) (row : Row) (mid new : Stage) (texts : List (List ℕ)) (here : RowTold) → HasReplies net n budget rows mid texts → IsCarriedOut net n budget mid row new here
      → HasReplies net n budget (rows ++ row ∷ []) new (texts ++ replies_to net n here)
  replied_more rows row mid new texts here replied is = record {
    told = replied.told ++ here ∷ [];
    carried = carried_out_more net n budget rows row mid new replied.told here replied.carried is.holds;
    replays = replay_more (first_stage net n) rows row mid replied.told here replied.carried.each replied.replays is.replays;
    decided = all_decided net n budget (first_stage net n) (rows ++ row ∷ []) new (replied.told ++ here ∷ []) (carried_out_more net n budget rows row mid new replied.told here replied.carried is.holds).each;
    are = ap (λ (ts : List (List ℕ)). ts ++ replies_to net n here) replied.are
        ∙ sym (flat_map-append (replies_to net n) replied.told (here ∷ []) ∙ ap (λ (ts : List (List ℕ)). flat_map (replies_to net n) replied.told ++ ts) (append-nil (replies_to net n here)));
  }

-- no row yet
pub nothing_replied : (net : Net) (n budget : ℕ) (begun : Stage) → begun ≡ first_stage net n → IsSessionBook net n begun → HasReplies net n budget [] begun []
nothing_replied net n budget begun begins asks = record {
  told = [];
  carried = nothing_carried_out net n budget begun begins asks;
  replays = tt;
  decided = tt;
  are = refl;
}

-- ---- what is told of rows, one after another

module _ {S : Type 0} (plan : S → Plan) (stage : S → Stage) where
  -- by a plan
  abbrev Replied : Plan → List Row → Stage → List (List ℕ) → Type 0
  Replied p rows left texts = HasReplies p.net p.limits.steps p.limits.budget rows left texts

  moved : (p : Plan) {rows others : List Row} {left end : Stage} {texts told : List (List ℕ)} → rows ≡ others → left ≡ end → texts ≡ told → Replied p rows left texts → Replied p others end told
  moved p {others = others} {left = left} {end = end} {texts = texts} same_rows same_left same_texts h =
      subst (Replied p others end) same_texts (subst (λ (s : Stage). Replied p others s texts) same_left (subst (λ (rs : List Row). Replied p rs left texts) same_rows h))

  pub rows_told : (s : S) (front rows : List Row) (t : S) (before texts : List (List ℕ)) → Replied (plan s) front (stage s) before → TellsEach (RowTells plan stage) s rows t texts
      → (plan t ≡ plan s) × Replied (plan s) (front ++ rows) (stage t) (before ++ texts)
  rows_told s front [] t before texts so_far told = (
    ap plan told.0,
    moved (plan s) (sym (append-nil front)) (ap stage (sym told.0)) (sym (ap (λ (ts : List (List ℕ)). before ++ ts) told.1 ∙ append-nil before)) so_far,
  )
  rows_told s front (row ∷ rows) t before texts so_far (mid, text, rest, here, further, are) =
      let p = plan s in
      let more = replied_more p.net p.limits.steps p.limits.budget front row (stage s) (stage mid) before here.told so_far here.carried in
      let by_text = moved p refl refl (ap (λ (ts : List (List ℕ)). before ++ ts) here.is) more in
      let others = rows_told mid (front ++ row ∷ []) rows t (before ++ option_to_list text) rest (subst (λ (q : Plan). Replied q (front ++ row ∷ []) (stage mid) (before ++ option_to_list text)) (sym here.same) by_text) further in
      let of_plan = subst (λ (q : Plan). Replied q ((front ++ row ∷ []) ++ rows) (stage t) ((before ++ option_to_list text) ++ rest)) here.same others.1 in
      (others.0 ∙ here.same, moved p (append_assoc front (row ∷ []) rows) refl (append_assoc before (option_to_list text) rest ∙ ap (λ (ts : List (List ℕ)). before ++ ts) (sym are)) of_plan)

-- ---- one row of a plan

module _ {S : Type 0} (s t : S) (plan : S → Plan) (stage : S → Stage) (row : Row) (same : plan t ≡ plan s) (told : RowTold) (carried : IsCarriedOut (plan s).net (plan s).limits.steps (plan s).limits.budget (stage s) row (stage t) told) where
  -- with its reply, where it has one
  pub row_tells : {V E : Type 0} (text_of : V → List ℕ) (r : Result (Option V) E) → IfOk r (λ text. replies_to (plan s).net (plan s).limits.steps told ≡ option_to_list (option_map text_of text))
      → IfOk r (λ text. RowTells plan stage s row t (option_map text_of text))
  row_tells text_of r = IfOk-weaker r _ (λ text. RowTells plan stage s row t (option_map text_of text)) (λ text is. record { same = same; told = told; carried = carried; is = is })

  -- or out of memory for its text
  pub row_untold : {V E : Type 0} (r : Result (Option V) E) → OnErr r (told ≢ Made) → OnErr r (RowIsUntold plan stage s row t)
  row_untold r = on_err_weaker r (λ other.
      let reply = has_reply (plan s).net (plan s).limits.steps (plan s).limits.budget (stage s) row (stage t) told other in
      record { same = same; untold = inl (reply.0, row_replied (plan s).net (plan s).limits.steps (plan s).limits.budget (stage s) row (stage t) told reply.0 carried reply.1) })
