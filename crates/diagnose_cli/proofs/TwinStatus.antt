-- What the status of a twin question tells, and the book that it leaves.
use Rattle.std.proofs.Common.{◌≡◌, ◌∙◌, ◌<◌, ◌^◌, ℕ, true, List, [], ◌∷◌, ◌++◌, map, refl, sym, ap, subst, arith, append-nil, append_assoc, filter_map, Contains, Option, ◌≢◌, ◌≤◌, Some, None, IsSomeAnd}
use Rattle.std.specs.List.{list_any}
use Rattle.std.proofs.lemmas.List.Elements.{Contains-append_left, Contains-append_right, filter_map-append}
use Rattle.std.proofs.lemmas.List.FromFn.{length-range_with_len}
use Rattle.des_base.proofs.Elements.{here_later}
use Rattle.des_base.specs.Lists.{numbers_below}
use Rattle.des_net.specs.Network.{Net}
use Rattle.least_faults.proofs.FreshCount.{fresh_below}
use Rattle.sat_solve.proofs.Freshness.{fresh_closed}
use Rattle.proof_ledger.specs.Book.{BookEntry, axiomatic, final, mark, axiom_of, axioms_of, clause_of, clauses_of}
use Rattle.proof_ledger.specs.Fresh.{AreFresh, occurs}
use Rattle.prop_core.specs.Clauses.{Clause}
use Rattle.prop_core.specs.Trail.{has_var, Clashes}
use Rattle.twin_test.proofs.Testing.{book_axioms, marked}
use Rattle.twin_test.specs.Tested.{IsClosedBook, IsTested}
use Rattle.twin_test.specs.TwinCodes.{AskTwins, twin_clauses, twin_variables}
use Rattle.answers.specs.declared.twin.Twin.{Twin, Twin as TwinAnswer}
use Rattle.answers.specs.declared.twin.Twin.TheVariants.{Undecided, Ambiguous, Clear}
use Rattle.pricing.proofs.PricedBooks.{known_below}
use Rattle.des_base.specs.CommandWords.{word_at}
use Rattle.des_base.specs.Outside.{Took}
use Rattle.event_costs.specs.CostText.{fault_event_of}
use Rattle.model_text.specs.ModelFaults.{network_of}
use Rattle.report.specs.Replies.{text_of_twin}
use Rattle.endings.specs.declared.ending.Kind.{Kind}
use Rattle.endings.specs.declared.ending.Kind.TheVariants.{Done, Ambiguous as Alike, Undecided as LeftOpen}
use Rattle.endings.specs.Endings.{status_of_kind}
use Rattle.diagnose_cli.specs.Commands.{twin}
use Rattle.diagnose_cli.specs.Tasks.{one}
use Rattle.diagnose_cli.specs.Outcomes.{Outcome, ShowsReply}
use Rattle.diagnose_cli.specs.Rows.{CallsWith}
use Rattle.diagnose_cli.specs.Run.{Ends}
use Rattle.diagnose_cli.specs.TwinReplies.{SaysOfWord, SaysTwin, kind_of_twin}
use Rattle.diagnose_cli.specs.TwinRows.{AsksTwins, TellsNoTwins, TellsTwins, TellsUntested, TwinRows}
use Rattle.diagnose_cli.proofs.Answered.{reply_over, row, shown_by}

-- ---- the closing mark has no clause

inside : {A : Type 0} (f : BookEntry → Option A) (cs : List Clause) (since : List BookEntry) → filter_map f (mark 1 ∷ []) ≡ [] → filter_map f (map axiomatic cs ++ mark 0 ∷ since ++ mark 1 ∷ []) ≡ filter_map f (marked cs ++ since)
inside f cs since none =
    let front = map axiomatic cs ++ mark 0 ∷ since in
    filter_map-append f front (mark 1 ∷ []) ∙ ap (λ (last : List _). filter_map f front ++ last) none ∙ append-nil (filter_map f front) ∙ ap (filter_map f) (sym (append_assoc (map axiomatic cs) (mark 0 ∷ []) since))

-- ---- the book

module _ (net : Net) (fault n d budget : ℕ) (book : List BookEntry) where
  abbrev cs : List Clause
  cs = twin_clauses net fault n d

  module _ (answer : Twin) (tested : IsTested net fault n d budget book answer) where
    axioms_are : axioms_of book ≡ cs
    axioms_are = ap axioms_of tested.left.whole ∙ inside axiom_of cs tested.left.since refl ∙ book_axioms cs tested.left.since tested.derived

    -- its axioms ask for twins
    pub book_asks : AskTwins net fault n d (axioms_of book)
    book_asks = subst (AskTwins net fault n d) (sym axioms_are) tested.asks

    pub all_clauses : clauses_of book ≡ clauses_of (marked cs ++ tested.left.since)
    all_clauses = ap clauses_of tested.left.whole ∙ inside clause_of cs tested.left.since refl

    -- what stands behind the opening mark stands in the book
    pub closed_book : IsClosedBook tested.left.since → IsClosedBook book
    closed_book (hints, there) = (
      hints,
      subst (λ b. Contains b (final [] hints)) (sym tested.left.whole)
          (Contains-append_left (map axiomatic cs ++ mark 0 ∷ tested.left.since) (mark 1 ∷ []) (final [] hints)
          (Contains-append_right (map axiomatic cs) (mark 0 ∷ tested.left.since) (final [] hints) (here_later (mark 0) tested.left.since (final [] hints) there))),
    )

  module _ (tested : IsTested net fault n d budget book Undecided) where
    -- each clause that was learnt was fresh
    pub fresh_book : AreFresh [] book budget
    fresh_book = fresh_closed cs tested.left.since book budget tested.left.whole (record { number = refl; each = tested.told.0.each }) tested.told.0.number

    -- they are fewer than the sets of literals, no variable twice
    pub undecided_is_small : budget < 3 ^ twin_variables net n d
    undecided_is_small =
        let count = twin_variables net n d in
        let known = λ (var : ℕ) (there : occurs var (marked cs ++ tested.left.since) ≡ true).
        known_below count cs tested.asks.below var (ap (list_any (has_var var)) (sym (book_axioms cs tested.left.since tested.derived)) ∙ there) in
        let small = fresh_below (numbers_below count) (marked cs) tested.left.since budget known tested.told.0 in
        let power = ap (λ k. 3 ^ k) (length-range_with_len 0 count) in
        omega (arith, small, power)

module _ (o : Outcome) (net : Net) (n d budget : ℕ) where
  -- of the fault event that the word names
  record Tested (answer : TwinAnswer) : Type 0 where
    fault : ℕ
    named : fault_event_of net (word_at o.words 2) ≡ Some fault
    tested : IsTested net fault n d budget o.book answer

  abbrev Put : TwinAnswer → Type 0
  Put answer = Took o.before o.now (text_of_twin net n answer ∷ [])

  abbrev question : (answer : TwinAnswer) → Tested answer → AsksTwins o net n d
  question answer holds = record { fault = holds.fault; named = holds.named; asks = book_asks net holds.fault n d budget o.book answer holds.tested }

  alike_of : (answer : TwinAnswer) → 17 ≡ status_of_kind (kind_of_twin answer) → Tested answer → Put answer → TellsTwins o net n d
  alike_of (Ambiguous faulty healthy) is holds put = record { question = question (Ambiguous faulty healthy) holds; faulty = faulty; healthy = healthy; twins = holds.tested.told; put = put }
  alike_of _ is holds put = absurd (omega arith)

  clear_of : (answer : TwinAnswer) → 0 ≡ status_of_kind (kind_of_twin answer) → Tested answer → Put answer → TellsNoTwins o net n d
  clear_of Clear is holds put =
      record { question = question Clear holds; none = holds.tested.told.0; refuted = closed_book net holds.fault n d budget o.book Clear holds.tested holds.tested.told.1; put = put }
  clear_of _ is holds put = absurd (omega arith)

  untested_of : (answer : TwinAnswer) → 11 ≡ status_of_kind (kind_of_twin answer) → Tested answer → Put answer → TellsUntested o net n d budget
  untested_of Undecided is holds put = record {
    question = question Undecided holds;
    spent = fresh_book net holds.fault n d budget o.book holds.tested;
    conflict = subst (λ (cs : List Clause). Clashes cs []) (sym (all_clauses net holds.fault n d budget o.book Undecided holds.tested)) holds.tested.told.1;
    put = put;
  }
  untested_of _ is holds put = absurd (omega arith)

  small_of : (answer : TwinAnswer) → 11 ≡ status_of_kind (kind_of_twin answer) → Tested answer → Put answer → 3 ^ twin_variables net n d ≤ budget → ⊥
  small_of Undecided is holds put enough = omega (arith, undecided_is_small net holds.fault n d budget o.book holds.tested, enough)
  small_of _ is holds put enough = absurd (omega arith)

  of_reply : (kind : Kind) → o.status ≡ status_of_kind kind → (tells : ShowsReply o (SaysOfWord net (word_at o.words 2) n d budget o.book)) → (event : Option ℕ) → fault_event_of net (word_at o.words 2) ≡ event → IsSomeAnd event (λ fault. SaysTwin net fault n d budget o.book tells.reply)
      → {R : Type 0} → ((answer : TwinAnswer) → status_of_kind kind ≡ status_of_kind (kind_of_twin answer) → Tested answer → Put answer → R) → R
  of_reply kind is tells None named says = absurd says
  of_reply kind is tells (Some fault) named says = shown_by o kind_of_twin (text_of_twin net n) Tested kind is tells says.answer (record { fault = fault; named = named; tested = says.tested }) says.is

module _ (o : Outcome) (ends : o.status ≢ 4 → Ends o) where
  told : (n d budget : ℕ) (text : List ℕ) → CallsWith o (one twin) (record { steps = n; after = d; budget = budget }) (text ∷ []) → (kind : Kind) → o.status ≡ status_of_kind kind
      → {R : Type 0} → ((answer : TwinAnswer) → status_of_kind kind ≡ status_of_kind (kind_of_twin answer) → Tested o (network_of text) n d budget answer → Put o (network_of text) n d budget answer → R) → R
  told n d budget text asks kind is =
      let tells = reply_over o ends twin refl (record { steps = n; after = d; budget = budget }) (text ∷ []) asks refl kind is in
      of_reply o (network_of text) n d budget kind is tells (fault_event_of (network_of text) (word_at o.words 2)) refl tells.says

  pub twin_rows : TwinRows o
  twin_rows = record {
    answered = λ n d budget text. row o ends twin refl (record { steps = n; after = d; budget = budget }) (text ∷ []);
    ambiguous = λ n d budget text asks is. told n d budget text asks Alike is (alike_of o (network_of text) n d budget);
    clear = λ n d budget text asks is. told n d budget text asks Done is (clear_of o (network_of text) n d budget);
    undecided = λ n d budget text asks is. told n d budget text asks LeftOpen is (untested_of o (network_of text) n d budget);
    decided = λ n d budget text asks enough is. told n d budget text asks LeftOpen is (small_of o (network_of text) n d budget) enough;
  }
