-- What a scale writes is small, and over known variables.
use Rattle.std.proofs.Common.{◌≡◌, ◌∙◌, ℕ, ◌+◌, ◌*◌, ◌<◌, ◌≤◌, List, [], ◌++◌, length, map, take, drop, refl, sym, ap, subst, arith, sum_by, length-append}
use Rattle.std.specs.List.{AllByRecursion}
use Rattle.std.proofs.Math.Seq.{take-append_seam, drop-append_seam}
use Rattle.std.proofs.lemmas.List.Elements.{All-weaker}
use Rattle.des_base.proofs.Elements.{all_change}
use Rattle.proof_ledger.specs.Book.{BookEntry, axiomatic, clauses_of}
use Rattle.prop_core.specs.declared.lit.Lit.{Lit}
use Rattle.sat_prop.specs.Changes.{IsFront}
use Rattle.prop_core.specs.Clauses.{Clause, HasValues}
use Rattle.weight_counter.proofs.Small.{scales_are_small}
use Rattle.weight_counter.specs.Scales.{AddsScale, place_variable, scale_clauses}
use Rattle.weight_counter.specs.declared.scale.Scale.{Scale}
use Rattle.weight_counter.specs.declared.weighted.Weighted.{Weighted}
use Rattle.proof_ledger.proofs.AxiomLists.{clauses_added}

-- the clauses that were written behind none
pub record AreWritten (inputs : List Weighted) (amounts first : ℕ) (all : List Clause) : Type 0 where
  pub few : length all ≤ 2 * (length inputs * amounts)
  pub short : sum_by length all ≤ 5 * (length inputs * amounts)
  pub known : AllByRecursion (HasValues (first + length inputs * amounts)) all

pub are_written : (inputs : List Weighted) (amounts first : ℕ) (none : List Clause) (scale : Scale) (next : ℕ) (all : List Clause) → AddsScale inputs amounts first none scale next all → none ≡ [] → AllByRecursion (λ x. x.input.var < first) inputs →
    AreWritten inputs amounts first all
are_written inputs amounts first none scale next all adds empty below =
    let own : Scale = record { first = first; inputs = length inputs; amounts = amounts } in
    let small = scales_are_small own inputs refl below in
    let is : all ≡ scale_clauses (place_variable own) amounts inputs =
    adds.clauses ∙ ap (λ (cs : List Clause). cs ++ scale_clauses (place_variable scale) amounts inputs) empty ∙ ap (λ (s : Scale). scale_clauses (place_variable s) amounts inputs) adds.scale_is in
    record {
      few = subst (λ (cs : List Clause). length cs ≤ 2 * (length inputs * amounts)) (sym is) small.few;
      short = subst (λ (cs : List Clause). sum_by length cs ≤ 5 * (length inputs * amounts)) (sym is) small.short;
      known = subst (AllByRecursion (HasValues (first + length inputs * amounts))) (sym is) small.known;
    }

-- ---- put into a book

-- a solver that has adopted a book can adopt it with these clauses behind
pub record IsAdoptable (adopted : List Clause) (entries : List BookEntry) (values more : ℕ) : Type 0 where
  pub front : IsFront adopted (clauses_of entries)
  pub long : length (clauses_of entries) ≤ length adopted + more
  pub known : AllByRecursion (HasValues values) (drop (length adopted) (clauses_of entries))

here : (book : List BookEntry) (clauses : List Clause) (values limit : ℕ) → AllByRecursion (HasValues limit) clauses → limit ≤ values → IsAdoptable (clauses_of book) (book ++ map axiomatic clauses) values (length clauses)
here book clauses values limit low enough =
    let all = clauses_added book clauses in
    let known = all_change (HasValues limit) (HasValues values) clauses (λ clause below. All-weaker (λ (l : Lit). l.var < limit) (λ (l : Lit). l.var < values) (λ l less. omega (arith, less, enough)) clause below) low in
    record {
      front = ap (take (length (clauses_of book))) all ∙ take-append_seam (clauses_of book) clauses;
      long = (let whole = ap length all in omega (arith, whole, length-append (clauses_of book) clauses));
      known = subst (AllByRecursion (HasValues values)) (sym (ap (drop (length (clauses_of book))) all ∙ drop-append_seam (clauses_of book) clauses)) known;
    }

pub adoptable : (adopted : List Clause) (book mid entries : List BookEntry) (clauses : List Clause) (values limit : ℕ) → adopted ≡ clauses_of book → mid ≡ book → entries ≡ mid ++ map axiomatic clauses → AllByRecursion (HasValues limit) clauses → limit ≤ values →
    IsAdoptable adopted entries values (length clauses)
adoptable adopted book mid entries clauses values limit all same pushed low enough =
    let there : entries ≡ book ++ map axiomatic clauses = pushed ∙ ap (λ (front : List BookEntry). front ++ map axiomatic clauses) same in
    subst (λ (es : List BookEntry). IsAdoptable adopted es values (length clauses)) (sym there)
    (subst (λ (held : List Clause). IsAdoptable held (book ++ map axiomatic clauses) values (length clauses)) (sym all) (here book clauses values limit low enough))
