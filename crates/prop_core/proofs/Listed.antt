-- Listed clauses: one behind another, as loops write them, and what a listing fixes.
use Rattle.std.proofs.Common.{◌≡◌, ℕ, zero, suc, ◌+◌, ◌<◌, ◌∙◌, ◌⊎◌, inl, inr, Bool, true, false, List, [], ◌∷◌, ◌++◌, Option, Some, None, refl, sym, ap, subst, arith, Contains, append-nil, append_assoc, map, flat_map, length, option_map, unwrap_or, take, get_or, cond, filter}
use Rattle.std.specs.List.{AllByRecursion, AllZip, range_with_len}
use Rattle.std.proofs.lemmas.List.{length-map, map-append, take_more}
use Rattle.std.proofs.lemmas.Grind.{flat_map-append}
use Rattle.std.proofs.lemmas.List.FromFn.{length-range_with_len, get_or-range_with_len}
use Rattle.std.proofs.lemmas.List.Elements.{Contains-append_left, Contains-append_right, Contains-append_cases}
use Rattle.std.proofs.lemmas.Option.{same_Some}
use Rattle.prop_core.specs.declared.lit.Lit.{Lit}
use Rattle.prop_core.specs.Clauses.{Clause}
use Rattle.prop_core.specs.VariableNames.{Meaning, NamedLiteral, named_clause, named_literal, with_literal, meaning_of, HasEachOnce, ReadsAs}
use Rattle.prop_core.specs.NamedClauses.{IsThere, variable_of}
use Rattle.prop_core.specs.Listings.{Listing, IsListed, One, Both, EachOf, Each, When, Appends, literal_by, written_by, ListedAreWritten, ListedAreEqual, ListedAreCode}
use Rattle.prop_core.proofs.FamilyLemmas.{reads_whole}
use Rattle.prop_core.proofs.NameLemmas.{variable_is}
use Rattle.des_base.proofs.NumbersBelow.{range_more}

head_same : {X : Type 0} (x y : X) (xs ys : List X) → x ∷ xs ≡ y ∷ ys → (x ≡ y) × (xs ≡ ys)
head_same x y xs ys h = (cc, cc)

-- ---- one behind another

module _ (names : List (ℕ × Meaning)) where
  pub listed_one : (clause : Clause) (named : List NamedLiteral) → named_clause names clause ≡ Some named → IsListed names (One named) (clause ∷ [])
  listed_one clause named reads = ap (λ o. o ∷ []) reads

  pub listed_both : (F G : Listing) (xs ys : List Clause) → IsListed names F xs → IsListed names G ys → IsListed names (Both F G) (xs ++ ys)
  listed_both F G xs ys first second =
      map-append (named_clause names) xs ys ∙ ap (λ zs. zs ++ map (named_clause names) ys) first ∙ ap (λ zs. map (λ named. Some named) F ++ zs) second ∙ sym (map-append (λ named. Some named) F G)

  pub appends_none : (old : List Clause) → Appends names [] old old
  appends_none old = record { more = []; whole = sym (append-nil old); listed = refl }

  pub appends_one : (clause : Clause) (named : List NamedLiteral) (old new : List Clause) → new ≡ old ++ clause ∷ [] → named_clause names clause ≡ Some named → Appends names (One named) old new
  appends_one clause named old new whole reads = record { more = clause ∷ []; whole = whole; listed = listed_one clause named reads }

  pub appends_both : (F G : Listing) (old mid new : List Clause) → Appends names F old mid → Appends names G mid new → Appends names (Both F G) old new
  appends_both F G old mid new first second = record {
    more = first.more ++ second.more;
    whole = second.whole ∙ ap (λ xs. xs ++ second.more) first.whole ∙ append_assoc old first.more second.more;
    listed = listed_both F G first.more second.more first.listed second.listed;
  }

  pub appends_same : (F G : Listing) (old new : List Clause) → F ≡ G → Appends names F old new → Appends names G old new
  appends_same F G old new same grown = subst (λ list. Appends names list old new) same grown

-- ---- loops

each_single : {X : Type 0} (F : X → Listing) (x : X) → EachOf (x ∷ []) F ≡ F x
each_single F x = append-nil (F x)

pub each_push : {X : Type 0} (F : X → Listing) (xs : List X) (x : X) → EachOf (xs ++ x ∷ []) F ≡ Both (EachOf xs F) (F x)
each_push F xs x = flat_map-append F xs (x ∷ []) ∙ ap (λ ys. EachOf xs F ++ ys) (each_single F x)

pub each_next : (F : ℕ → Listing) (k : ℕ) → Each (suc k) F ≡ Both (Each k F) (F k)
each_next F k =
    let zero_first : 0 + k ≡ k = omega arith in
    ap (λ xs. EachOf xs F) (range_more 0 k k zero_first) ∙ each_push F (range_with_len 0 k) k

pub each_more : (F : ℕ → Listing) (k : ℕ) → Each (k + 1) F ≡ Both (Each k F) (F k)
each_more F k = let next : suc k ≡ k + 1 = omega arith in subst (λ m. Each m F ≡ Both (Each k F) (F k)) next (each_next F k)

pub appends_each_more : (names : List (ℕ × Meaning)) (F : ℕ → Listing) (k : ℕ) (old mid new : List Clause) → Appends names (Each k F) old mid → Appends names (F k) mid new → Appends names (Each (k + 1) F) old new
appends_each_more names F k old mid new first second = appends_same names (Both (Each k F) (F k)) (Each (k + 1) F) old new (sym (each_more F k)) (appends_both names (Each k F) (F k) old mid new first second)

pub appends_of_more : (names : List (ℕ × Meaning)) {X : Type 0} (xs : List X) (F : X → Listing) (i : ℕ) (x : X) (old mid new : List Clause) → i < length xs → x ≡ get_or xs i x →
    Appends names (EachOf (take i xs) F) old mid → Appends names (F x) mid new → Appends names (EachOf (take (i + 1) xs) F) old new
appends_of_more names xs F i x old mid new within at so_far grown =
    let next : take (i + 1) xs ≡ take i xs ++ x ∷ [] = take_more xs i x within ∙ ap (λ y. take i xs ++ y ∷ []) (sym at) in
    appends_same names (Both (EachOf (take i xs) F) (F x)) (EachOf (take (i + 1) xs) F) old new (sym (ap (λ ys. EachOf ys F) next ∙ each_push F (take i xs) x))
    (appends_both names (EachOf (take i xs) F) (F x) old mid new so_far grown)

pub appends_when_true : (names : List (ℕ × Meaning)) (test : Bool) (F : Listing) (old new : List Clause) → test ≡ true → Appends names F old new → Appends names (When test F) old new
appends_when_true names test F old new h grown = appends_same names F (When test F) old new (sym (ap (λ b. cond b F []) h)) grown

pub appends_when_false : (names : List (ℕ × Meaning)) (test : Bool) (F : Listing) (old : List Clause) → test ≡ false → Appends names (When test F) old old
appends_when_false names test F old h = appends_same names [] (When test F) old old (sym (ap (λ b. cond b F []) h)) (appends_none names old)

-- a listing over the elements that pass a test, made into others, is a listing over all of them, each under the test
pub each_filtered : {X Y : Type 0} (F : Y → Listing) (to : X → Y) (p : X → Bool) (xs : List X) → EachOf (map to (filter p xs)) F ≡ EachOf xs (λ x. When (p x) (F (to x)))
each_filtered F to p [] = refl
each_filtered F to p (x ∷ xs) = by (p x) refl (each_filtered F to p xs)
  where
    by : (b : Bool) → p x ≡ b → EachOf (map to (filter p xs)) F ≡ EachOf xs (λ y. When (p y) (F (to y))) → EachOf (map to (filter p (x ∷ xs))) F ≡ EachOf (x ∷ xs) (λ y. When (p y) (F (to y)))
    by true e rest = rw e (ap (λ ys. F (to x) ++ ys) rest)
    by false e rest = rw e rest

-- a listing over listings
pub each_of_each : {X Y : Type 0} (F : Y → Listing) (g : X → List Y) (xs : List X) → EachOf (flat_map g xs) F ≡ EachOf xs (λ x. EachOf (g x) F)
each_of_each F g [] = refl
each_of_each F g (x ∷ xs) = flat_map-append F (g x) (flat_map g xs) ∙ ap (λ ys. EachOf (g x) F ++ ys) (each_of_each F g xs)

pub each_same : {X : Type 0} (F G : X → Listing) (xs : List X) → ((x : X) → F x ≡ G x) → EachOf xs F ≡ EachOf xs G
each_same F G [] same = refl
each_same F G (x ∷ xs) same = ap (λ ys. ys ++ EachOf xs F) (same x) ∙ ap (λ ys. G x ++ ys) (each_same F G xs same)

-- what was appended to nothing is all
pub listed_of_all : (names : List (ℕ × Meaning)) (F : Listing) (old new : List Clause) → old ≡ [] → Appends names F old new → IsListed names F new
listed_of_all names F old new empty grown = subst (IsListed names F) (sym (grown.whole ∙ ap (λ xs. xs ++ grown.more) empty)) grown.listed

-- ---- how many clauses

pub listed_length : (names : List (ℕ × Meaning)) (list : Listing) (clauses : List Clause) → IsListed names list clauses → length clauses ≡ length list
listed_length names list clauses h = sym (length-map clauses (named_clause names)) ∙ ap length h ∙ length-map list (λ named. Some named)

-- ---- one listing by one naming is one list

literal_is : (names : List (ℕ × Meaning)) (l : Lit) (m : NamedLiteral) → named_literal names l ≡ Some m → (meaning_of names l.var ≡ Some m.meaning) × (l.positive ≡ m.positive)
literal_is names l m h = by (meaning_of names l.var) refl h
  where
    by : (o : Option Meaning) → meaning_of names l.var ≡ o → option_map (λ (meaning : Meaning). record { meaning = meaning; positive = l.positive }) o ≡ Some m → (meaning_of names l.var ≡ Some m.meaning) × (l.positive ≡ m.positive)
    by None e is = cc
    by (Some n) e is =
        let same : record { meaning = n; positive = l.positive } ≡ m = cc in
        (e ∙ ap (λ (x : NamedLiteral). Some x.meaning) same, ap (λ (x : NamedLiteral). x.positive) same)

literal_written : (names : List (ℕ × Meaning)) → HasEachOnce names → (l : Lit) (m : NamedLiteral) → named_literal names l ≡ Some m → l ≡ literal_by names m
literal_written names once l m h =
    let is = literal_is names l m h in
    let var : l.var ≡ unwrap_or (variable_of names m.meaning) 0 = sym (ap (λ o. unwrap_or o 0) (variable_is names once l.var m.meaning is.0)) in
    λ i. record { var = var i; positive = is.1 i }

pub read_parts : (o : Option NamedLiteral) (r : Option (List NamedLiteral)) (read : List NamedLiteral) → with_literal o r ≡ Some read → (x : NamedLiteral) × (xs : List NamedLiteral) × (o ≡ Some x) × (r ≡ Some xs) × (read ≡ x ∷ xs)
read_parts None r read h = cc
read_parts (Some x) None read h = cc
read_parts (Some x) (Some xs) read h = let same : read ≡ x ∷ xs = cc in (x, xs, refl, refl, same)

pub clause_written : (names : List (ℕ × Meaning)) → HasEachOnce names → (clause : Clause) (read : List NamedLiteral) → named_clause names clause ≡ Some read → clause ≡ map (literal_by names) read
clause_written names once [] read h = ap (map (literal_by names)) (same_Some [] read h)
clause_written names once (l ∷ clause) read h =
    let x = read_parts (named_literal names l) (named_clause names clause) read h in
    let here : l ≡ literal_by names x.0 = literal_written names once l x.0 x.2 in
    let rest : clause ≡ map (literal_by names) x.1 = clause_written names once clause x.1 x.3 in
    (λ i. here i ∷ rest i) ∙ ap (map (literal_by names)) (sym x.4)

pub listed_are_written : ListedAreWritten
listed_are_written names [] [] once h = refl
listed_are_written names [] (c ∷ clauses) once h = cc
listed_are_written names (named ∷ list) [] once h = cc
listed_are_written names (named ∷ list) (c ∷ clauses) once h =
    let x = head_same (named_clause names c) (Some named) (map (named_clause names) clauses) (map (λ m. Some m) list) h in
    let here : c ≡ map (literal_by names) named = clause_written names once c named x.0 in
    let rest : clauses ≡ written_by names list = listed_are_written names list clauses once x.1 in
    λ i. here i ∷ rest i

pub listed_are_equal : ListedAreEqual
listed_are_equal names list clauses others once first second = listed_are_written names list clauses once first ∙ sym (listed_are_written names list others once second)

-- ---- what a listing says as a set

pub listed_are_code : ListedAreCode
listed_are_code names list clauses h = record { all = all list clauses h; only = only list clauses h (λ named there. there) }
  where
    all : (list : Listing) (clauses : List Clause) → IsListed names list clauses → (named : List NamedLiteral) → Contains list named → IsThere names clauses named
    all [] clauses h named (k, below, is) = absurd (omega arith)
    all (m ∷ list) [] h named there = cc
    all (m ∷ list) (c ∷ clauses) h named (zero, below, is) =
        let x = head_same (named_clause names c) (Some m) (map (named_clause names) clauses) (map (λ n. Some n) list) h in
        (c, (0, omega arith, refl), reads_whole names c named (x.0 ∙ ap (λ n. Some n) is))
    all (m ∷ list) (c ∷ clauses) h named (suc k, below, is) =
        let x = head_same (named_clause names c) (Some m) (map (named_clause names) clauses) (map (λ n. Some n) list) h in
        let rest = all list clauses x.1 named (k, omega arith, is) in
        (rest.0, (suc rest.1.0, omega (arith, rest.1.1), rest.1.2), rest.2)

    only : (part : Listing) (clauses : List Clause) → IsListed names part clauses → ((named : List NamedLiteral) → Contains part named → Contains list named) →
        AllByRecursion (λ clause. (named : List NamedLiteral) × Contains list named × ReadsAs names clause named) clauses
    only part [] h within = tt
    only [] (c ∷ clauses) h within = cc
    only (m ∷ part) (c ∷ clauses) h within =
        let x = head_same (named_clause names c) (Some m) (map (named_clause names) clauses) (map (λ n. Some n) part) h in (
          (m, within m (0, omega arith, refl), reads_whole names c m x.0),
          only part clauses x.1 (λ named there. within named (suc there.0, omega (arith, there.1), there.2)),
        )

-- ---- what is in a listing

module _ (named : List NamedLiteral) where
  -- a listing has the clauses of a family
  abbrev pub Has : Listing → (List NamedLiteral → Type 0) → Type 0
  Has list P = (Contains list named → P named) × (P named → Contains list named)

  pub has_one : (clause : List NamedLiteral) → Has (One clause) (λ n. clause ≡ n)
  has_one clause = (to, λ is. (0, omega arith, is))
    where
      to : Contains (One clause) named → clause ≡ named
      to (zero, below, is) = is
      to (suc k, below, is) = absurd (omega arith)

  pub has_both : (F G : Listing) (P Q : List NamedLiteral → Type 0) → Has F P → Has G Q → Has (Both F G) (λ n. P n ⊎ Q n)
  has_both F G P Q first second = ((λ there. cases (Contains-append_cases F G named there)), back)
    where
      cases : Contains F named ⊎ Contains G named → P named ⊎ Q named
      cases (inl there) = inl (first.0 there)
      cases (inr there) = inr (second.0 there)

      back : P named ⊎ Q named → Contains (F ++ G) named
      back (inl is) = Contains-append_left F G named (first.1 is)
      back (inr is) = Contains-append_right F G named (second.1 is)

  from_each : {X : Type 0} (F : X → Listing) (xs : List X) → Contains (EachOf xs F) named → (x : X) × Contains xs x × Contains (F x) named
  from_each F [] (k, below, is) = absurd (omega arith)
  from_each {X} F (x ∷ xs) there = by (Contains-append_cases (F x) (EachOf xs F) named there) (from_each F xs)
    where
      by : Contains (F x) named ⊎ Contains (EachOf xs F) named → (Contains (EachOf xs F) named → (y : X) × Contains xs y × Contains (F y) named) → (y : X) × Contains (x ∷ xs) y × Contains (F y) named
      by (inl here) later = (x, (0, omega arith, refl), here)
      by (inr rest) later = let found = later rest in (found.0, (suc found.1.0, omega (arith, found.1.1), found.1.2), found.2)

  in_each : {X : Type 0} (F : X → Listing) (xs : List X) (x : X) → Contains xs x → Contains (F x) named → Contains (EachOf xs F) named
  in_each F [] x (k, below, is) there = absurd (omega arith)
  in_each F (y ∷ xs) x (zero, below, is) there = Contains-append_left (F y) (EachOf xs F) named (subst (λ z. Contains (F z) named) (sym is) there)
  in_each F (y ∷ xs) x (suc k, below, is) there = Contains-append_right (F y) (EachOf xs F) named (in_each F xs x (k, omega arith, is) there)

  pub has_each_of : {X : Type 0} (xs : List X) (F : X → Listing) (P : X → List NamedLiteral → Type 0) → ((x : X) → Has (F x) (P x)) → Has (EachOf xs F) (λ n. (x : X) × Contains xs x × P x n)
  has_each_of xs F P each = ((λ there. let found = from_each F xs there in (found.0, found.1, (each found.0).0 found.2)), (λ is. in_each F xs is.0 is.1 ((each is.0).1 is.2)))

  in_range : (m e : ℕ) → e < m → Contains (range_with_len 0 m) e
  in_range m e h = (e, omega (arith, length-range_with_len 0 m), omega (arith, get_or-range_with_len 0 m e e h))

  from_range : (m e : ℕ) → Contains (range_with_len 0 m) e → e < m
  from_range m e (k, below, is) =
      let inside : k < m = omega (arith, length-range_with_len 0 m) in
      omega (arith, is, get_or-range_with_len 0 m k e inside)

  pub has_each : (k : ℕ) (F : ℕ → Listing) (P : ℕ → List NamedLiteral → Type 0) → ((i : ℕ) → Has (F i) (P i)) → Has (Each k F) (λ n. (i : ℕ) × (i < k) × P i n)
  has_each k F P each = (
    (λ there. let found = from_each F (range_with_len 0 k) there in (found.0, from_range k found.0 found.1, (each found.0).0 found.2)),
    (λ is. in_each F (range_with_len 0 k) is.0 (in_range k is.0 is.1) ((each is.0).1 is.2)),
  )

  pub has_when : (test : Bool) (F : Listing) (P : List NamedLiteral → Type 0) → Has F P → Has (When test F) (λ n. (test ≡ true) × P n)
  has_when true F P has = ((λ there. (refl, has.0 there)), (λ is. has.1 is.1))
  has_when false F P has = ((λ there. absurd (none there)), (λ is. let e = is.0 in cc))
    where
      none : Contains [] named → ⊥
      none (k, below, is) = omega arith

-- ---- a clause for each of a list

-- clauses that read one after another as those of a list are listed so
pub listed_from : {X : Type 0} (names : List (ℕ × Meaning)) (f : X → List NamedLiteral) (clauses : List Clause) (xs : List X) → AllZip (λ clause x. named_clause names clause ≡ Some (f x)) clauses xs → IsListed names (map f xs) clauses
listed_from names f [] [] all = refl
listed_from names f [] (x ∷ xs) all = absurd all
listed_from names f (c ∷ clauses) [] all = absurd all
listed_from names f (c ∷ clauses) (x ∷ xs) all =
    let here : named_clause names c ≡ Some (f x) = all.0 in
    let rest : IsListed names (map f xs) clauses = listed_from names f clauses xs all.1 in
    λ i. here i ∷ rest i

pub has_map : {X : Type 0} (named : List NamedLiteral) (f : X → List NamedLiteral) (xs : List X) → Has named (map f xs) (λ n. (x : X) × Contains xs x × (f x ≡ n))
has_map {X} named f xs = (to xs, λ is. back xs is.0 is.1 is.2)
  where
    to : (ys : List X) → Contains (map f ys) named → (x : X) × Contains ys x × (f x ≡ named)
    to [] (k, below, is) = absurd (omega arith)
    to (y ∷ ys) (zero, below, is) = (y, (0, omega arith, refl), is)
    to (y ∷ ys) (suc k, below, is) = let rest = to ys (k, omega arith, is) in (rest.0, (suc rest.1.0, omega (arith, rest.1.1), rest.1.2), rest.2)

    back : (ys : List X) (x : X) → Contains ys x → f x ≡ named → Contains (map f ys) named
    back [] x (k, below, is) same = absurd (omega arith)
    back (y ∷ ys) x (zero, below, is) same = (0, omega arith, ap f is ∙ same)
    back (y ∷ ys) x (suc k, below, is) same = let rest = back ys x (k, omega arith, is) same in (suc rest.0, omega (arith, rest.1), rest.2)
