-- Clauses by places: their numbers in a list that grows.
use Rattle.std.proofs.Common.{◌≡◌, ◌∙◌, ℕ, zero, suc, ◌+◌, ◌≤◌, ◌<◌, ◌==◌, ◌++◌, Bool, true, false, ◌∷◌, [], List, refl, ap, sym, length, arith, map, take, get_or, cond, Some, None, slice_get}
use Rattle.std.proofs.Math.ListN.{get_or-map}
use Rattle.std.proofs.lemmas.Grind.{common_steps}
use Rattle.std.proofs.lemmas.List.{map-append, map_more}
use Rattle.std.proofs.lemmas.Option.{slice_get-get_or}
use Rattle.prop_core.specs.Clauses.{Clause}
use Rattle.prop_core.specs.Derivation.{clause_numbered}
use Rattle.proof_ledger.specs.ClauseNumbers.{AreNumbersOf, KeepsNumbers}
use Rattle.proof_ledger.proofs.Checks.{numbered-suc}

-- a place without a number has no clause
clause_at : (cs : List Clause) (numbers : List ℕ) (place : ℕ) → clause_numbered cs (get_or numbers place 0) ≡ get_or (map (clause_numbered cs) numbers) place None
clause_at cs numbers place = sym (get_or-map (clause_numbered cs) numbers place 0)

-- ---- one more clause

get-front : (cs : List Clause) (c : Clause) (j : ℕ) → j < length cs → slice_get (cs ++ c ∷ []) j ≡ slice_get cs j
get-front [] c j h = absurd (omega arith)
get-front (d ∷ cs) c zero h = refl
get-front (d ∷ cs) c (suc j) h = get-front cs c j (omega arith)

longer : (cs : List Clause) (c : Clause) → length (cs ++ c ∷ []) ≡ length cs + 1
longer cs c = grind (arith, common_steps)

keeps-push : (cs : List Clause) (c : Clause) → KeepsNumbers cs (cs ++ c ∷ [])
keeps-push cs c = record { same = same; more = omega (arith, longer cs c) }
  where
    same : (number : ℕ) → number ≤ length cs → clause_numbered (cs ++ c ∷ []) number ≡ clause_numbered cs number
    same zero h = refl
    same (suc j) h = numbered-suc (cs ++ c ∷ []) j ∙ get-front cs c j (omega arith) ∙ sym (numbered-suc cs j)

last_number : (cs : List Clause) (c : Clause) (n : ℕ) → n ≡ length (cs ++ c ∷ []) → clause_numbered (cs ++ c ∷ []) n ≡ Some c
last_number cs c n e =
    let m : n ≡ suc (length cs) = omega (arith, e, longer cs c) in
    let h : length cs < length (cs ++ c ∷ []) = omega (arith, longer cs c) in
    let q : get_or (cs ++ c ∷ []) (length cs) [] ≡ c = grind (arith, common_steps) in
    ap (clause_numbered (cs ++ c ∷ [])) m ∙ numbered-suc (cs ++ c ∷ []) (length cs) ∙ slice_get-get_or (cs ++ c ∷ []) (length cs) [] h ∙ ap Some q

-- ---- what is at the places

map-keeps : (before after : List Clause) (numbers : List ℕ) → KeepsNumbers before after → AreNumbersOf before numbers → map (clause_numbered after) numbers ≡ map (clause_numbered before) numbers
map-keeps before after [] keeps all = refl
map-keeps before after (n ∷ numbers) keeps all =
    ap (λ o. o ∷ map (clause_numbered after) numbers) (keeps.same n (all 0)) ∙ ap (λ os. clause_numbered before n ∷ os) (map-keeps before after numbers keeps (λ k. all (suc k)))

numbers-append : (numbers : List ℕ) (number bound : ℕ) → ((k : ℕ) → get_or numbers k 0 ≤ bound) → number ≤ bound → (k : ℕ) → get_or (numbers ++ number ∷ []) k 0 ≤ bound
numbers-append [] number bound all h zero = h
numbers-append [] number bound all h (suc k) = omega arith
numbers-append (n ∷ numbers) number bound all h zero = all 0
numbers-append (n ∷ numbers) number bound all h (suc k) = numbers-append numbers number bound (λ j. all (suc j)) h k

-- one more clause is copied
pub packed_more : (clauses packed more : List Clause) (numbers places : List ℕ) (i moved : ℕ) → i < length numbers → KeepsNumbers packed more → AreNumbersOf packed places
    → map (clause_numbered packed) places ≡ map (clause_numbered clauses) (take i numbers) → clause_numbered more moved ≡ clause_numbered clauses (get_or numbers i 0)
    → map (clause_numbered more) (places ++ moved ∷ []) ≡ map (clause_numbered clauses) (take (i + 1) numbers)
packed_more clauses packed more numbers places i moved h keeps all same is =
    map-append (clause_numbered more) places (moved ∷ [])
    ∙ ap (λ os. os ++ clause_numbered more moved ∷ []) (map-keeps packed more places keeps all ∙ same)
    ∙ ap (λ o. map (clause_numbered clauses) (take i numbers) ++ o ∷ []) is
    ∙ sym (map_more (clause_numbered clauses) numbers i 0 h)

pub numbers_more : (packed more : List Clause) (places : List ℕ) (moved : ℕ) → KeepsNumbers packed more → AreNumbersOf packed places → moved ≤ length more → AreNumbersOf more (places ++ moved ∷ [])
numbers_more packed more places moved keeps all h = numbers-append places moved (length more) (λ k. omega (arith, all k, keeps.more)) h

-- where numbers are the same by place, so are their clauses
pub same_at : (cs : List Clause) (old grown : List ℕ) → ((k : ℕ) → get_or grown k 0 ≡ get_or old k 0) → (k : ℕ) → get_or (map (clause_numbered cs) grown) k None ≡ get_or (map (clause_numbered cs) old) k None
same_at cs old grown same k = sym (clause_at cs grown k) ∙ ap (clause_numbered cs) (same k) ∙ clause_at cs old k

-- a place has a clause that is added
pub set_at : (cs : List Clause) (c : Clause) (old grown new : List ℕ) (place number : ℕ) → AreNumbersOf cs old → ((k : ℕ) → get_or grown k 0 ≡ get_or old k 0) → number ≡ length (cs ++ c ∷ [])
    → ((k : ℕ) → get_or new k 0 ≡ cond (k == place) number (get_or grown k 0))
    → (k : ℕ) → get_or (map (clause_numbered (cs ++ c ∷ [])) new) k None ≡ cond (k == place) (Some c) (get_or (map (clause_numbered cs) old) k None)
set_at cs c old grown new place number all same last is k = sym (clause_at (cs ++ c ∷ []) new k) ∙ ap (clause_numbered (cs ++ c ∷ [])) (is k) ∙ by (k == place)
  where
    by : (b : Bool) → clause_numbered (cs ++ c ∷ []) (cond b number (get_or grown k 0)) ≡ cond b (Some c) (get_or (map (clause_numbered cs) old) k None)
    by true = last_number cs c number last
    by false = ap (clause_numbered (cs ++ c ∷ [])) (same k) ∙ (keeps-push cs c).same (get_or old k 0) (all k) ∙ clause_at cs old k
