-- The clauses of a formula, token by token.
use Rattle.std.proofs.Common.{◌≡◌, ℕ, Bool, true, false, List, [], ◌∷◌, ◌++◌, Option, None, Some, cond, refl, sym, ap, ◌∙◌, append_assoc, arith}
use Rattle.std.proofs.lemmas.Bool.{ne_eqb}
use Rattle.std.proofs.lemmas.Bool.Decides.{nat_tests}
use Rattle.std.specs.Prelude.{◌&&◌, ◌==◌, not, is_some, nat_le, nat_lt, option_map, option_and_then, unwrap_or}
use Rattle.prop_core.specs.declared.lit.Lit.{Lit}
use Rattle.prop_core.specs.Clauses.{Clause}
use Rattle.proof_text.specs.declared.number.ClauseItem.{ClauseItem}
use Rattle.proof_text.specs.declared.number.ClauseItem.TheVariants.{Literal, End}
use Rattle.proof_text.specs.SignedNumbers.{Signed, signed_of, plain, is_number, size_of, is_zero, literal, item, within, item_within}
use Rattle.proof_text.specs.TextFaults.{text_fault_or, not_a_number, unknown_variable, other_count}
use Rattle.proof_text.specs.CnfText.{LinedToken, lined, some_open, left_after, fault_of_tokens}
use Rattle.proof_text.specs.ClauseReading.{ended_by, open_after, spelled_clauses}

-- the clauses after an item, where these literals stand before it
abbrev taken : ClauseItem → Clause → List LinedToken → List Clause
taken e front later = ended_by e front ++ spelled_clauses (open_after e front) later

item_step : (is_within zero : Bool) (n : Signed) (l : Lit) (e : ClauseItem) (front : Clause) (later : List LinedToken) → Some e ≡ option_map (λ (m : Signed). cond zero End (Literal l)) (cond is_within (Some n) None)
    → taken e front later ≡ cond zero (front ∷ spelled_clauses [] later) (spelled_clauses (front ++ l ∷ []) later)
item_step false zero n l e front later h = cc
item_step true true n l e front later h = let k : e ≡ End = cc in ap (λ (x : ClauseItem). taken x front later) k
item_step true false n l e front later h = let k : e ≡ Literal l = cc in ap (λ (x : ClauseItem). taken x front later) k

item_again : (b : Bool) (m : Signed) → option_map item (cond b (Some m) None) ≡ option_map (λ (k : Signed). cond (m.size == 0) End (Literal (literal m))) (cond b (Some m) None)
item_again true m = refl
item_again false m = refl

number_step : (o : Option Signed) (vars : ℕ) (e : ClauseItem) (front : Clause) (later : List LinedToken) → Some e ≡ option_map item (option_and_then (within vars) o)
    → taken e front later ≡ cond (is_some o && (unwrap_or o (plain 0)).size == 0) (front ∷ spelled_clauses [] later) (spelled_clauses (front ++ literal (unwrap_or o (plain 0)) ∷ []) later)
number_step None vars e front later h = cc
number_step (Some n) vars e front later h = item_step (nat_le n.size vars) (n.size == 0) n (literal n) e front later (h ∙ item_again (nat_le n.size vars) n)

pub spelled_clauses-item : (text : List ℕ) (vars line : ℕ) (e : ClauseItem) (front : Clause) (later : List LinedToken) → Some e ≡ item_within vars text
    → ended_by e front ++ spelled_clauses (open_after e front) later ≡ spelled_clauses front (lined line text ∷ later)
spelled_clauses-item text vars line e front later h = number_step (signed_of text) vars e front later h

-- what an item adds to the clauses, and to the literals of the clause that goes on
pub clauses_after : (text : List ℕ) (vars line : ℕ) (e : ClauseItem) (front : Clause) (old new : List Clause) (behind : Clause) (later : List LinedToken) → Some e ≡ item_within vars text
    → new ≡ old ++ ended_by e front → behind ≡ open_after e front → new ++ spelled_clauses behind later ≡ old ++ spelled_clauses front (lined line text ∷ later)
clauses_after text vars line e front old new behind later h n b =
    ap (λ (l : List Clause). l ++ spelled_clauses behind later) n
    ∙ ap (λ (f : Clause). (old ++ ended_by e front) ++ spelled_clauses f later) b
    ∙ append_assoc old (ended_by e front) (spelled_clauses (open_after e front) later)
    ∙ ap (λ (l : List Clause). old ++ l) (spelled_clauses-item text vars line e front later h)

-- ---- no fault stands at a token that is an item

passes : (a b c : Bool) (x y z : ℕ) → a ≡ true → b ≡ false → c ≡ false → cond (not a) (Some x) (cond b (Some y) (cond c (Some z) None)) ≡ None
passes true false false x y z h k m = refl
passes true false true x y z h k m = cc
passes true true c x y z h k m = cc
passes false b c x y z h k m = cc

pub fault_of_tokens-well : (vars end left : ℕ) (is_open : Bool) (line : ℕ) (word : List ℕ) (later : List LinedToken) → is_number word ≡ true → nat_lt vars (size_of word) ≡ false → (not is_open && left == 0) ≡ false
    → fault_of_tokens vars end left is_open (lined line word ∷ later) ≡ fault_of_tokens vars end (left_after left is_open) (not (is_zero word)) later
fault_of_tokens-well vars end left is_open line word later number known begins =
    ap (λ code. text_fault_or line code (fault_of_tokens vars end (left_after left is_open) (not (is_zero word)) later))
    (passes (is_number word) (nat_lt vars (size_of word)) (not is_open && left == 0) not_a_number unknown_variable other_count number known begins)

open_longer : (front : Clause) (l : Lit) → some_open (front ++ l ∷ []) ≡ true
open_longer [] l = refl
open_longer (k ∷ front) l = refl

known_step : (is_within zero : Bool) (n : Signed) (l : Lit) (e : ClauseItem) (front : Clause) → Some e ≡ option_map (λ (m : Signed). cond zero End (Literal l)) (cond is_within (Some n) None)
    → (is_within ≡ true) × (not zero ≡ some_open (open_after e front))
known_step false zero n l e front h = cc
known_step true true n l e front h = let k : e ≡ End = cc in (refl, sym (ap (λ (x : ClauseItem). some_open (open_after x front)) k))
known_step true false n l e front h = let k : e ≡ Literal l = cc in (refl, sym (ap (λ (x : ClauseItem). some_open (open_after x front)) k ∙ open_longer front l))

-- It is a number with a known variable, and leaves a clause open exactly if it isn't 0.
item_known : (o : Option Signed) (vars : ℕ) (e : ClauseItem) (front : Clause) → Some e ≡ option_map item (option_and_then (within vars) o)
    → (is_some o ≡ true) × (nat_lt vars (unwrap_or o (plain 0)).size ≡ false) × (not (is_some o && (unwrap_or o (plain 0)).size == 0) ≡ some_open (open_after e front))
item_known None vars e front h = cc
item_known (Some n) vars e front h =
    let known = known_step (nat_le n.size vars) (n.size == 0) n (literal n) e front (h ∙ item_again (nat_le n.size vars) n) in
    (refl, not_above n.size vars known.0, known.1)
  where
    not_above : (size vars : ℕ) → nat_le size vars ≡ true → nat_lt vars size ≡ false
    not_above size vars h = grind (arith, nat_tests)

begins_or : (is_open : Bool) (left : ℕ) → (is_open ≡ false → left ≡ 0 → ⊥) → (not is_open && left == 0) ≡ false
begins_or true left begins = refl
begins_or false left begins = ne_eqb left 0 (begins refl)

pub faults_after : (text : List ℕ) (vars line end left : ℕ) (e : ClauseItem) (front : Clause) (vars_now left_now : ℕ) (front_now : Clause) (later : List LinedToken) → Some e ≡ item_within vars text → (some_open front ≡ false → left ≡ 0 → ⊥)
    → vars_now ≡ vars → left_now ≡ left_after left (some_open front) → front_now ≡ open_after e front
    → fault_of_tokens vars end left (some_open front) (lined line text ∷ later) ≡ fault_of_tokens vars_now end left_now (some_open front_now) later
faults_after text vars line end left e front vars_now left_now front_now later is begins same_vars same_left same_front =
    let known = item_known (signed_of text) vars e front is in
    rw (same_vars, same_left, same_front)
    (fault_of_tokens-well vars end left (some_open front) line text later known.0 known.1 (begins_or (some_open front) left begins) ∙ ap (λ is_open. fault_of_tokens vars end (left_after left (some_open front)) is_open later) known.2)
