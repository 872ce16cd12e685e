-- The lists of what pairs put before each number.
use Rattle.std.proofs.Common.{◌≡◌, ℕ, Bool, not, ◌||◌, List, ap, sym, ◌∙◌, Option}
use Rattle.log_order.specs.Precedence.{is_in, is_marked}
use Rattle.log_order.specs.Order.{first_below, is_held_back}
use Rattle.log_order.specs.Waiting.{AreBefore, is_held_back_in}

-- what lists hold back is held back by pairs
pub is_held_back_in-is : (pairs : List (ℕ × ℕ)) (lists : List (List ℕ)) (taken : ℕ → Bool) → AreBefore pairs lists → (i : ℕ) → is_held_back_in lists taken i ≡ is_held_back taken pairs i
is_held_back_in-is pairs lists taken h i = ap (λ t. taken i || t) (h taken i)

-- the smallest number that isn't held back is taken next
pub next-is_held_back_in : (m : ℕ) (pairs : List (ℕ × ℕ)) (lists : List (List ℕ)) (order : List ℕ) (taken : List Bool) (o : Option ℕ) → AreBefore pairs lists → ((i : ℕ) → is_marked taken i ≡ is_in order i)
    → first_below m (λ i. not (is_held_back_in lists (is_marked taken) i)) ≡ o → first_below m (λ i. not (is_held_back (is_in order) pairs i)) ≡ o
next-is_held_back_in m pairs lists order taken o h t e =
    let tests : is_marked taken ≡ is_in order = λ k i. t i k in
    let all : (i : ℕ) → is_held_back_in lists (is_marked taken) i ≡ is_held_back (is_in order) pairs i = λ i. is_held_back_in-is pairs lists (is_marked taken) h i ∙ ap (λ test. is_held_back test pairs i) tests in
    let same : first_below m (λ i. not (is_held_back_in lists (is_marked taken) i)) ≡ first_below m (λ i. not (is_held_back (is_in order) pairs i)) = λ k. first_below m (λ i. not (all i k)) in
    sym same ∙ e

-- the same as code reads it
pub first-is_held_back_in : (n m : ℕ) (pairs : List (ℕ × ℕ)) (lists : List (List ℕ)) (order : List ℕ) (taken read : List Bool) (o : Option ℕ) → n ≡ m → read ≡ taken → AreBefore pairs lists → ((i : ℕ) → is_marked taken i ≡ is_in order i)
    → first_below n (λ i. not (is_held_back_in lists (is_marked read) i)) ≡ o → first_below m (λ i. not (is_held_back (is_in order) pairs i)) ≡ o
first-is_held_back_in n m pairs lists order taken read o e f h t g =
    next-is_held_back_in m pairs lists order taken o h t (ap (λ k. first_below k (λ i. not (is_held_back_in lists (is_marked taken) i))) (sym e) ∙ ap (λ ms. first_below n (λ i. not (is_held_back_in lists (is_marked ms) i))) (sym f) ∙ g)
