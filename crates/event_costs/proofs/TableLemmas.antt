-- A table of costs, one price further.
use Rattle.std.proofs.Common.{◌≡◌, ◌≢◌, ◌∙◌, ◌⊎◌, inl, inr, ℕ, ◌<◌, ◌==◌, Bool, true, false, List, [], ◌∷◌, ◌++◌, length, Option, None, Some, refl, sym, ap, subst, option_map, find, cond, get_or, set}
use Rattle.std.specs.Option.{option_or}
use Rattle.std.proofs.lemmas.Bool.{cases_eq}
use Rattle.std.proofs.lemmas.Bool.Decides.{eqb_tells}
use Rattle.std.proofs.lemmas.List.{get_or-set_same, get_or-set_other}
use Rattle.std.proofs.lemmas.List.Folds.{find-append}
use Rattle.event_costs.specs.declared.table.Price.{Price}
use Rattle.event_costs.specs.CostText.{given_to}
use Rattle.event_costs.specs.Prices.{given_at}
use Rattle.event_costs.specs.Reading.{IsPriceTable}

either : (o p : Option Price) → option_map (λ (x : Price). x.cost) (option_or o p) ≡ option_or (option_map (λ (x : Price). x.cost) o) (option_map (λ (x : Price). x.cost) p)
either None p = refl
either (Some x) p = refl

-- a price behind others gives where these don't
pub given_push : (prices : List Price) (price : Price) (e : ℕ) → given_to (prices ++ price ∷ []) e ≡ option_or (given_to prices e) (given_to (price ∷ []) e)
given_push prices price e =
    ap (option_map (λ (x : Price). x.cost)) (find-append (λ (x : Price). x.event == e) prices (price ∷ []))
    ∙ either (find (λ (x : Price). x.event == e) prices) (find (λ (x : Price). x.event == e) (price ∷ []))

own : (price : Price) → given_to (price ∷ []) price.event ≡ Some price.cost
own price = by (price.event == price.event) (eqb_tells price.event price.event)
  where
    by : (b : Bool) → ((b ≡ true) × (price.event ≡ price.event)) ⊎ ((b ≡ false) × (price.event ≡ price.event → ⊥)) → option_map (λ (x : Price). x.cost) (cond b (Some price) None) ≡ Some price.cost
    by true told = refl
    by false (inl (t, e)) = cc
    by false (inr (f, e)) = absurd (e refl)

pub other : (price : Price) (e : ℕ) → price.event ≢ e → given_to (price ∷ []) e ≡ None
other price e apart = by (price.event == e) (eqb_tells price.event e)
  where
    by : (b : Bool) → ((b ≡ true) × (price.event ≡ e)) ⊎ ((b ≡ false) × (price.event ≡ e → ⊥)) → option_map (λ (x : Price). x.cost) (cond b (Some price) None) ≡ None
    by true (inl (t, is)) = absurd (apart is)
    by true (inr (f, is)) = cc
    by false told = refl

or_none : (o : Option ℕ) → option_or o None ≡ o
or_none None = refl
or_none (Some x) = refl

pub holds_more : (earlier : List Price) (table : List (Option ℕ)) (price : Price) → IsPriceTable earlier table → price.event < length table → given_at table price.event ≡ None → IsPriceTable (earlier ++ price ∷ []) (set table price.event (Some price.cost))
holds_more earlier table price holds within free e = by (cases_eq e price.event)
  where
    by : (e ≡ price.event) ⊎ (e ≢ price.event) → get_or (set table price.event (Some price.cost)) e None ≡ given_to (earlier ++ price ∷ []) e
    by (inl same) = subst (λ k. get_or (set table price.event (Some price.cost)) k None ≡ given_to (earlier ++ price ∷ []) k) (sym same)
        (get_or-set_same table price.event (Some price.cost) None within
        ∙ sym (given_push earlier price price.event ∙ ap (λ o. option_or o (given_to (price ∷ []) price.event)) (sym (holds price.event) ∙ free) ∙ own price))
    by (inr apart) =
        get_or-set_other table price.event e (Some price.cost) None apart
        ∙ holds e
        ∙ sym (given_push earlier price e ∙ ap (λ o. option_or (given_to earlier e) o) (other price e (λ is. apart (sym is))) ∙ or_none (given_to earlier e))
