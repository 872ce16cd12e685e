-- Line by line: the table of the lines so far, and what is still to come.
use Rattle.std.proofs.Common.{◌≡◌, ◌≢◌, ◌∙◌, ◌⊎◌, inl, inr, ℕ, ◌<◌, true, false, List, [], ◌∷◌, ◌++◌, length, Option, None, Some, sym, ap, subst, append_assoc, set}
use Rattle.std.specs.Option.{option_or, option_to_list}
use Rattle.std.specs.List.{cons_option}
use Rattle.std.proofs.lemmas.Bool.{cases_eq}
use Rattle.std.proofs.lemmas.List.{length-set}
use Rattle.des_base.specs.CountedLines.{NumberedLine, tokens_of}
use Rattle.des_net.specs.Network.{Net, is_fault}
use Rattle.event_costs.specs.declared.fault.CostFault.{CostFault}
use Rattle.event_costs.specs.declared.table.Price.{Price}
use Rattle.event_costs.specs.CostText.{cost_line, line_price, cost_fault_or, first_cost_code, prices_of, given_to}
use Rattle.event_costs.specs.Reading.{IsPriceTable, GivesPrice, HasCode}
use Rattle.event_costs.proofs.TableLemmas.{given_push, other, holds_more}
use Rattle.des_base.proofs.BoolLemmas.{clash}

-- the lines before the rest have no code, and the table has what they give, to fault events alone
pub record IsReadTo (net : Net) (all rest : List NumberedLine) (table : List (Option ℕ)) : Type 0 where
  pub earlier : List Price
  pub long : length table ≡ length net.events
  pub holds : IsPriceTable earlier table
  pub lines : prices_of net all ≡ earlier ++ prices_of net rest
  pub codes : first_cost_code net [] all ≡ first_cost_code net earlier rest
  pub faults : (e : ℕ) → is_fault net e ≡ false → given_to earlier e ≡ None

module _ (net : Net) (all rest : List NumberedLine) (line : NumberedLine) (table : List (Option ℕ)) (so_far : IsReadTo net all (line ∷ rest) table) where
  -- one more line
  pub read_more : (price : Price) → GivesPrice net table (cost_line (tokens_of line.text)) price → IsReadTo net all rest (set table price.event (Some price.cost))
  read_more price gives = record {
    earlier = so_far.earlier ++ price ∷ [];
    long = length-set table price.event (Some price.cost) ∙ so_far.long;
    holds = holds_more so_far.earlier table price so_far.holds (subst (λ n. price.event < n) (sym so_far.long) gives.within) gives.free;
    lines = so_far.lines ∙ ap (λ o. so_far.earlier ++ cons_option o (prices_of net rest)) gives.said ∙ sym (append_assoc so_far.earlier (price ∷ []) (prices_of net rest));
    codes = so_far.codes
        ∙ ap (λ code. cost_fault_or line.number code (first_cost_code net (so_far.earlier ++ option_to_list (line_price net (cost_line (tokens_of line.text)))) rest)) (gives.well so_far.earlier so_far.holds)
        ∙ ap (λ (o : Option Price). first_cost_code net (so_far.earlier ++ option_to_list o) rest) gives.said;
    faults = λ e none. by e none (cases_eq price.event e);
  }
    where
      by : (e : ℕ) → is_fault net e ≡ false → (price.event ≡ e) ⊎ (price.event ≢ e) → given_to (so_far.earlier ++ price ∷ []) e ≡ None
      by e none (inl same) = absurd (clash (is_fault net e) (subst (λ k. is_fault net k ≡ true) same gives.fault) none)
      by e none (inr apart) = given_push so_far.earlier price e ∙ ap (λ o. option_or o (given_to (price ∷ []) e)) (so_far.faults e none) ∙ other price e apart

  -- a line with a code is the first such
  pub read_fault : (fault : CostFault) → HasCode net table line.number (cost_line (tokens_of line.text)) fault → first_cost_code net [] all ≡ Some fault
  read_fault fault has =
      so_far.codes
      ∙ ap (λ code. cost_fault_or line.number code (first_cost_code net (so_far.earlier ++ option_to_list (line_price net (cost_line (tokens_of line.text)))) rest)) (has.code_is so_far.earlier so_far.holds)
      ∙ ap (λ n. Some (record { line = n; code = fault.code })) (sym has.line_is)
