-- Line by line: the network of the lines so far, and what is still to come.
use Rattle.std.proofs.Common.{◌≡◌, ℕ, List, [], ◌∷◌, ◌++◌, Option, None, Some, refl, ap, sym, ◌∙◌, subst, append_assoc, Err}
use Rattle.std.specs.List.{cons_option}
use Rattle.des_base.specs.CountedLines.{NumberedLine, tokens_of}
use Rattle.des_net.specs.Network.{Net}
use Rattle.des_net.specs.Building.{IsDraft}
use Rattle.model_text.specs.ModelLines.{ModelLine, model_line}
use Rattle.model_text.specs.ModelNetwork.{network_of_lines, model_lines}
use Rattle.model_text.specs.ModelFaults.{model_shape_code, with_shape, model_fault_or, first_model_code}
use Rattle.model_text.specs.declared.refusal.LineRefusal.{LineRefusal}
use Rattle.model_text.specs.declared.refusal.LineRefusal.TheVariants.{Shape, Homeless, Name, Double, Unknown, Limit, Memory}
use Rattle.model_text.specs.LineAdditions.{BuildsLines}
use Rattle.model_text.specs.Growth.{grown, grown_by_tokens}
use Rattle.model_text.specs.LineCodes.{code_by, code_by_tokens, IsCoded}
use Rattle.model_text.specs.Refusals.{line_refusal_at}
use Rattle.model_text.specs.GrowthLaw.{HasNames, Grows}
use Rattle.model_text.proofs.LawLemmas.{lines_grow}
use Rattle.model_text.proofs.HasNamesLemmas.{HasNames-grown}

-- the lines before the rest have no code, and the network is theirs
pub record IsReadTo (all rest : List NumberedLine) (net : Net) : Type 0 where
  pub earlier : List ModelLine
  pub network : net ≡ network_of_lines earlier
  pub lines : model_lines all ≡ earlier ++ model_lines rest
  pub codes : first_model_code [] all ≡ first_model_code earlier rest
  pub names : HasNames net

module _ (all rest : List NumberedLine) (line : NumberedLine) (net : Net) (so_far : IsReadTo all (line ∷ rest) net) (draft : IsDraft net) where
  draft_before : IsDraft (network_of_lines so_far.earlier)
  draft_before = subst IsDraft so_far.network draft

  names_before : HasNames (network_of_lines so_far.earlier)
  names_before = subst HasNames so_far.network so_far.names

  step : (said : Option ModelLine) (now : Net) → model_line (tokens_of line.text) ≡ said → grown_by_tokens net said ≡ Some now → IsReadTo all rest now
  step None now is h = cc
  step (Some shape) now is h =
      let added : grown (network_of_lines so_far.earlier) shape ≡ Some now = subst (λ (n : Net). grown n shape ≡ Some now) so_far.network h in
      let law : Grows so_far.earlier shape now = lines_grow.grows so_far.earlier shape now draft_before names_before added in
      record {
        earlier = so_far.earlier ++ shape ∷ [];
        network = sym law.network;
        lines = so_far.lines ∙ ap (λ ls. so_far.earlier ++ ls) shown ∙ sym (append_assoc so_far.earlier (shape ∷ []) (model_lines rest));
        codes = so_far.codes ∙ ap (λ said. model_fault_or line.number (model_shape_code so_far.earlier said) (first_model_code (with_shape so_far.earlier said) rest)) is
            ∙ ap (λ code. model_fault_or line.number code (first_model_code (so_far.earlier ++ shape ∷ []) rest)) law.well;
        names = HasNames-grown net shape now so_far.names h;
      }
    where
      shown : model_lines (line ∷ rest) ≡ shape ∷ model_lines rest
      shown = ap (λ said. cons_option said (model_lines rest)) is

  -- one more line was added
  pub IsReadTo-more : (now : Net) → grown_by_tokens net (model_line (tokens_of line.text)) ≡ Some now → IsReadTo all rest now
  IsReadTo-more now h = step (model_line (tokens_of line.text)) now refl h

  coded : (said : Option ModelLine) → model_shape_code so_far.earlier said ≡ code_by_tokens net said
  coded None = refl
  coded (Some shape) = lines_grow.coded so_far.earlier shape draft_before ∙ ap (λ (n : Net). code_by n shape) (sym so_far.network)

  -- the code of a line that adds nothing is the first
  found : (code : ℕ) → code_by_tokens net (model_line (tokens_of line.text)) ≡ Some code → first_model_code [] all ≡ Some (record { line = line.number; code = code })
  found code h =
      so_far.codes
      ∙ ap (λ c. model_fault_or line.number c (first_model_code (with_shape so_far.earlier (model_line (tokens_of line.text))) rest)) (coded (model_line (tokens_of line.text)) ∙ h)

  -- where a line is refused, all lines have this first code
  pub stopped : (r : LineRefusal) → IsCoded (code_by_tokens net (model_line (tokens_of line.text))) r → BuildsLines all (Err (line_refusal_at line.number r))
  stopped Shape h = found 2 h
  stopped Homeless h = found 7 h
  stopped Name h = found 3 h
  stopped Double h = found 4 h
  stopped Unknown h = found 5 h
  stopped Limit h = found 8 h
  stopped Memory h = tt
