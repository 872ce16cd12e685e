-- What is due where the program answers as it does.
use Rattle.std.proofs.Common.{◌≡◌, ◌≢◌, ℕ, ◌≤◌, List, length, Result, Ok, Err, refl, sym, ap, ◌∙◌, subst, inl, inr}
use Rattle.std.specs.Prelude.{IfOk}
use Rattle.des_base.specs.CommandWords.{word_at}
use Rattle.des_net.specs.Network.{Net}
use Rattle.model_text.specs.ModelFaults.{first_model_fault, network_of}
use Rattle.model_text.specs.PrintedModel.{model_text}
use Rattle.model_text.specs.ReadBack.{IsAsRead, ModelsReadBack, ReadsBack}
use Rattle.refinement.specs.Refinement.{IsRefinementOf}
use Rattle.refinement.proofs.RefinementLemmas.{refines_itself}
use Rattle.endings.specs.declared.ending.Kind.{Kind}
use Rattle.endings.specs.declared.ending.Kind.TheVariants.{Done}
use Rattle.endings.specs.declared.stop.Stop.{Stop}
use Rattle.endings.specs.declared.stop.Stop.TheVariants.{Usage, Load, Faulty, Long, NoFault, Large, Memory}
use Rattle.endings.specs.Files.{Loads, StopsIn}
use Rattle.endings.specs.Texts.{fault_of_model, limit_of, model}
use Rattle.endings.specs.Transcripts.{cut_short, once}
use Rattle.endings.proofs.Reading.{none_before}
use Rattle.refine_cli.specs.Due.{IsCall, IsDue, MayEnd, MayStop, ReadsModel, SaysRefined}

-- the text of a finer network says it
pub says_fine : (net fine : Net) (reply : Kind × List ℕ) (text : List ℕ) → reply ≡ (Done, text) → text ≡ model_text fine → ReadsBack fine → IsRefinementOf fine net → length text ≤ limit_of model → SaysRefined net reply
says_fine net fine reply text is printed back refines fits =
    let said : reply.1 ≡ text = ap (λ (r : Kind × List ℕ). r.1) is in
    record {
      done = ap (λ (r : Kind × List ℕ). r.0) is;
      well = ap first_model_fault (said ∙ printed) ∙ back.well;
      refines = subst (λ n. IsRefinementOf n net) (sym (ap network_of (said ∙ printed) ∙ back.network)) refines;
      fits = inl (subst (λ t. length t ≤ limit_of model) (sym said) fits);
    }

-- and so does the network's own text
pub says_itself : (net : Net) (reply : Kind × List ℕ) (text : List ℕ) → reply ≡ (Done, text) → text ≡ model_text net → ReadsBack net → SaysRefined net reply
says_itself net reply text is printed back =
    let said : reply.1 ≡ text = ap (λ (r : Kind × List ℕ). r.1) is in
    record {
      done = ap (λ (r : Kind × List ℕ). r.0) is;
      well = ap first_model_fault (said ∙ printed) ∙ back.well;
      refines = subst (λ n. IsRefinementOf n net) (sym (ap network_of (said ∙ printed) ∙ back.network)) (refines_itself net);
      fits = inr (said ∙ printed);
    }

-- a reply over the model that was read
pub reply_due : (l : Loads) (words : List (List ℕ)) (net : Net) (reply : Kind × List ℕ) → IsCall words → ReadsModel l words (λ text. net ≡ network_of text) → ModelsReadBack
    → (IsAsRead net → SaysRefined net reply) → IsDue l words (Ok reply)
reply_due l words net reply called (text, is_text, is) law says =
    let well = none_before _ (first_model_fault text) is_text.well in
    (called, (text, is_text, subst (λ n. SaysRefined n reply) is (says (subst IsAsRead (sym is) (law.order text well)))))

-- a stop of a file
pub stop_due : (l : Loads) (words : List (List ℕ)) (stop : Stop) → IsCall words → (stop ≢ Memory → StopsIn l 1 (word_at words 1) (limit_of model) fault_of_model stop) → MayStop l words stop
stop_due l words Usage called why = impossible (why (λ e. cc))
  where
    impossible : StopsIn l 1 (word_at words 1) (limit_of model) fault_of_model Usage → length words ≢ 2
    impossible (inl h) = absurd h
    impossible (inr h) = absurd (let e = h.told in cc)
stop_due l words (Load file) called why = (called, why (λ e. cc))
stop_due l words (Faulty text) called why = (called, why (λ e. cc))
stop_due l words (Long file) called why = (called, why (λ e. cc))
stop_due l words NoFault called why = impossible (why (λ e. cc))
  where
    impossible : StopsIn l 1 (word_at words 1) (limit_of model) fault_of_model NoFault → ⊥
    impossible (inl h) = h
    impossible (inr h) = let e = h.told in cc
stop_due l words (Large size) called why = impossible (why (λ e. cc))
  where
    impossible : StopsIn l 1 (word_at words 1) (limit_of model) fault_of_model (Large size) → ⊥
    impossible (inl h) = h
    impossible (inr h) = let e = h.told in cc
stop_due l words Memory called why = tt

-- what is due may be said, whole
pub due_whole : (l : Loads) (words : List (List ℕ)) (r : Result (Kind × List ℕ) Stop) → IsDue l words r → MayEnd l words (once r)
due_whole l words (Ok reply) (called, (text, is_text, says)) = (called, (text, is_text, record { reply = reply; says = says; alone = refl; ends = refl }))
due_whole l words (Err stop) due = due

-- or cut short
pub due_cut : (l : Loads) (words : List (List ℕ)) (r : Result (Kind × List ℕ) Stop) → IsDue l words r → IfOk r (λ reply. MayEnd l words (Ok (cut_short reply)))
due_cut l words (Ok reply) (called, (text, is_text, says)) = (called, (text, is_text, record { reply = reply; says = says; alone = refl; ends = tt }))
due_cut l words (Err stop) due = tt
