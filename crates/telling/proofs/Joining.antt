-- Some items were told, and then further ones.
use Rattle.std.proofs.Common.{◌≡◌, ◌∙◌, ℕ, List, [], ◌∷◌, ◌++◌, Option, Some, Result, Ok, Err, IsErrAnd, refl, sym, ap, subst, append-nil, append_assoc}
use Rattle.std.specs.Option.{option_to_list}
use Rattle.des_base.specs.Outside.{Output, Took, TookFront}
use Rattle.telling.specs.Telling.{ComesTo, EachGoes, TellsEach}
use Rattle.telling.specs.declared.each.Broken.{Broken}
use Rattle.telling.specs.declared.each.Broken.TheVariants.{Memory, Put}
use Rattle.telling.proofs.Taking.{cut_first, nothing_taken, took_cut, took_texts}

-- one item leads from stage to stage
pub tells_one : {S I : Type 0} (goes : S → I → S → Option (List ℕ) → Type 0) (s : S) (item : I) (t : S) (text : Option (List ℕ)) → goes s item t text → TellsEach goes s (item ∷ []) t (option_to_list text)
tells_one goes s item t text here = (t, text, [], here, (refl, refl), sym (append-nil (option_to_list text)))

pub tells_more : {S I : Type 0} (goes : S → I → S → Option (List ℕ) → Type 0) (s m t : S) (items more : List I) (texts others : List (List ℕ)) → TellsEach goes s items m texts → TellsEach goes m more t others
    → TellsEach goes s (items ++ more) t (texts ++ others)
tells_more goes s m t [] more texts others first then =
    subst (λ (ts : List (List ℕ)). TellsEach goes s more t (ts ++ others)) (sym first.1) (subst (λ (x : _). TellsEach goes x more t others) first.0 then)
tells_more goes s m t (item ∷ items) more texts others (mid, text, rest, here, further, are) then =
    (mid, text, rest ++ others, here, tells_more goes mid m t items more rest others further then, ap (λ (ts : List (List ℕ)). ts ++ others) are ∙ append_assoc (option_to_list text) rest others)

-- it came to one of the further items, and others are behind them
split_more : {I : Type 0} (items more front others behind : List I) (item : I) → more ≡ front ++ (item ∷ others) → (items ++ more) ++ behind ≡ (items ++ front) ++ (item ∷ (others ++ behind))
split_more items more front others behind item split =
    ap (λ (is : List _). (items ++ is) ++ behind) split
    ∙ append_assoc items (front ++ (item ∷ others)) behind
    ∙ ap (λ (is : List _). items ++ is) (append_assoc front (item ∷ others) behind)
    ∙ sym (append_assoc items front (item ∷ (others ++ behind)))

comes_more : {S I : Type 0} (goes : S → I → S → Option (List ℕ) → Type 0) (s m t : S) (items more behind : List I) (item : I) (texts others : List (List ℕ)) → TellsEach goes s items m texts → ComesTo goes m more item t others
    → ComesTo goes s ((items ++ more) ++ behind) item t (texts ++ others)
comes_more goes s m t items more behind item texts others first then = record {
  front = items ++ then.front;
  others = then.others ++ behind;
  split = split_more items more then.front then.others behind item then.split;
  told = tells_more goes s m t items then.front texts others first then.told;
}

module _ {S I : Type 0} (goes : S → I → S → Option (List ℕ) → Type 0) (undone : S → I → S → Type 0) where
  pub nothing_told : (s : S) (taken : Output) (rose : Type 0) → EachGoes goes undone s [] s taken taken rose (Ok tt)
  nothing_told s taken rose = record { texts = []; says = (refl, refl); put = nothing_taken taken }

  module _ (s m t : S) (items more : List I) (before mid now : Output) (rose later all : Type 0) (so_far : EachGoes goes undone s items m before mid rose (Ok tt)) where
    -- all of them
    pub told_more : (done : Unit {0}) → EachGoes goes undone m more t mid now later (Ok done) → EachGoes goes undone s (items ++ more) t before now all (Ok tt)
    told_more done then = record {
      texts = so_far.texts ++ then.texts;
      says = tells_more goes s m t items more so_far.texts then.texts so_far.says then.says;
      put = took_texts before mid now so_far.texts then.texts so_far.put then.put;
    }

    -- or it ended before
    ends_more : (behind : List I) (e : Broken) → (later → all) → EachGoes goes undone m more t mid now later (Err e) → EachGoes goes undone s ((items ++ more) ++ behind) t before now all (Err e)
    ends_more behind Memory rises then = record {
      texts = so_far.texts ++ then.texts;
      says = record {
        item = then.says.item;
        mid = then.says.mid;
        comes = comes_more goes s m then.says.mid items more behind then.says.item so_far.texts then.texts so_far.says then.says.comes;
        untold = then.says.untold;
      };
      put = took_texts before mid now so_far.texts then.texts so_far.put then.put;
    }
    ends_more behind Put rises then = record {
      texts = so_far.texts ++ then.texts;
      says = record {
        item = then.says.item;
        mid = then.says.mid;
        earlier = so_far.texts ++ then.says.earlier;
        last = then.says.last;
        comes = comes_more goes s m then.says.mid items more behind then.says.item so_far.texts then.says.earlier so_far.says then.says.comes;
        told = then.says.told;
        are = ap (λ (ts : List (List ℕ)). so_far.texts ++ ts) then.says.are ∙ sym (append_assoc so_far.texts then.says.earlier (then.says.last ∷ []));
      };
      put = (rises then.put.0, took_cut before mid now so_far.texts then.texts so_far.put then.put.1);
    }

    pub broken_off : (behind : List I) (e : Broken) (r : Result (Unit {0}) Broken) → IsErrAnd r (λ x. x ≡ e) → (later → all) → EachGoes goes undone m more t mid now later (Err e) → EachGoes goes undone s ((items ++ more) ++ behind) t before now all r
    broken_off behind e (Ok done) is rises then = absurd is
    broken_off behind e (Err x) is rises then =
        subst (λ (y : Broken). EachGoes goes undone s ((items ++ more) ++ behind) t before now all (Err y)) (sym is) (ends_more behind e rises then)

-- ---- one item

module _ {S I : Type 0} (goes : S → I → S → Option (List ℕ) → Type 0) (undone : S → I → S → Type 0) (s : S) (item : I) (t : S) where
  pub put_whole : (text : List ℕ) (before now : Output) (rose : Type 0) → goes s item t (Some text) → Took before now (text ∷ []) → EachGoes goes undone s (item ∷ []) t before now rose (Ok tt)
  put_whole text before now rose told put = record { texts = text ∷ []; says = tells_one goes s item t (Some text) told; put = put }

  -- it is the one that was come to
  comes_to_it : ComesTo goes s (item ∷ []) item s []
  comes_to_it = record { front = []; others = []; split = refl; told = (refl, refl) }

  pub put_cut : (text : List ℕ) (before now : Output) (rose : Type 0) → goes s item t (Some text) → TookFront before now text → rose → EachGoes goes undone s (item ∷ []) t before now rose (Err Put)
  put_cut text before now rose told front failed = record {
    texts = text ∷ [];
    says = record { item = item; mid = s; earlier = []; last = text; comes = comes_to_it; told = told; are = refl };
    put = (failed, cut_first before now text front);
  }

  pub put_lost : (taken : Output) (rose : Type 0) → undone s item t → EachGoes goes undone s (item ∷ []) t taken taken rose (Err Memory)
  put_lost taken rose untold = record { texts = []; says = record { item = item; mid = s; comes = comes_to_it; untold = untold }; put = nothing_taken taken }
