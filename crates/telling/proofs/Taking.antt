-- What a sink took, and then took further.
use Rattle.std.proofs.Common.{◌≡◌, ◌≤◌, ◌∙◌, ℕ, List, [], ◌∷◌, ◌++◌, Option, Some, None, IfSome, refl, sym, ap, append-nil, append_assoc, arith, option_map}
use Rattle.std.specs.List.{concat}
use Rattle.std.proofs.lemmas.List.Folds.{concat-append}
use Rattle.des_base.specs.Outside.{Output, Rose, Took, TookFront, counted, raised}
use Rattle.telling.specs.Telling.{TookCut}

-- ---- its bytes

no_bytes : (t : Option (List ℕ)) → IfSome t (λ b. t ≡ Some (b ++ concat []))
no_bytes None = tt
no_bytes (Some b) = ap Some (sym (append-nil b))

more_bytes : (before mid now : Option (List ℕ)) (texts others : List (List ℕ)) → IfSome before (λ b. mid ≡ Some (b ++ concat texts)) → IfSome mid (λ b. now ≡ Some (b ++ concat others)) → IfSome before (λ b. now ≡ Some (b ++ concat (texts ++ others)))
more_bytes None mid now texts others first then = tt
more_bytes (Some b) None now texts others first then = cc
more_bytes (Some b) (Some m) now texts others first then =
    let is : m ≡ b ++ concat texts = cc in
    then ∙ ap (λ (front : List ℕ). Some (front ++ concat others)) is ∙ ap Some (append_assoc b (concat texts) (concat others) ∙ ap (λ (xs : List ℕ). b ++ xs) (sym (concat-append texts others)))

-- ---- its puts

more_puts : (puts : Option ℕ) (texts others : List (List ℕ)) → counted (counted puts texts) others ≡ counted puts (texts ++ others)
more_puts puts [] others = refl
more_puts puts (text ∷ texts) others = more_puts (option_map raised puts) texts others

-- ---- both

-- nothing
pub nothing_taken : (t : Output) → Took t t []
nothing_taken t = record { bytes = no_bytes t.bytes; puts = refl }

-- some texts, and then others
pub took_texts : (before mid now : Output) (texts others : List (List ℕ)) → Took before mid texts → Took mid now others → Took before now (texts ++ others)
took_texts before mid now texts others first then = record {
  bytes = more_bytes before.bytes mid.bytes now.bytes texts others first.bytes then.bytes;
  puts = then.puts ∙ ap (λ (puts : Option ℕ). counted puts others) first.puts ∙ more_puts before.puts texts others;
}

-- one text of which a front is taken
pub cut_first : (before now : Output) (text : List ℕ) → TookFront before now text → TookCut (text ∷ []) before now
cut_first before now text front = record { earlier = []; last = text; mid = before; are = refl; whole = nothing_taken before; front = front }

-- some texts, and then others of which the last is cut
pub took_cut : (before mid now : Output) (texts others : List (List ℕ)) → Took before mid texts → TookCut others mid now → TookCut (texts ++ others) before now
took_cut before mid now texts others first then = record {
  earlier = texts ++ then.earlier;
  last = then.last;
  mid = then.mid;
  are = ap (λ (ts : List (List ℕ)). texts ++ ts) then.are ∙ sym (append_assoc texts then.earlier (then.last ∷ []));
  whole = took_texts before mid then.mid texts then.earlier first then.whole;
  front = then.front;
}

-- a count that rose later rose
pub rose_later : (start mid now : ℕ) → start ≤ mid → Rose mid now → Rose start now
rose_later start mid now later rose = omega (arith, later, rose)
