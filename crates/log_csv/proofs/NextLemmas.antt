-- The records of a text, one after another: each takes a byte, so that there are no more records than bytes.
use Rattle.std.proofs.Common.{◌≡◌, ◌+◌, ◌-◌, ◌<◌, ◌≤◌, ℕ, zero, suc, Bool, true, false, cond, ◌||◌, List, [], ◌∷◌, ◌++◌, length, Option, Some, None, refl, arith, ap, sym, ◌∙◌, add-one, inl}
use Rattle.std.specs.Prelude.{◌==◌, ◌&&◌}
use Rattle.std.specs.Borrow.{Bor}
use Rattle.csv.specs.Machine.{Read, ends_at_end, field_after, fields_after, is_end, next_record, step}
use Rattle.csv.specs.Reading.{NextIs, ReadRecord, ReadsNext, default_config, is_flexible, pending_of, reader_state, records, records_from, records_next, strip_bom, took_first}
use Rattle.csv.specs.declared.parser.Action.{Action}
use Rattle.csv.specs.declared.parser.Action.TheVariants as act
use Rattle.csv.specs.declared.parser.State.{State}
use Rattle.csv.specs.declared.parser.State.TheVariants as st
use Rattle.csv.specs.declared.reader.Reader.{Reader}
use Rattle.log_csv.specs.RecordsLeft.{IsNextRecord, IsPlain, records_in, records_left, text_left}

-- ---- one record

end_case : (b : Bool) (o : Option Read) (fields : List (List ℕ)) (s : State) (rest : List ℕ) (p : Read) → cond b (Some (fields, s, rest)) o ≡ Some p
    → (o ≡ Some p → length p.2 ≤ length rest) → length p.2 ≤ length rest
end_case true o fields s rest p h f = let e : rest ≡ p.2 = cc in omega (arith, ap length e)
end_case false o fields s rest p h f = f h

last_case : (b : Bool) (fields : List (List ℕ)) (p : Read) → cond b (Some (fields, st.StartRecord, [])) None ≡ Some p → (p.1 ≡ st.StartRecord) × (p.2 ≡ [])
last_case true fields p h = (cc, cc)
last_case false fields p h = cc

-- what a record leaves of a text
shorter : (s : State) (fields : List (List ℕ)) (field : List ℕ) (xs : List ℕ) (p : Read) → next_record default_config s fields field xs ≡ Some p → length p.2 ≤ length xs - 1
unfolding next_record
shorter s fields field [] p h = let e = (last_case (ends_at_end s) _ p h).1 in omega (arith, ap length e)
shorter s fields field (c ∷ xs) p h = let k = end_case (is_end (step default_config s c).1) _ _ _ xs p h (λ e. let i = shorter (step default_config s c).0 (fields_after (step default_config s c).1 fields field) (field_after (step default_config s c).1 c field) xs p e in omega arith) in omega arith

-- where it leaves the reader: at the start of a record
abbrev Rests : State × Action → Type 0
Rests q = is_end q.1 ≡ true → ends_at_end q.0 ≡ false

field_rests : (a b d : Bool) → Rests (cond a (st.StartField, act.EndField) (cond b (cond d st.AfterCr st.StartRecord, act.EndRecord) (st.InField, act.Copy)))
field_rests true b d = λ h. cc
field_rests false true true = λ h. refl
field_rests false true false = λ h. refl
field_rests false false d = λ h. cc

rests-quote : (q : Bool) (next : State × Action) → Rests next → Rests (cond q (st.InQuoted, act.Skip) next)
rests-quote true next h = λ e. cc
rests-quote false next h = h

rests-blank : (q : Bool) (next : State × Action) → Rests next → Rests (cond q (st.StartRecord, act.Skip) next)
rests-blank true next h = λ e. cc
rests-blank false next h = h

rests-double : (q : Bool) (next : State × Action) → Rests next → Rests (cond q (st.InQuoted, act.Copy) next)
rests-double true next h = λ e. cc
rests-double false next h = h

rests-quoted : (q : Bool) → Rests (cond q (st.AfterQuote, act.Skip) (st.InQuoted, act.Copy))
rests-quoted true = λ e. cc
rests-quoted false = λ e. cc

rests-comment : (q : Bool) → Rests (cond q (st.StartRecord, act.Skip) (st.InComment, act.Skip))
rests-comment true = λ e. cc
rests-comment false = λ e. cc

step_rests : (s : State) (c : ℕ) → Rests (step default_config s c)
step_rests st.StartRecord c = rests-blank (c == 13 || c == 10) _ (rests-quote (c == 34) _ (field_rests (c == 44) (c == 13 || c == 10) (c == 13)))
step_rests st.StartField c = rests-quote (c == 34) _ (field_rests (c == 44) (c == 13 || c == 10) (c == 13))
step_rests st.InField c = field_rests (c == 44) (c == 13 || c == 10) (c == 13)
step_rests st.InQuoted c = rests-quoted (c == 34)
step_rests st.InEscape c = λ e. cc
step_rests st.AfterQuote c = rests-double (c == 34) _ (field_rests (c == 44) (c == 13 || c == 10) (c == 13))
step_rests st.InComment c = rests-comment (c == 10)
step_rests st.AfterCr c = rests-blank (c == 10) _ (rests-blank (c == 13 || c == 10) _ (rests-quote (c == 34) _ (field_rests (c == 44) (c == 13 || c == 10) (c == 13))))

rest_case : (b : Bool) (o : Option Read) (fields : List (List ℕ)) (s : State) (rest : List ℕ) (p : Read) → cond b (Some (fields, s, rest)) o ≡ Some p
    → (b ≡ true → ends_at_end s ≡ false) → (o ≡ Some p → ends_at_end p.1 ≡ false) → ends_at_end p.1 ≡ false
rest_case true o fields s rest p h f g = let e : p.1 ≡ s = cc in ap ends_at_end e ∙ f refl
rest_case false o fields s rest p h f g = g h

rests : (s : State) (fields : List (List ℕ)) (field : List ℕ) (xs : List ℕ) (p : Read) → next_record default_config s fields field xs ≡ Some p → ends_at_end p.1 ≡ false
unfolding next_record
rests s fields field [] p h = ap ends_at_end (last_case (ends_at_end s) _ p h).0
rests s fields field (c ∷ xs) p h = rest_case (is_end (step default_config s c).1) _ _ _ xs p h (step_rests s c) (λ e. rests (step default_config s c).0 (fields_after (step default_config s c).1 fields field) (field_after (step default_config s c).1 c field) xs p e)

-- ---- all records

none_left : (n : ℕ) → records_from default_config n st.StartRecord [] ≡ []
unfolding records_from next_record
none_left zero = refl
none_left (suc n) = refl

left_none : (n : ℕ) (p : Read) → p.1 ≡ st.StartRecord → p.2 ≡ [] → records_from default_config n p.1 p.2 ≡ []
left_none n p e f = rw (e, f) (none_left n)

last : (s : State) (p : Read) → next_record default_config s [] [] [] ≡ Some p → (p.1 ≡ st.StartRecord) × (p.2 ≡ [])
unfolding next_record
last s p h = last_case (ends_at_end s) _ p h

enough_case : (n m : ℕ) (s : State) (xs : List ℕ) (o : Option Read) → next_record default_config s [] [] xs ≡ o → length xs ≤ n → length xs ≤ m
    → ((t : State) (ys : List ℕ) → length ys < n → length ys < m → records_from default_config n t ys ≡ records_from default_config m t ys)
    → records_next (records_from default_config n) o ≡ records_next (records_from default_config m) o
enough_case n m s xs None e h k f = refl
enough_case n m s [] (Some p) e h k f =
    let end = last s p e in ap (λ rest. p.0 ∷ rest) (left_none n p end.0 end.1 ∙ sym (left_none m p end.0 end.1))
enough_case n m s (c ∷ xs) (Some p) e h k f =
    let less = shorter s [] [] (c ∷ xs) p e in ap (λ rest. p.0 ∷ rest) (f p.1 p.2 (omega arith) (omega arith))

-- a bound above the length of the text is enough
enough : (n m : ℕ) (s : State) (xs : List ℕ) → length xs < n → length xs < m → records_from default_config n s xs ≡ records_from default_config m s xs
unfolding records_from
enough zero m s xs h k = absurd (omega arith)
enough (suc n) zero s xs h k = absurd (omega arith)
enough (suc n) (suc m) s xs h k = enough_case n m s xs (next_record default_config s [] [] xs) refl (omega arith) (omega arith) (λ t ys. enough n m t ys)

next_case : (s : State) (xs : List ℕ) (p : Read) → next_record default_config s [] [] xs ≡ Some p → records_from default_config (length xs) p.1 p.2 ≡ records_in p.1 p.2
next_case s [] p e = let end = last s p e in left_none 0 p end.0 end.1 ∙ sym (left_none (length p.2 + 1) p end.0 end.1)
next_case s (c ∷ xs) p e = let less = shorter s [] [] (c ∷ xs) p e in enough (length (c ∷ xs)) (length p.2 + 1) p.1 p.2 (omega arith) (omega arith)

-- the next record, and the records after it
pub records_in-next : (s : State) (xs : List ℕ) → records_in s xs ≡ records_next records_in (next_record default_config s [] [] xs)
unfolding records_from
records_in-next s xs = rw (add-one (length xs)) (by (next_record default_config s [] [] xs) refl)
  where
    by : (o : Option Read) → next_record default_config s [] [] xs ≡ o → records_next (records_from default_config (length xs)) o ≡ records_next records_in o
    by None e = refl
    by (Some p) e = ap (λ rest. p.0 ∷ rest) (next_case s xs p e)

pub records_in-some : (s : State) (xs : List ℕ) (p : Read) → next_record default_config s [] [] xs ≡ Some p → records_in s xs ≡ p.0 ∷ records_in p.1 p.2
records_in-some s xs p e = records_in-next s xs ∙ ap (records_next records_in) e

pub records_in-none : (s : State) (xs : List ℕ) → next_record default_config s [] [] xs ≡ None → records_in s xs ≡ []
records_in-none s xs e = records_in-next s xs ∙ ap (records_next records_in) e

-- ---- how many

none_at_rest : (s : State) (p : Read) → next_record default_config s [] [] [] ≡ Some p → ends_at_end s ≡ false → length (p.0 ∷ records_in p.1 p.2) ≤ 0
unfolding next_record
none_at_rest s p e rest =
    let none : cond false (Some ([] ++ ([] ∷ []), st.StartRecord, [])) None ≡ Some p = ap (λ b. cond b (Some ([] ++ ([] ∷ []), st.StartRecord, [])) None) (sym rest) ∙ e in
    cc

few_case : (n : ℕ) (s : State) (xs : List ℕ) (o : Option Read) → next_record default_config s [] [] xs ≡ o → ends_at_end s ≡ false → length xs ≤ n
    → ((t : State) (ys : List ℕ) → ends_at_end t ≡ false → length ys < n → length (records_in t ys) ≤ length ys)
    → length (records_next records_in o) ≤ length xs
few_case n s xs None e rest h f = omega arith
few_case n s [] (Some p) e rest h f = none_at_rest s p e rest
few_case n s (c ∷ xs) (Some p) e rest h f =
    let less = shorter s [] [] (c ∷ xs) p e in
    let more = f p.1 p.2 (rests s [] [] (c ∷ xs) p e) (omega arith) in
    omega arith

few_in : (n : ℕ) (s : State) (xs : List ℕ) → ends_at_end s ≡ false → length xs < n → length (records_in s xs) ≤ length xs
few_in zero s xs rest h = absurd (omega arith)
few_in (suc n) s xs rest h = rw (records_in-next s xs) (few_case n s xs (next_record default_config s [] [] xs) refl rest (omega arith) (λ t ys. few_in n t ys))

strip_length : (xs : List ℕ) → length (strip_bom xs) ≤ length xs
unfolding strip_bom
strip_length [] = omega arith
strip_length (a ∷ []) = omega arith
strip_length (a ∷ b ∷ []) = omega arith
strip_length (a ∷ b ∷ c ∷ rest) = by (a == 239 && b == 187 && c == 191)
  where
    by : (t : Bool) → length (cond t rest (a ∷ b ∷ c ∷ rest)) ≤ length (a ∷ b ∷ c ∷ rest)
    by true = omega arith
    by false = omega arith

-- a text has no more records than bytes
pub records_few : (bytes : List ℕ) → length (records default_config (strip_bom bytes)) ≤ length bytes
records_few bytes = let a = few_in (length (strip_bom bytes) + 1) st.StartRecord (strip_bom bytes) refl (omega arith) in let b = strip_length bytes in omega arith

-- ---- a read

-- a read of a reader of the plain format
pub record IsRead (old new : Reader (Bor (List ℕ))) (found : Bool) (fields : List (List ℕ)) : Type 0 where
  pub plain : IsPlain new
  pub next : IsNextRecord (records_left old) found fields (records_left new)

next_is : (s t : State) (xs ys : List ℕ) (o : Option Read) (found : Bool) (fields : List (List ℕ)) → next_record default_config s [] [] xs ≡ o → NextIs o found fields t ys → IsNextRecord (records_in s xs) found fields (records_in t ys)
next_is s t xs ys None true fields e h = cc
next_is s t xs ys None false fields e h = records_in-none s xs e
next_is s t xs ys (Some p) true fields e h = records_in-some s xs p e ∙ ap (λ f. f ∷ records_in p.1 p.2) (sym h.1) ∙ ap (λ q. fields ∷ records_in q p.2) (sym h.2) ∙ ap (λ q. fields ∷ records_in t q) (sym h.3)
next_is s t xs ys (Some p) false fields e h = cc

-- the text that is left is known
some_left : (s t : State) (xs : List ℕ) (left : Option (List ℕ)) (found : Bool) (fields : List (List ℕ)) → ReadsNext default_config s (Some xs) left found fields t → (ys : List ℕ) × (left ≡ Some ys) × IsNextRecord (records_in s xs) found fields (records_in t ys)
some_left s t xs None found fields h = absurd h
some_left s t xs (Some ys) found fields h = (ys, refl, next_is s t xs ys _ found fields refl h)

left_is : (rdr : Reader (Bor (List ℕ))) (text : List ℕ) → text_left rdr ≡ Some text → records_left rdr ≡ records_in (reader_state rdr) text
left_is rdr text e = rw e refl

pub IsRead-from : (old new : Reader (Bor (List ℕ))) (found : Bool) (fields : List (List ℕ)) → IsPlain old → ReadRecord (λ (s : Bor (List ℕ)). Some s.now) old new found fields → took_first new ≡ true → is_flexible new ≡ is_flexible old → IsRead old new found fields
IsRead-from old new found fields h r first flexible =
    let left = some_left old.state new.state h.text (pending_of (Some new.rdr.now) new) found fields (rw (h.config, h.known) at r.0) in
    let known : text_left new ≡ Some left.0 = rw r.1 left.1 in
    record {
      plain = record { trim = r.3 ∙ h.trim; ready = inl first; config = r.2 ∙ h.config; flexible = flexible ∙ h.flexible; text = left.0; known = known };
      next = rw (left_is old h.text h.known, left_is new left.0 known) left.2;
    }
