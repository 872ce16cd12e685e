-- The clauses of a formula by pieces, and one token after the other.
use Rattle.std.proofs.Common.{◌≡◌, ◌<◌, Bool, true, false, List, [], ◌∷◌, ◌++◌, length, map, cond, refl, arith, ap, sym, ◌∙◌, append_assoc, append-nil}
use Rattle.std.proofs.lemmas.List.Splits.{length-slice_split}
use Rattle.std.specs.List.{slice_split, onto_first}
use Rattle.prop_core.specs.Clauses.{Clause}
use Rattle.proof_text.specs.SignedNumbers.{literal_of}
use Rattle.proof_text.specs.CnfText.{LinedToken, before_last, ends_clause, spelled_clause, clauses_in}
use Rattle.proof_text.specs.ClauseReading.{spelled_clauses}

-- the first clause has these literals in front too
abbrev with_front : Clause → List Clause → List Clause
with_front front [] = []
with_front front (clause ∷ clauses) = (front ++ clause) ∷ clauses

with_nothing : (clauses : List Clause) → with_front [] clauses ≡ clauses
with_nothing [] = refl
with_nothing (clause ∷ clauses) = refl

before_last-cons : (piece : List LinedToken) (pieces : List (List LinedToken)) → 0 < length pieces → before_last (piece ∷ pieces) ≡ piece ∷ before_last pieces
before_last-cons piece [] h = absurd (omega arith)
before_last-cons piece (next ∷ pieces) h = refl

onto_step : (front : Clause) (token : LinedToken) (pieces : List (List LinedToken))
    → with_front (front ++ literal_of token.text ∷ []) (map spelled_clause (before_last pieces)) ≡ with_front front (map spelled_clause (before_last (onto_first token pieces)))
onto_step front token [] = refl
onto_step front token (piece ∷ []) = refl
onto_step front token (piece ∷ next ∷ pieces) = ap (λ (c : Clause). c ∷ map spelled_clause (before_last (next ∷ pieces))) (append_assoc front (literal_of token.text ∷ []) (spelled_clause piece))

piece_step : (b : Bool) (front : Clause) (token : LinedToken) (tokens : List LinedToken) → ((next : Clause) → spelled_clauses next tokens ≡ with_front next (clauses_in tokens))
    → cond b (front ∷ spelled_clauses [] tokens) (spelled_clauses (front ++ literal_of token.text ∷ []) tokens)
    ≡ with_front front (map spelled_clause (before_last (cond b ([] ∷ slice_split ends_clause tokens) (onto_first token (slice_split ends_clause tokens)))))
piece_step true front token tokens h =
    (λ i. sym (append-nil front) i ∷ (h [] ∙ with_nothing (clauses_in tokens)) i)
    ∙ ap (λ ps. with_front front (map spelled_clause ps)) (sym (before_last-cons [] (slice_split ends_clause tokens) (omega (arith, length-slice_split ends_clause tokens))))
piece_step false front token tokens h = h (front ++ literal_of token.text ∷ []) ∙ onto_step front token (slice_split ends_clause tokens)

spelled_clauses-front : (front : Clause) (tokens : List LinedToken) → spelled_clauses front tokens ≡ with_front front (clauses_in tokens)
spelled_clauses-front front [] = refl
spelled_clauses-front front (token ∷ tokens) = piece_step (ends_clause token) front token tokens (λ next. spelled_clauses-front next tokens)

pub spelled_clauses-pieces : (tokens : List LinedToken) → spelled_clauses [] tokens ≡ clauses_in tokens
spelled_clauses-pieces tokens = spelled_clauses-front [] tokens ∙ with_nothing (clauses_in tokens)
