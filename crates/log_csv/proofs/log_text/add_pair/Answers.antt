use Rattle.std.proofs.Common.{◌≡◌, ◌∙◌, ℕ, List, Option, Err, ap, subst, sym}
use Rattle.des_base.specs.Names.{place_of}
use Rattle.log_csv.specs.declared.fault.LogReadRefusal.{LogReadRefusal}
use Rattle.log_csv.specs.Records.{before}
use Rattle.log_csv.specs.Reading.{Adds}
use Rattle.log_csv.proofs.LogLemmas.{pair-added, pair-refused, pair-second_unknown, pair-unknown}
use Rattle.log_csv.proofs.log_text.add_pair.Goals as goal

-- what is found of the bytes is found of the name
found_as : (o : Option ℕ) (bytes text name : List ℕ) (ids : List (List ℕ)) → o ≡ place_of bytes ids → bytes ≡ text → text ≡ name → o ≡ place_of name ids
found_as o bytes text name ids h e f = h ∙ ap (λ t. place_of t ids) (e ∙ f)

pub returns-in_default : goal.returns-in_default
returns-in_default c = λ earlier logged named.
    subst (λ (e : LogReadRefusal). Adds earlier (before c.args.first.now c.args.second.now) c.args.row c.args.log.now (Err e)) (sym c.refusal_at.ensures)
    (pair-unknown earlier c.args.first.now c.args.second.now c.args.row c.args.log.now logged named
    (found_as _ _ _ _ _ c.in_default.ensures c.as_bytes.ensures.value c.as_str.ensures.text))

pub returns-in_default-find : goal.returns-in_default-find
returns-in_default-find c = λ earlier logged named.
    subst (λ (e : LogReadRefusal). Adds earlier (before c.args.first.now c.args.second.now) c.args.row c.args.log.now (Err e)) (sym c.refusal_at-in_default-find.ensures)
    (pair-second_unknown earlier c.args.first.now c.args.second.now c.args.row c.args.log.now logged named
    (found_as _ _ _ _ _ c.in_default-find.ensures c.as_bytes-2.ensures.value c.as_str-2.ensures.text))

pub returns-in-Ok : goal.returns-in-Ok
returns-in-Ok c = λ earlier logged named.
    pair-added earlier c.args.first.now c.args.second.now c.args.row c.in-Some.first c.in-Some-find.second c.args.log.now c.add_before.new.self logged named
    (found_as _ _ _ _ _ c.in-Some.ensures c.as_bytes.ensures.value c.as_str.ensures.text)
    (found_as _ _ _ _ _ c.in-Some-find.ensures c.as_bytes-2.ensures.value c.as_str-2.ensures.text)
    c.in-Ok.ensures.refused c.in-Ok.ensures.ok

pub returns-in-Err : goal.returns-in-Err
returns-in-Err c = λ earlier logged named.
    subst (λ (e : LogReadRefusal). Adds earlier (before c.args.first.now c.args.second.now) c.args.row c.add_before.new.self (Err e)) (sym c.refusal_at-in-Err.ensures)
    (pair-refused earlier c.args.first.now c.args.second.now c.args.row c.in-Some.first c.in-Some-find.second c.args.log.now c.add_before.new.self c.in-Err.refusal logged named
    (found_as _ _ _ _ _ c.in-Some.ensures c.as_bytes.ensures.value c.as_str.ensures.text)
    (found_as _ _ _ _ _ c.in-Some-find.ensures c.as_bytes-2.ensures.value c.as_str-2.ensures.text)
    c.in-Err.ensures.refused)
