use Rattle.std.proofs.Common.{◌≡◌, true, ◌++◌, ap, ◌∙◌}
use Rattle.proof_text.specs.declared.clause_reader.ClauseReader.{ClauseReader}
use Rattle.proof_text.specs.ClauseReading.{ended_by, open_after}
use Rattle.proof_text.proofs.ClauseLemmas.{clauses_after, faults_after}
use Rattle.proof_text.specs.CnfText.{some_open, left_after}
use Rattle.proof_text.proofs.clause_reader.ClauseReader.take.Goals as goal
use Rattle.proof_text.proofs.clause_reader.ClauseReader.take.Goals.{then-not-is_open+else-self-eq0, else-not-is_open}

-- Whether or not the token begins a clause, the literals and clauses so far are as they were.
pub returns-clause-clauses : goal.returns-clause-clauses
returns-clause-clauses c = λ later.
    let front : c.if-not-is_open.self.front.items ≡ c.args.self.now.front.items = elim c.if-not-is_open.branch [
      | then-not-is_open+else-self-eq0 w ↦ ap (λ (s : ClauseReader). s.front.items) w.self-is
      | else-not-is_open w ↦ ap (λ (s : ClauseReader). s.front.items) w.self-is
    ] in
    let clauses : c.if-not-is_open.self.clauses.clauses ≡ c.args.self.now.clauses.clauses = elim c.if-not-is_open.branch [
      | then-not-is_open+else-self-eq0 w ↦ ap (λ (s : ClauseReader). s.clauses.clauses) w.self-is
      | else-not-is_open w ↦ ap (λ (s : ClauseReader). s.clauses.clauses) w.self-is
    ] in
    clauses_after c.args.token.text.now c.args.self.now.vars c.args.token.line c.in-Some.item c.args.self.now.front.items c.args.self.now.clauses.clauses _ _ later c.in-Some.ensures
    (c.in_ok-put.ensures.clauses
    ∙ ap (λ cs. cs ++ ended_by c.in-Some.item c.if-not-is_open.self.front.items) clauses
    ∙ ap (λ f. c.args.self.now.clauses.clauses ++ ended_by c.in-Some.item f) front)
    (c.in_ok-put.ensures.front ∙ ap (open_after c.in-Some.item) front)

pub returns-clause-faults : goal.returns-clause-faults
returns-clause-faults c = λ end later. faults_after c.args.token.text.now c.args.self.now.vars c.args.token.line end c.args.self.now.left c.in-Some.item c.args.self.now.front.items c.put.new.self.vars c.put.new.self.left c.put.new.self.front.items later c.in-Some.ensures
    (elim c.if-not-is_open.branch [
      | then-not-is_open+else-self-eq0 w ↦ λ _ none. w.if-self-eq0.false none
      | else-not-is_open w ↦ λ closed _. let begun : true ≡ some_open c.args.self.now.front.items = w.if-not-is_open.ensures in cc
    ])
    (c.in_ok-put.ensures.vars ∙ elim c.if-not-is_open.branch [
      | then-not-is_open+else-self-eq0 w ↦ ap (λ (s : ClauseReader). s.vars) w.self-is
      | else-not-is_open w ↦ ap (λ (s : ClauseReader). s.vars) w.self-is
    ])
    (c.in_ok-put.ensures.left ∙ elim c.if-not-is_open.branch [
      | then-not-is_open+else-self-eq0 w ↦ ap (λ (s : ClauseReader). s.left) w.self-is ∙ ap (left_after c.args.self.now.left) w.if-not-is_open.ensures
      | else-not-is_open w ↦ ap (λ (s : ClauseReader). s.left) w.self-is ∙ ap (left_after c.args.self.now.left) w.if-not-is_open.ensures
    ])
    (c.in_ok-put.ensures.front ∙ elim c.if-not-is_open.branch [
      | then-not-is_open+else-self-eq0 w ↦ ap (λ (s : ClauseReader). open_after c.in-Some.item s.front.items) w.self-is
      | else-not-is_open w ↦ ap (λ (s : ClauseReader). open_after c.in-Some.item s.front.items) w.self-is
    ])
