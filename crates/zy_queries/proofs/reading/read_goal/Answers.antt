-- What is rejected is no goal.
use Rattle.std.proofs.Common.{◌∙◌, sym, subst, Err}
use Rattle.std.proofs.lemmas.Result.{err_from_is_err_and}
use Rattle.zy_queries.specs.Words.{words_of}
use Rattle.zy_queries.specs.Cursors.{left}
use Rattle.zy_queries.proofs.QueryLemmas.{AnswersGoal, goal_clauses, goal_missed, goal_asked, goal_then}
use Rattle.zy_queries.proofs.reading.read_goal.Goals as goal

pub returns-then-is_at-clause-only : goal.returns-then-is_at-clause-only
returns-then-is_at-clause-only c =
    (goal_clauses c.args.names (words_of c.args.text.now) c.then_alone.result
    (subst (λ ws. AnswersGoal c.args.names ws c.then_alone.result) c.new-start.ensures
    (goal_then c.args.names (left c.new-start.result) c.then_alone.result (sym c.is_at.ensures ∙ c.if-is_at.true)
    c.then_alone.ensures))).1

pub returns-then-is_at-clause-refused : goal.returns-then-is_at-clause-refused
returns-then-is_at-clause-refused c =
    (goal_clauses c.args.names (words_of c.args.text.now) c.then_alone.result
    (subst (λ ws. AnswersGoal c.args.names ws c.then_alone.result) c.new-start.ensures
    (goal_then c.args.names (left c.new-start.result) c.then_alone.result (sym c.is_at.ensures ∙ c.if-is_at.true)
    c.then_alone.ensures))).2

pub returns-in_err-part-clause-refused : goal.returns-in_err-part-clause-refused
returns-in_err-part-clause-refused c =
    let p = err_from_is_err_and c.from_residual.result c.from_residual.ensures.1 in
    let fault = c.in_err-part.field-0.0 in
    rw (p.1, p.2) ((goal_clauses c.args.names (words_of c.args.text.now) (Err fault)
    (subst (λ ws. AnswersGoal c.args.names ws (Err fault)) c.new-start.ensures
    (goal_missed c.args.names (left c.new-start.result) fault (sym c.is_at.ensures ∙ c.if-is_at.false)
    c.in_err-part.ensures))).2)

pub returns-clause-only : goal.returns-clause-only
returns-clause-only c =
    (goal_clauses c.args.names (words_of c.args.text.now) c.asked.result
    (subst (λ ws. AnswersGoal c.args.names ws c.asked.result) c.new-start.ensures
    (goal_asked c.args.names (left c.new-start.result) c.in_ok-part.part c.asked.result
    (sym c.is_at.ensures ∙ c.if-is_at.false) c.in_ok-part.ensures c.asked.ensures))).1

pub returns-clause-refused : goal.returns-clause-refused
returns-clause-refused c =
    (goal_clauses c.args.names (words_of c.args.text.now) c.asked.result
    (subst (λ ws. AnswersGoal c.args.names ws c.asked.result) c.new-start.ensures
    (goal_asked c.args.names (left c.new-start.result) c.in_ok-part.part c.asked.result
    (sym c.is_at.ensures ∙ c.if-is_at.false) c.in_ok-part.ensures c.asked.ensures))).2
