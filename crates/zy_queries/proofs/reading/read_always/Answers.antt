-- What is rejected is no goal that every state could meet.
use Rattle.std.proofs.Common.{subst, Err}
use Rattle.std.proofs.lemmas.Result.{err_from_is_err_and}
use Rattle.zy_queries.specs.Words.{words_of}
use Rattle.zy_queries.specs.Cursors.{left}
use Rattle.zy_queries.proofs.QueryLemmas.{AnswersNever, never_clauses, never_missed, never_asked}
use Rattle.zy_queries.proofs.reading.read_always.Goals as goal

pub returns-in_err-part-clause-refused : goal.returns-in_err-part-clause-refused
returns-in_err-part-clause-refused c =
    let p = err_from_is_err_and c.from_residual.result c.from_residual.ensures.1 in
    let fault = c.in_err-part.field-0.0 in
    rw (p.1, p.2) ((never_clauses c.args.names (words_of c.args.text.now) (Err fault)
    (subst (λ ws. AnswersNever c.args.names ws (Err fault)) c.new-start.ensures
    (never_missed c.args.names (left c.new-start.result) fault c.in_err-part.ensures))).2)

pub returns-clause-only : goal.returns-clause-only
returns-clause-only c =
    (never_clauses c.args.names (words_of c.args.text.now) c.asked_never.result
    (subst (λ ws. AnswersNever c.args.names ws c.asked_never.result) c.new-start.ensures
    (never_asked c.args.names (left c.new-start.result) c.in_ok-part.part c.asked_never.result
    c.in_ok-part.ensures c.asked_never.ensures))).1

pub returns-clause-refused : goal.returns-clause-refused
returns-clause-refused c =
    (never_clauses c.args.names (words_of c.args.text.now) c.asked_never.result
    (subst (λ ws. AnswersNever c.args.names ws c.asked_never.result) c.new-start.ensures
    (never_asked c.args.names (left c.new-start.result) c.in_ok-part.part c.asked_never.result
    c.in_ok-part.ensures c.asked_never.ensures))).2
