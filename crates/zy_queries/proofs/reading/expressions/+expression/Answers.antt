-- What each part of an expression was read as, or why there is none.
use Rattle.std.proofs.Common.{◌∙◌, sym, subst, suc}
use Rattle.std.proofs.lemmas.Result.{err_from_is_err_and}
use Rattle.zy_queries.specs.Cursors.{left}
use Rattle.zy_queries.specs.Grammar.{level_of}
use Rattle.zy_queries.specs.Expressions.{Answers}
use Rattle.zy_queries.proofs.ReadLemmas.{not_uncounted, not_missed, not_found, brackets_uncounted, brackets_missed, brackets_closed}
use Rattle.zy_queries.proofs.ReadLemmas.{chain_missed, chain_more, more_stops, more_uncounted, more_missed, more_joined}
use Rattle.zy_queries.proofs.reading.expressions.+expression.Goals as goal

pub negation-returns-in_err-spare : goal.negation-returns-in_err-spare
negation-returns-in_err-spare t c =
    let p = err_from_is_err_and c.from_residual.result c.from_residual.ensures.1 in
    rw (p.1, p.2) (not_uncounted c.args.names (left c.args.at) c.args.spare c.in_err-spare.field-0.0 c.requires c.in_err-spare.ensures)

pub negation-returns-in_err-part : goal.negation-returns-in_err-part
negation-returns-in_err-part t c =
    let p = err_from_is_err_and c.from_residual-in_err-part.result c.from_residual-in_err-part.ensures.1 in
    rw (p.1, p.2) (not_missed c.args.names (left c.args.at) (left c.next.result) c.args.spare c.in_ok-spare.spare
    c.in_err-part.field-0.0 c.requires c.in_ok-spare.ensures c.next.ensures c.in_err-part.ensures)

pub negation-returns-in-Ok : goal.negation-returns-in-Ok
negation-returns-in-Ok t c =
    not_found c.args.names (left c.args.at) (left c.next.result) c.args.spare c.in_ok-spare.spare c.in_ok-part.part c.in-Ok.part
    c.requires c.in_ok-spare.ensures c.next.ensures c.in_ok-part.ensures c.in-Ok.ensures

pub bracketed-returns-in_err-spare : goal.bracketed-returns-in_err-spare
bracketed-returns-in_err-spare t c =
    let p = err_from_is_err_and c.from_residual.result c.from_residual.ensures.1 in
    rw (p.1, p.2) (brackets_uncounted c.args.names (left c.args.at) c.args.spare c.in_err-spare.field-0.0 c.requires
    c.in_err-spare.ensures)

pub bracketed-returns-in_err-part : goal.bracketed-returns-in_err-part
bracketed-returns-in_err-part t c =
    let p = err_from_is_err_and c.from_residual-in_err-part.result c.from_residual-in_err-part.ensures.1 in
    rw (p.1, p.2) (brackets_missed c.args.names (left c.args.at) (left c.next.result) c.args.spare c.in_ok-spare.spare
    c.in_err-part.field-0.0 c.requires c.in_ok-spare.ensures c.next.ensures c.in_err-part.ensures)

pub bracketed-returns : goal.bracketed-returns
bracketed-returns t c =
    brackets_closed c.args.names (left c.args.at) (left c.next.result) c.args.spare c.in_ok-spare.spare c.in_ok-part.part
    c.closed.result c.requires c.in_ok-spare.ensures c.next.ensures c.in_ok-part.ensures c.closed.ensures

pub operand-returns-in-Or : goal.operand-returns-in-Or
operand-returns-in-Or t c =
    subst (λ o. Answers c.args.names (suc (level_of o)) (left c.args.at) c.args.spare c.chain.result) (sym c.in-Or.is) c.chain.ensures

pub operand-returns-in-And : goal.operand-returns-in-And
operand-returns-in-And t c =
    subst (λ o. Answers c.args.names (suc (level_of o)) (left c.args.at) c.args.spare c.one.result) (sym c.in-And.is) c.one.ensures

pub chain-returns-in_err-first : goal.chain-returns-in_err-first
chain-returns-in_err-first t c =
    let p = err_from_is_err_and c.from_residual.result c.from_residual.ensures.1 in
    rw (p.1, p.2) (chain_missed c.args.names c.args.operator (left c.args.at) c.args.spare c.in_err-first.field-0.0
    c.in_err-first.ensures)

pub chain-returns : goal.chain-returns
chain-returns t c =
    chain_more c.args.names c.args.operator (left c.args.at) c.args.spare c.in_ok-first.first c.more.result c.in_ok-first.ensures
    c.more.ensures

pub more-returns-else-is_at : goal.more-returns-else-is_at
more-returns-else-is_at t c =
    more_stops c.args.names c.args.operator c.args.first (sym c.is_at.ensures ∙ c.if-is_at.false)

pub more-returns-in_err-spare : goal.more-returns-in_err-spare
more-returns-in_err-spare t c =
    let p = err_from_is_err_and c.from_residual.result c.from_residual.ensures.1 in
    rw (p.1, p.2) (more_uncounted c.args.names c.args.operator c.args.first c.in_err-spare.field-0.0
    (sym c.is_at.ensures ∙ c.if-is_at.true) c.in_err-spare.ensures)

pub more-returns-in_err-second : goal.more-returns-in_err-second
more-returns-in_err-second t c =
    let p = err_from_is_err_and c.from_residual-in_err-second.result c.from_residual-in_err-second.ensures.1 in
    rw (p.1, p.2) (more_missed c.args.names c.args.operator c.args.first (left c.next.result) c.in_ok-spare.spare
    c.in_err-second.field-0.0 (sym c.is_at.ensures ∙ c.if-is_at.true) c.in_ok-spare.ensures c.next.ensures
    c.in_err-second.ensures)

pub more-returns-in-Ok : goal.more-returns-in-Ok
more-returns-in-Ok t c =
    more_joined c.args.names c.args.operator c.args.first c.in_ok-second.second c.in-Ok.part (left c.next.result)
    c.in_ok-spare.spare c.more.result (sym c.is_at.ensures ∙ c.if-is_at.true) c.in_ok-spare.ensures c.next.ensures
    c.in_ok-second.ensures c.in-Ok.ensures c.more.ensures
