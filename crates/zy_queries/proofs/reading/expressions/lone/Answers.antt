use Rattle.std.proofs.lemmas.Result.{err_from_is_err_and}
use Rattle.zy_queries.specs.Cursors.{left}
use Rattle.zy_queries.proofs.ReadLemmas.{lone_uncounted, lone_found, no_lone}
use Rattle.zy_queries.proofs.reading.expressions.lone.Goals as goal

pub returns-in_err-spare-in-Ok : goal.returns-in_err-spare-in-Ok
returns-in_err-spare-in-Ok c =
    let p = err_from_is_err_and c.from_residual.result c.from_residual.ensures.1 in
    rw (p.1, p.2) (lone_uncounted c.args.names (left c.args.at) c.args.spare c.in_err-spare-in-Ok.field-0.0 c.requires.bracket
    c.requires.negation c.in_err-spare-in-Ok.ensures)

pub returns-in_ok-spare-in-Ok : goal.returns-in_ok-spare-in-Ok
returns-in_ok-spare-in-Ok c =
    lone_found c.args.names (left c.args.at) c.args.spare c.in_ok-spare-in-Ok.spare c.in-Ok.fact c.in-Ok.end c.requires.bracket
    c.requires.negation c.in-Ok.ensures c.in_ok-spare-in-Ok.ensures

pub returns-in-Err : goal.returns-in-Err
returns-in-Err c = λ t rest r s. no_lone c.args.names t (left c.args.at) rest c.requires.bracket c.requires.negation c.in-Err.ensures r
