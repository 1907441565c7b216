-- What came of the second text came of both.
use Rattle.std.proofs.Common.{Err, ap, ◌∙◌}
use Rattle.std.proofs.lemmas.Result.{err_from_is_err_and}
use Rattle.zy_io.proofs.WritingLemmas.{Appended-stops, Appended-then}
use Rattle.zy_io.proofs.line.JoinedLine.append.Goals as goal

pub returns-in_err-append : goal.returns-in_err-append
returns-in_err-append g c =
    let p = err_from_is_err_and c.from_residual.result c.from_residual.ensures.1 in
    Appended-stops _ _ _ _ _ _ c.in_err-append.ensures (p.1 ∙ ap Err p.2)

pub returns : goal.returns
returns g c = Appended-then _ _ _ _ _ _ c.in_ok-append.ensures c.append-2.ensures
