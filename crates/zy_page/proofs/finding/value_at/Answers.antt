use Rattle.std.proofs.Common.{sym, refl}
use Rattle.zy_page.proofs.Found.{get_row_at, get_row_not_at}
use Rattle.zy_page.proofs.finding.value_at.Goals as goal

pub returns-in-Ok : goal.returns-in-Ok
returns-in-Ok c =
    let found = c.in-Ok.ensures in
    sym (get_row_at c.args.key c.in-Ok.at _ c.args.rows.now found.0 found.1 (found.2 _))

pub returns-in-Err : goal.returns-in-Err
returns-in-Err c =
    let found = c.in-Err.ensures in
    rw (get_row_not_at 0 c.args.key c.in-Err.field-0 c.args.rows.now c.requires found.0 found.1) refl
