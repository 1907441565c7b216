use Rattle.std.proofs.Common.{subst}
use Rattle.std.proofs.lemmas.Bool.{eqb-true}
use Rattle.zy_page.specs.Place.{IsRowPlace}
use Rattle.zy_serial.proofs.Laying.{put_rows_append}
use Rattle.zy_serial.proofs.table.lie_below.Goals as goal

pub returns-in-Some : goal.returns-in-Some
returns-in-Some c = λ is.
    let first = c.in-Some.first.now in
    let list = c.args.list.now in
    put_rows_append first c.args.rows.now list c.requires.rows c.in-Some.ensures.value (subst (IsRowPlace first.key list) (eqb-true _ _ is) c.place.ensures)
