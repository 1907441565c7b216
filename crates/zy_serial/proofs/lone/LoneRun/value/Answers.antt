use Rattle.std.proofs.Common.{refl, sym}
use Rattle.zy_serial.proofs.LaidRows.{get-own, get-below}
use Rattle.zy_serial.proofs.lone.LoneRun.value.Goals as goal

pub returns-in-Some : goal.returns-in-Some
returns-in-Some c =
    let x = c.self.inside in
    rw (← c.self.view_is, get-own x.rows.rows c.args.table.now c.args.key c.in-Some.value (sym c.in-Some.ensures)) refl

pub returns-in-None : goal.returns-in-None
returns-in-None c =
    let x = c.self.inside in
    rw (← c.self.view_is, get-below x.rows.rows c.args.table.now c.args.key (sym c.in-None.ensures)) c.get-in-None.ensures
