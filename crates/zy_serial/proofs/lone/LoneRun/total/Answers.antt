use Rattle.std.proofs.Common.{arith}
use Rattle.zy_serial.proofs.LaidRows.{total-laid}
use Rattle.zy_serial.proofs.lone.LoneRun.total.Goals as goal

pub returns : goal.returns
returns c =
    let x = c.self.inside in
    let all = total-laid x.rows.rows c.args.table.now c.args.first c.args.last in
    let own = rw c.rows-own.ensures.value at c.sum_of_rows.ensures in
    let below = rw (c.rows-own.ensures.value, c.rows.ensures.value) at c.sum_of_rows-2.ensures in
    rw (← c.self.view_is) (omega (arith, all, own, below))
