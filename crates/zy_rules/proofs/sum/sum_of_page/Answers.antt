use Rattle.std.proofs.Common.{arith, sym}
use Rattle.zy_table.proofs.PageFinds.{rows_of-some, rows_of-none}
use Rattle.zy_node.proofs.RowSums.{no_rows}
use Rattle.zy_rules.proofs.sum.sum_of_page.Goals as goal

pub returns-in-Some : goal.returns-in-Some
returns-in-Some c =
    rw (rows_of-some c.args.p c.in-Some.page.now c.args.me.now.pages (sym c.in-Some.ensures)) (rw c.rows.ensures.value at c.sum_of_rows.ensures)

pub returns-in-None : goal.returns-in-None
returns-in-None c =
    let none = no_rows c.args.others.now c.args.first c.args.last in
    rw (rows_of-none c.args.p c.args.me.now.pages (sym c.in-None.ensures)) (omega (arith, none))
