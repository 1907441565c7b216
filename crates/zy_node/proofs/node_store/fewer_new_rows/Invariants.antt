use Rattle.std.proofs.Common.{◌≡◌, ◌+◌, drop, length}
use Rattle.zy_table.specs.Pages.{rows_of}
use Rattle.zy_table.specs.Rows.{rows_on, rows_not_in}
use Rattle.zy_node.specs.Wireframes.{lows_in}
use Rattle.zy_node.proofs.node_store.fewer_new_rows.Given as goal

abbrev pub invariant-loop-row : goal.invariant-loop-row
invariant-loop-row l =
    let held = rows_of l.node.pages l.p in
    l.limit + length (rows_not_in (rows_on (lows_in l.node.wire) l.p (drop l.row-index l.rows)) held)
    ≡ l.left + length (rows_not_in (rows_on (lows_in l.node.wire) l.p l.rows) held)
