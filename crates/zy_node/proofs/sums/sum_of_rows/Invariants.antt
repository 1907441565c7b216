use Rattle.std.proofs.Common.{◌≡◌, ◌%◌, ◌+◌, ◌^◌, drop}
use Rattle.zy_node.proofs.RowSums.{sum_beside}
use Rattle.zy_node.proofs.sums.sum_of_rows.Given as goal

abbrev pub invariant-loop-row : goal.invariant-loop-row
invariant-loop-row l =
    (l.sum + sum_beside l.others l.first l.last (drop l.row-index l.rows)) % 2 ^ 32 ≡ sum_beside l.others l.first l.last l.rows % 2 ^ 32
