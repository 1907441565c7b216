use Rattle.std.proofs.Common.{◌≡◌, ◌≤◌, ◌+◌, ◌++◌, drop, length}
use Rattle.std.specs.Vec.{vec_capacity, vec_len}
use Rattle.zy_isa.specs.Rows.{Rising, RowsFit}
use Rattle.zy_table.specs.Rows.{put_rows}
use Rattle.zy_serial.proofs.table.merge.Given as goal

abbrev pub invariant-loop-row : goal.invariant-loop-row
invariant-loop-row l = record {
  laid : l.list.items ++ put_rows (drop l.row-index l.rows) l.left ≡ l.initial.list.items ++ put_rows l.rows l.others;
  rise : Rising 0 l.left;
  room : vec_len l.list + length l.left + length (drop l.row-index l.rows) ≤ vec_capacity l.list;
  fit : RowsFit (drop l.row-index l.rows) → RowsFit l.rows;
}
