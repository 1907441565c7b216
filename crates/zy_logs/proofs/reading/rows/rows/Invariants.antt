-- The rows that were read, and those that the words that are left spell, are those that all of the words spell.
use Rattle.std.proofs.Common.{◌≡◌, ◌+◌, List, length}
use Rattle.zy_isa.specs.declared.row.Row.{Row}
use Rattle.zy_isa.specs.Limits.{max_cap}
use Rattle.zy_page.specs.RowLists.{of_rows}
use Rattle.zy_logs.specs.Cursors.{left}
use Rattle.zy_logs.specs.Rows.{rows_from}
use Rattle.zy_logs.proofs.RowLemmas.{behind}
use Rattle.zy_logs.proofs.reading.rows.rows.Given as goal

abbrev pub invariant-loop-at : goal.invariant-loop-at
invariant-loop-at l = record {
  read : List Row;
  kept : l.rows ≡ of_rows read;
  same : rows_from 0 max_cap (left l.fn.at) ≡ behind read (rows_from l.low l.room (left l.at));
  room : length read + l.room ≡ max_cap;
}

abbrev pub decreases-loop-at : goal.decreases-loop-at
decreases-loop-at l = length (left l.at)
