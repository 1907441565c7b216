use Rattle.std.proofs.Common.{drop}
use Rattle.zy_isa.specs.Rows.{RowsFit}
use Rattle.zy_isa.proofs.scenario.have_rows.Given as goal

abbrev pub invariant-loop-row : goal.invariant-loop-row
invariant-loop-row l = RowsFit (drop l.row-index l.rows) → RowsFit l.rows
